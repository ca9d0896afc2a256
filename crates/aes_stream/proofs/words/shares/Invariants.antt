use mathlib.Core.Path.{◌≡◌}
use Prim.Native.Nat.{ℕ, ◌<◌}
use lib.ListN.{get_or}
use Rattle.fips197.specs.Products.{share}
use Rattle.aes_stream.proofs.words.shares.Given as goal

abbrev pub invariant-loop-i : goal.invariant-loop-i
invariant-loop-i l = (x : ℕ) → x < l.i → get_or l.w-items x 0 ≡ share 2 3 1 1 x
