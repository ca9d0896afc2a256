use mathlib.Core.Path.{◌≡◌}
use Prim.Native.Nat.{ℕ, ◌<◌}
use lib.ListN.{length, get_or}
use Rattle.aes_stream.proofs.Tables.{at}
use Rattle.aes_stream.proofs.words.substituted.Given as goal

abbrev pub invariant-loop-i : goal.invariant-loop-i
invariant-loop-i l = (length l.words ≡ 1024) × ((x : ℕ) → x < l.i → get_or l.words x 0 ≡ at l.table l.shares x)
