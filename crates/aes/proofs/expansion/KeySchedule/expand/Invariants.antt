use mathlib.Core.Path.{◌≡◌}
use mathlib.Core.List.{◌++◌}
use Prim.Native.Nat.{◌-◌, ◌*◌}
use lib.ListN.{replicate}
use Rattle.fips197.specs.Expansion as Expansion
use Rattle.aes.proofs.expansion.KeySchedule.expand.Given as goal

abbrev pub invariant-loop-i : goal.invariant-loop-i
invariant-loop-i l = l.w ≡ Expansion.extended l.self.nk l.key (l.i - l.self.nk) ++ replicate (240 - 4 * l.i) 0
