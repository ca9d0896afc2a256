use mathlib.Core.Path.{◌≡◌}
use Prim.Native.Nat.{◌*◌}
use lib.ListN.{length, take}
use lib.Seq.{paste}
use Rattle.derivation.specs.Key as Key
use Rattle.derivation.proofs.key.Salted.message.Given as goal

abbrev pub invariant-loop-i : goal.invariant-loop-i
invariant-loop-i l = (length l.b ≡ 526) × (l.b ≡ paste l.initial.b 16 (Key.unit_bytes (take l.i l.unit-items)) (2 * l.i))
