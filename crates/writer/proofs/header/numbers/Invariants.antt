use mathlib.Core.Path.{◌≡◌}
use mathlib.Core.List.{flat_map}
use Prim.Native.Nat.{◌*◌}
use lib.ListN.{length, take}
use lib.Seq.{paste}
use Rattle.octets.specs.Octets.{le_bytes}
use Rattle.writer.proofs.header.numbers.Given as goal

abbrev pub invariant-loop-i : goal.invariant-loop-i
invariant-loop-i l = (length l.b ≡ 40) × (l.b ≡ paste l.initial.b 0 (flat_map (le_bytes 4) (take l.i l.n-items)) (4 * l.i))
