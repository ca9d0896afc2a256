use mathlib.Core.Path.{◌≡◌}
use lib.Seq.{paste}
use Rattle.writer.proofs.put_name.Given as goal

abbrev pub invariant-loop-i : goal.invariant-loop-i
invariant-loop-i l = l.out ≡ paste l.initial.out 44 l.name l.i
