use mathlib.Core.Path.{◌≡◌}
use Rattle.sha1_digest.specs.Sha1.{output}
use Rattle.derivation.specs.Key.{turns}
use Rattle.derivation.proofs.turns.spun.Given as goal

abbrev pub invariant-loop-i : goal.invariant-loop-i
invariant-loop-i l = output l.h ≡ turns l.i (output l.initial.h)
