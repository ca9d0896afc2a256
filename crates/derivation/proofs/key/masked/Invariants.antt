use mathlib.Core.Path.{◌≡◌}
use Rattle.derivation.proofs.Message.{masked_to}
use Rattle.derivation.proofs.key.masked.Given as goal

abbrev pub invariant-loop-i : goal.invariant-loop-i
invariant-loop-i l = l.m ≡ masked_to l.c l.fn.b l.i
