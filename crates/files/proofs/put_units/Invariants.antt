use mathlib.Core.Path.{◌≡◌}
use lib.ListN.{take}
use Rattle.files.specs.Files.{units}
use Rattle.files.proofs.put_units.Given as goal

abbrev pub invariant-loop-i : goal.invariant-loop-i
invariant-loop-i l = take l.i l.d ≡ take l.i (units l.password)
