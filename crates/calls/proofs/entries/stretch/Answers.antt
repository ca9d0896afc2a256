-- What the opener of stretches ensures is the definition, of which the demands are proved.
use mathlib.Core.Path.{subst⁻¹}
use Rattle.promises.specs.Calls.{Stretching}
use Rattle.promises.proofs.Calls.{stretching}
use Rattle.calls.proofs.entries.stretch.Goals as goal

pub returns : goal.returns
returns c = subst⁻¹ (Stretching _ _ _ _ _) c.«open».ensures (stretching _ _ _ _ _)
