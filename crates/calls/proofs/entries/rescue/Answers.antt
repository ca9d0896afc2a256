-- What the rescuer ensures is the definition, of which the demands are proved.
use mathlib.Core.Path.{subst⁻¹}
use Rattle.promises.specs.Calls.{Rescuing}
use Rattle.promises.proofs.Calls.{rescuing}
use Rattle.calls.proofs.entries.rescue.Goals as goal

pub returns : goal.returns
returns c = subst⁻¹ (Rescuing _ _ _ _) c.«open».ensures (rescuing _ _ _)
