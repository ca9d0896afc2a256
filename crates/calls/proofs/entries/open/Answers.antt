-- What the opener ensures is the definition, of which the demands are proved.
use mathlib.Core.Path.{subst⁻¹}
use Rattle.promises.specs.Calls.{Opening}
use Rattle.promises.proofs.Calls.{opening}
use Rattle.calls.proofs.entries.open.Goals as goal

pub returns : goal.returns
returns c = subst⁻¹ (Opening _ _ _) c.«open».ensures (opening _ _ _)
