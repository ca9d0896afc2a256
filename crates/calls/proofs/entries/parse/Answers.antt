-- What the parser ensures is the definition, of which the demands are proved.
use mathlib.Core.Path.{subst⁻¹}
use Rattle.promises.specs.Calls.{Parsing}
use Rattle.promises.proofs.Calls.{parsing}
use Rattle.calls.proofs.entries.parse.Goals as goal

pub returns : goal.returns
returns c = subst⁻¹ (Parsing _ _) c.parse.ensures (parsing _ _)
