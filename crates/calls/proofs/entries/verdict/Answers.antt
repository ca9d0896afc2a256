-- What the judge ensures is the definition, of which the demands are proved.
use mathlib.Core.Path.{subst⁻¹}
use Rattle.promises.specs.Calls.{Judging}
use Rattle.promises.proofs.Calls.{judging}
use Rattle.calls.proofs.entries.verdict.Goals as goal

pub returns : goal.returns
returns c = subst⁻¹ (Judging _) c.verdict.ensures (judging _)
