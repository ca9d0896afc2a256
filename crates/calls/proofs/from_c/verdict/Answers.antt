-- What the function returns and leaves is the definition, which loses nothing.
use mathlib.Core.Path.{ap, subst⁻¹}
use Rattle.crossing.specs.Crossing.{told}
use Rattle.promises.specs.Calls.{VerdictOut}
use Rattle.promises.proofs.Outside.{verdict_out}
use Rattle.calls.proofs.from_c.verdict.Goals as goal

pub returns : goal.returns
returns c = subst⁻¹ (VerdictOut _) (ap told c.ropeshadow_verdict.ensures) (verdict_out _)
