use mathlib.Core.Path.{◌∙◌}
use Rattle.octets.proofs.Equal.{same_is}
use Rattle.password.proofs.verifier.agree.Goals as goal

pub returns : goal.returns
returns c = c.eq.ensures ∙ same_is _ _
