use mathlib.Core.Path.{◌∙◌}
use Rattle.octets.proofs.Numbers.{le_sum}
use Rattle.octets.proofs.le64.Goals as goal

pub returns : goal.returns
returns c = c.from_le_bytes.ensures ∙ le_sum 7 _ ∙ c.padded.ensures
