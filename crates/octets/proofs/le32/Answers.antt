use mathlib.Core.Path.{◌∙◌}
use Rattle.octets.proofs.Numbers.{le_sum}
use Rattle.octets.proofs.le32.Goals as goal

pub returns : goal.returns
returns c = c.from_le_bytes.ensures ∙ le_sum 3 _ ∙ c.padded.ensures
