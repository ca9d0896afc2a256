use mathlib.Core.Path.{ap, ◌∙◌}
use lib.Seq.{paste}
use Rattle.octets.proofs.Numbers.{low_first_bytes}
use Rattle.octets.proofs.put_le32.Goals as goal

pub returns : goal.returns
returns c = c.copy.ensures ∙ ap (λ x. paste c.args.d.now c.args.at x 4) (c.to_le_bytes.ensures ∙ low_first_bytes 4 c.args.v)
