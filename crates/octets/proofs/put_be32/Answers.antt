use mathlib.Core.Path.{ap, ◌∙◌}
use lib.Seq.{paste}
use Rattle.octets.proofs.Numbers.{high_first_bytes}
use Rattle.octets.proofs.put_be32.Goals as goal

pub returns : goal.returns
returns c = c.copy.ensures ∙ ap (λ x. paste c.args.d.now c.args.at x 4) (c.to_be_bytes.ensures ∙ high_first_bytes 4 c.args.v)
