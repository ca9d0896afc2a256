-- X, and Y after it.
use Rattle.derivation.proofs.Message.{derived_law}
use Rattle.derivation.proofs.key.derived.Goals as goal

pub returns : goal.returns
returns c = derived_law c.args.b _ _ _ _ c.masked_hash-x.ensures c.masked_hash-y.ensures c.copy.ensures c.copy-2.ensures
