-- What the function returns and leaves is the definition, which loses nothing.
use Rattle.promises.specs.Calls.{Sealing}
use Rattle.promises.proofs.Outside.{carried, seal_out}
use Rattle.calls.proofs.from_c.seal.Goals as goal

pub returns : goal.returns
returns c = carried (Sealing _ _ _ _ _) c.ropeshadow_seal.ensures (seal_out _ _ _ _ _ _)
