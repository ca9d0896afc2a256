-- What the function returns and leaves is the definition, which loses nothing.
use Rattle.promises.specs.Calls.{Opening}
use Rattle.promises.proofs.Outside.{carried, open_out}
use Rattle.calls.proofs.from_c.open.Goals as goal

pub returns : goal.returns
returns c = carried (Opening _ _ _) c.ropeshadow_open.ensures (open_out _ _ _)
