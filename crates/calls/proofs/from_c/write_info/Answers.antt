-- What the function returns and leaves is the definition, which loses nothing.
use Rattle.promises.specs.Calls.{Writing}
use Rattle.promises.proofs.Outside.{carried, write_out}
use Rattle.calls.proofs.from_c.write_info.Goals as goal

pub returns : goal.returns
returns c = carried (Writing _ _) c.ropeshadow_write_info.ensures (write_out _ _ _ _ _ _ _ _ _ _)
