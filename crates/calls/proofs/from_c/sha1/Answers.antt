-- What the function returns and leaves is the definition, which loses nothing.
use Rattle.promises.specs.Calls.{HashOut}
use Rattle.promises.proofs.Outside.{carried, hash_out}
use Rattle.calls.proofs.from_c.sha1.Goals as goal

pub returns : goal.returns
returns c = carried (HashOut _ _) c.ropeshadow_sha1.ensures (hash_out _ _)
