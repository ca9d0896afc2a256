-- What the function returns and leaves is the definition, which loses nothing.
use Rattle.promises.specs.Calls.{BlockOut}
use Rattle.promises.proofs.Outside.{carried, decrypt_out}
use Rattle.calls.proofs.from_c.aes_decrypt.Goals as goal

pub returns : goal.returns
returns c = carried (BlockOut _ _ _ _) c.ropeshadow_aes_decrypt.ensures (decrypt_out _ _ _ _)
