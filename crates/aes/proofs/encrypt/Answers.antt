-- A key of another length expands to no rounds, which the block operation refuses.
use mathlib.Core.Path.{◌∙◌}
use Rattle.aes.proofs.Keys.{encrypted_expanded}
use Rattle.aes.proofs.encrypt.Goals as goal

pub returns : goal.returns
returns c = c.encrypt_block.ensures ∙ rw c.expand.ensures (encrypted_expanded _ _)
