-- A key of another length expands to no rounds, which the block operation refuses.
use mathlib.Core.Path.{◌∙◌}
use Rattle.aes.proofs.Keys.{decrypted_expanded}
use Rattle.aes.proofs.decrypt.Goals as goal

pub returns : goal.returns
returns c = c.decrypt_block.ensures ∙ rw c.expand.ensures (decrypted_expanded _ _)
