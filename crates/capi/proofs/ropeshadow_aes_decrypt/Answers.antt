-- The block of two numbers.
use mathlib.Core.Path.{ap, ◌∙◌}
use Rattle.aes.specs.Aes as Aes
use Rattle.capi.specs.Capi as Capi
use Rattle.capi.proofs.Ended.{block_written}
use Rattle.capi.proofs.ropeshadow_aes_decrypt.Goals as goal

pub returns : goal.returns
unfolding Capi.decrypt_outcome
returns c =
    c.written.ensures ∙ block_written _ _
    ∙ ap (λ (r : Aes.BlockReply). Capi.block_outcome r c.args.out.now) (c.decrypt.ensures ∙ ap (Aes.decrypted c.args.key.now) c.sixteen.ensures)
