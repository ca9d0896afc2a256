-- 48 bytes are three blocks, decrypted from the start.
use mathlib.Core.Path.{◌≡◌}
use borrow.Author.Rules.{rules}
use lib.ListN.{length}
use Rattle.password.proofs.Checked.{opened_law}
use Rattle.password.proofs.verifier.opened.Goals as goal

pub returns : goal.returns
returns c =
    let a = c.args in
    let l : length a.fields ≡ 48 = search rules in
    λ k t e. opened_law a.key _ k a.fields _ t e c.start.ensures l c.decrypt.ensures
