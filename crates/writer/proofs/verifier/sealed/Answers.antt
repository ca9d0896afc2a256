-- 48 bytes are three blocks, encrypted from the start.
use mathlib.Core.Path.{◌≡◌}
use borrow.Author.Rules.{rules}
use lib.ListN.{length, replicate}
use Rattle.writer.proofs.Laid.{sealed_laid}
use Rattle.writer.proofs.verifier.sealed.Goals as goal

pub returns : goal.returns
returns c =
    let a = c.args in
    let l : length a.plain ≡ 48 = search rules in
    λ k t e. sealed_laid a.key _ k a.plain (replicate 16 0) _ t e c.start.ensures l c.encrypt.ensures
