-- Two fields laid one after the other fill the bytes.
use mathlib.Core.Path.{◌≡◌, refl}
use borrow.Author.Rules.{rules}
use lib.ListN.{length, replicate}
use Rattle.octets.proofs.Filled.{none, more, whole}
use Rattle.password.proofs.verifier.fields.Goals as goal

pub returns : goal.returns
returns c =
    let a = c.args in
    let v : length a.verifier ≡ 16 = search rules in
    let h : length a.hash ≡ 32 = search rules in
    whole (more 16 32 0 a.hash _ (more 0 16 32 a.verifier _ (none (replicate 48 0) 48 refl) v c.copy.ensures) h c.copy-2.ensures)
