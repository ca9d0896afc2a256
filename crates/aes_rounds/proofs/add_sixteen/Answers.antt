-- Each half is a sum of two words.
use mathlib.Core.Path.{◌≡◌, ◌∙◌}
use native.Mathlib.Omega.{arith}
use borrow.Author.Rules.{rules}
use lib.ListN.{length}
use Rattle.fips197.specs.Field.{xor}
use Rattle.fips197.proofs.Words.{added}
use Rattle.aes_rounds.proofs.add_sixteen.Goals as goal

pub returns : goal.returns
unfolding xor
returns c =
    let l = c.eight-4.ensures in
    let y = c.eight-3.ensures in
    let k = c.eight-2.ensures in
    let x = c.eight.ensures in
    let a = c.args in
    let fit = c.requires in
    let size : length a.s ≡ 16 = search rules in
    added a.s a.w.now c.put_le64.new.d c.put_le64-2.new.d a.n size (omega arith) x.1 k.1
    (c.put_le64.ensures ∙ rw (x.0, k.0)) y.1 l.1 (c.put_le64-2.ensures ∙ rw (y.0, l.0))
