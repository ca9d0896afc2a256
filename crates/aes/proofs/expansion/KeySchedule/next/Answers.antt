-- The word nk places back, and what the word before adds to it.
use mathlib.Core.Path.{◌≡◌, ap, ap₂, ◌∙◌}
use lib.ListN.{length}
use Rattle.fips197.specs.Field.{xor}
use Rattle.fips197.specs.Cipher.{add_round_key}
use Rattle.fips197.specs.Expansion.{key_word, turned, next}
use Rattle.fips197.proofs.Schedule.{word_added}
use borrow.Author.Rules.{rules}
use Rattle.aes.proofs.expansion.KeySchedule.next.Goals as goal

pub returns : goal.returns
unfolding xor next key_word
returns c =
    let u = c.part-u.result in
    let t = c.turned-t.result in
    let hu : length u ≡ 4 = search rules in
    let ht : length t ≡ 4 = search rules in
    let a = c.args in
    word_added u t hu ht ∙ ap₂ add_round_key c.part-u.ensures (c.turned-t.ensures ∙ ap (turned a.self.now.nk a.i) c.part.ensures)
