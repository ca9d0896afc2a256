-- The schedule and the rounds of the six words' block, which is that of their hash.
use borrow.Author.Rules.{rules}
use Rattle.sha1_rounds.proofs.Steps.{words_all, rounds_all, compressed}
use Rattle.sha1_digest.proofs.Short.{six_words}
use Rattle.sha1_digest.proofs.single.six.Goals as goal

pub returns : goal.returns
returns c =
    let words = words_all _ c.begun-w.ensures c.extend.ensures c.extend-2.ensures c.extend-3.ensures c.extend-4.ensures (search rules) in
    let rounds = rounds_all _ c.span-first.ensures c.span-second.ensures c.span-third.ensures c.span.ensures in
    let a = c.args in
    let f = c.ranges in
    simp (compressed _ _ _ words rounds c.sums.ensures, c.start-s.ensures)
    (six_words a.a a.b a.c a.d a.e a.f f.a.fits f.b.fits f.c.fits f.d.fits f.e.fits f.f.fits)
