-- In each row's table a byte finds the first one's word, moved.
use native.Mathlib.Omega.{arith}
use lib.Dec.{lit<}
use Rattle.fips197.specs.Field.{xor}
use Rattle.fips197.specs.Products.{column_sum}
use Rattle.aes_stream.proofs.Tables.{by_row, first_row}
use Rattle.aes_stream.proofs.rounds.summed.Goals as goal

pub returns : goal.returns
unfolding xor column_sum
returns c =
    λ p q s t sub h.
    let a = c.args in
    let words = a.words.now in
    rw (
      c.share.ensures,
      c.share-2.ensures,
      c.share-3.ensures,
      c.share-4.ensures,
      first_row p q s t sub words h a.a (omega arith),
      by_row p q s t sub words h 1 a.b (lit< tt) (omega arith),
      by_row p q s t sub words h 2 a.c (lit< tt) (omega arith),
      by_row p q s t sub words h 3 a.d (lit< tt) (omega arith),
    )
