-- The round works column by column.
use mathlib.Core.Path.{◌≡◌}
use native.Mathlib.Omega.{arith}
use borrow.Author.Rules.{rules}
use lib.ListN.{length}
use Rattle.fips197.proofs.Equivalent.{by_keyed_columns}
use Rattle.aes_stream.proofs.rounds.round.Goals as goal

pub returns : goal.returns
returns c =
    λ p q u t sub h.
    let a = c.args in
    let size : length a.s ≡ 16 = search rules in
    by_keyed_columns p q u t sub a.s a.w.now a.n _ _ _ _ _ size (omega arith) c.joined.ensures
    (c.column.ensures p q u t sub h) (c.column-2.ensures p q u t sub h)
    (c.column-3.ensures p q u t sub h) (c.column-4.ensures p q u t sub h)
