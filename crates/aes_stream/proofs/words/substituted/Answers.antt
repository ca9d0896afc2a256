-- A word is laid at each place.
use mathlib.Core.Path.{◌≡◌}
use native.Mathlib.Omega.{arith}
use borrow.Author.Rules.{rules}
use lib.ListN.{length}
use Rattle.aes_stream.proofs.Tables.{by_table}
use Rattle.aes_stream.proofs.words.substituted.Goals as goal

pub returns : goal.returns
returns c =
    λ p q s t b h.
    let a = c.args in
    let l = c.loop-i in
    let long : length a.table.now ≡ 256 = search rules in
    by_table p q s t a.table.now a.shares.now l.words long l.invariant.0 (λ x k. l.invariant.1 x (omega (arith, k))) b h
