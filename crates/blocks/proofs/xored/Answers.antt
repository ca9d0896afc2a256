-- The other block is all of its own first sixteen bytes.
use mathlib.Core.Path.{◌≡◌, ap, ◌∙◌}
use native.Mathlib.Omega.{arith}
use borrow.Author.Rules.{rules}
use lib.ListN.{length}
use lib.Seq.{take_all}
use Rattle.fips197.specs.Cipher.{round_key, add_round_key}
use Rattle.blocks.proofs.xored.Goals as goal

pub returns : goal.returns
unfolding round_key
returns c =
    let a = c.args in
    let size : length a.b ≡ 16 = search rules in
    c.add_sixteen.ensures ∙ ap (add_round_key a.a) (take_all 16 a.b (omega arith))
