-- Each column is its four bytes.
use mathlib.Core.List.{◌++◌}
use mathlib.Core.Path.{◌≡◌, ap₂}
use lib.ListN.{length}
use Rattle.fips197.proofs.States.{opened}
use borrow.Author.Rules.{rules}
use Rattle.aes_rounds.proofs.joined.Goals as goal

pub returns : goal.returns
returns c =
    let a = c.args in
    let p : length a.a ≡ 4 = search rules in
    let q : length a.b ≡ 4 = search rules in
    let r : length a.c ≡ 4 = search rules in
    let t : length a.d ≡ 4 = search rules in
    ap₂ ◌++◌ (ap₂ ◌++◌ (ap₂ ◌++◌ (opened 4 a.a p) (opened 4 a.b q)) (opened 4 a.c r)) (opened 4 a.d t)
