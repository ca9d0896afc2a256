-- All words are laid.
use mathlib.Core.Path.{◌≡◌}
use native.Mathlib.Omega.{arith}
use borrow.Author.Rules.{rules}
use lib.ListN.{length}
use Rattle.fips197.specs.Products.{entry, laid}
use Rattle.fips197.proofs.Steps.{tabulated}
use Rattle.products.proofs.laid.Goals as goal

pub returns : goal.returns
unfolding laid
returns c =
    let a = c.args in
    let l = c.loop-i in
    let size : length l.w-items ≡ 256 = search rules in
    tabulated 256 (entry a.first.now a.second.now a.third.now a.fourth.now) l.w-items size (λ x h. l.invariant x (omega (arith, h)))
