-- Chained, a block with its segment's vector or with the block before; else itself.
use mathlib.Core.Path.{◌≡◌, sym, ◌∙◌}
use mathlib.Core.Bool.{true}
use Prim.Native.Nat.{◌*◌, ◌/◌}
use native.Mathlib.Omega.{arith}
use borrow.Author.Tests.{eqb-true}
use Rattle.steps.specs.Chained.{segment, begins, link}
use Rattle.blocks.specs.Blocks.{with_link}
use Rattle.blocks.proofs.with_link.Goals as goal
use Rattle.blocks.proofs.with_link.Goals.{Then-begins}

-- a segment begins with the block
starts : (c : Then-begins) → begins c.in-Chained.size c.args.place.number ≡ true
starts c = sym c.begins.ensures ∙ c.if-begins.true

-- so its number is 256 times the segment's
numbered : (c : Then-begins) → c.args.place.number ≡ 256 * segment c.in-Chained.size c.args.place.number
unfolding begins
numbered c = eqb-true _ _ (starts c)

pub overflow_cast-number : goal.overflow_cast-number
unfolding segment
overflow_cast-number c =
    let e = numbered (goal.at.overflow_cast-number c).Then-begins in
    let p = rw c.in-Chained.is at c.requires in
    omega arith

pub returns-then-begins : goal.returns-then-begins
unfolding with_link link
returns-then-begins c =
    let w = (goal.at.returns-then-begins c).Then-begins in
    let n : c.args.place.number / 256 ≡ segment c.in-Chained.size c.args.place.number = omega (arith, numbered w) in
    c.xored.ensures ∙ rw (c.in-Chained.is, c.starting_vector.ensures, starts w, n)

pub returns-in-Ecb : goal.returns-in-Ecb
unfolding with_link
returns-in-Ecb c = rw c.in-Ecb.is

pub returns-else-begins : goal.returns-else-begins
unfolding with_link link
returns-else-begins c = c.xored-in-Chained.ensures ∙ rw (c.in-Chained.is, sym c.begins.ensures ∙ c.if-begins.false)
