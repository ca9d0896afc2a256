-- A block within the list is copied; the last one takes what is left of it and the first of the filling.
use mathlib.Core.Path.{◌≡◌, refl, ◌∙◌}
use Prim.Native.Nat.{◌-◌}
use native.Mathlib.Omega.{arith}
use borrow.Author.Rules.{rules}
use lib.ListN.{length, replicate}
use Rattle.octets.proofs.Parts.{part_front}
use Rattle.blocks.proofs.Loops.{over_end}
use Rattle.blocks.proofs.filled_block.Goals as goal

pub returns-then-left-ge16 : goal.returns-then-left-ge16
returns-then-left-ge16 c =
    let a = c.args in
    c.part.ensures ∙ part_front 16 a.at a.s.now a.filling.now (omega arith)

pub returns : goal.returns
returns c =
    let a = c.args in
    let sixteen : length a.filling.now ≡ 16 = search rules in
    over_end a.s.now a.filling.now (replicate 16 0) _ _ a.at (length a.s.now - a.at) (omega arith) (omega arith) sixteen refl
    c.copy.ensures c.copy-2.ensures
