-- Each turn lays one block more, or the part of the last one that is wanted; what lies past it is still the old buffer.
use mathlib.Core.Path.{◌≡◌, refl, ◌∙◌}
use Prim.Native.Nat.{◌+◌, ◌*◌, ◌/◌, ◌<◌, min}
use native.Mathlib.Numerals.{add-one}
use native.Mathlib.Omega.{arith}
use lib.ListN.{length}
use lib.Seq.{paste-zero}
use Rattle.steps.specs.Steps.{unit, before, open_all}
use Rattle.steps.proofs.Turns.{open_turn}
use Rattle.blocks.specs.Blocks.{mode_step, step_by, step_from}
use Rattle.blocks.proofs.Aes.{from_sized}
use Rattle.blocks.proofs.decrypt_by.Goals as goal

pub loop-k-init : goal.loop-k-init
unfolding before
loop-k-init c =
    let a = c.args in
    let none : min a.size 0 ≡ 0 = omega arith in
    (refl, rw none (paste-zero a.out.now 0 (open_all (step_from a.place a.mode a.decryption.now.w.now a.decryption.now.rounds) a.src.now)), λ h. refl)

pub loop-k-preserved : goal.loop-k-preserved
unfolding open_all before unit step_by mode_step
loop-k-preserved c =
    let l = c.loop-k in
    let a = c.args in
    let n = c.min-wanted.result in
    let whole : 16 * l.k < a.size = omega (arith, c.div_ceil-k-end.ensures) in
    let here : min a.size (16 * l.k) ≡ 16 * l.k = omega arith in
    let next : min a.size (16 * (l.k + 1)) ≡ 16 * l.k + n = omega (arith, c.min-wanted.ensures) in
    let step = step_from a.place a.mode a.decryption.now.w.now a.decryption.now.rounds in (
      c.copy.auto.d ∙ l.invariant.0,
      rw next (open_turn step (from_sized a.mode a.decryption.now.w.now a.decryption.now.rounds a.place) (length a.src.now / 16) l.k (16 * l.k) n 0 (16 * l.k)
          a.src.now a.out.now l.out c.copy.new.d c.open_block-plain.result l.before c.part-block.result
          (omega arith) refl (omega arith) (omega arith) (omega arith) c.part-block.ensures (l.invariant.2 whole) c.open_block-plain.ensures
          (rw here at l.invariant.1) c.copy.ensures),
      λ h. rw add-one c.part-block.ensures,
    )
