-- Each turn lays one block more, at its place past `at`; what lies past it is still the old buffer.
use mathlib.Core.Path.{◌≡◌, refl, ◌∙◌}
use mathlib.Core.List.{List, ◌++◌}
use Prim.Native.Nat.{ℕ, ◌+◌, ◌*◌, ◌/◌, ◌≤◌}
use native.Mathlib.Nat.{zero-add}
use native.Mathlib.Numerals.{add-one}
use native.Mathlib.Omega.{arith}
use lib.ListN.{length, take, length-append}
use lib.Seq.{paste-zero, length-take-le}
use Rattle.octets.proofs.Parts.{part_part}
use Rattle.steps.specs.Steps.{unit, before, seal_all}
use Rattle.steps.proofs.Turns.{seal_turn, seal_last}
use Rattle.blocks.specs.Blocks.{mode_step, step_by, step_from}
use Rattle.blocks.proofs.Aes.{from_sized}
use Rattle.blocks.proofs.encrypt_by.Goals as goal

pub loop-k-init : goal.loop-k-init
unfolding before
loop-k-init c =
    let a = c.args in
    (refl, paste-zero a.out.now a.at (seal_all (step_from a.place a.mode a.encryption.now.w.now a.encryption.now.rounds) (take a.size (a.src.now ++ a.filling.now))), λ h. refl)

pub loop-k-preserved : goal.loop-k-preserved
unfolding seal_all before unit step_by mode_step
loop-k-preserved c =
    let l = c.loop-k in
    let a = c.args in
    let within : 16 * l.k + 16 ≤ a.size = omega arith in
    let x : List ℕ = a.src.now ++ a.filling.now in
    let s : List ℕ = take a.size x in
    let long : length s ≡ a.size = length-take-le a.size x (rw length-append (omega arith)) in
    let step = step_from a.place a.mode a.encryption.now.w.now a.encryption.now.rounds in
    let z = from_sized a.mode a.encryption.now.w.now a.encryption.now.rounds a.place in
    let n = length s / 16 in
    let ex : c.filled_block-plain.result ≡ unit 16 l.k s =
    c.filled_block-plain.ensures ∙ rw (part_part 16 (16 * l.k) a.size 0 x (omega arith), zero-add) in
    let ep = l.invariant.2 (omega arith) in
    let more : 16 * (l.k + 1) ≡ 16 * l.k + 16 = omega arith in (
      c.copy.auto.d ∙ l.invariant.0,
      rw more (seal_turn step z n l.k (16 * l.k) 16 a.at (a.at + 16 * l.k) s a.out.now l.out c.copy.new.d c.seal_block-sealed.result l.before
          c.filled_block-plain.result (omega arith) refl (omega arith) refl (omega arith) ex ep c.seal_block-sealed.ensures l.invariant.1 c.copy.ensures),
      λ h. rw add-one (seal_last step z n l.k s c.seal_block-sealed.result l.before c.filled_block-plain.result (omega arith) ex ep c.seal_block-sealed.ensures),
    )
