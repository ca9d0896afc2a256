-- What is known where no rule is broken: the stretch can be reached, so its blocks lie within the ciphertext.
use mathlib.Core.Path.{sym, ap, ◌∙◌}
use Prim.Native.Nat.{◌-◌, ◌≤◌, ◌<◌, ◌^◌}
use native.Mathlib.Omega.{arith}
use lib.ListN.{length, drop, length-drop}
use lib.Seq.{take_all}
use Rattle.blocks.specs.Blocks.{size_of}
use Rattle.lengths.specs.Lengths.{stream_size, package_limit}
use Rattle.sheet.specs.Scheme.{mode_of}
use Rattle.sheet.proofs.Lengths.{openable_blocks}
use Rattle.sheet.proofs.Scheme.{mode_size}
use Rattle.stretch.proofs.Laws.{Reachable, reachable, reachable_opens}
use Rattle.stretch.proofs.Laid.{unlocked_stretch}
use Rattle.stretch.proofs.open.Goals as goal
use Rattle.stretch.proofs.open.Goals.{In_ok-answer}

reached : (c : In_ok-answer) → Reachable c.args.stream.now c.args.from c.args.to (length c.args.out.now)
reached c = (reachable _ _ _ _).0 (sym c.in_ok-answer.ensures)

pub slice_bounds-blocks-count : goal.slice_bounds-blocks-count
slice_bounds-blocks-count c = (reached (goal.at.slice_bounds-blocks-count c).In_ok-answer).fits.headed

pub slice_bounds-blocks-start : goal.slice_bounds-blocks-start
slice_bounds-blocks-start c =
    let h = (reached (goal.at.slice_bounds-blocks-start c).In_ok-answer).fits.headed in
    omega arith

-- the mode chains no more bytes than the limit
pub invariant_of-open_bytes : goal.invariant_of-open_bytes
unfolding package_limit
invariant_of-open_bytes c =
    let k = reached (goal.at.invariant_of-open_bytes c).In_ok-answer in
    let m : size_of c.mode_of-mode.result ≤ stream_size c.args.stream.now = rw (c.mode_of-mode.ensures, c.stream_size.ensures) (mode_size _ _) in
    let l : size_of c.mode_of-mode.result < 2 ^ 44 = omega (arith, m, k.fits.limited) in
    record { limited = l }

pub open_bytes-requires : goal.open_bytes-requires
open_bytes-requires c =
    let k = reached (goal.at.open_bytes-requires c).In_ok-answer in
    let n = c.span-size.ensures in
    let s = c.args.stream.now in
    let all = take_all (length s - 8) (drop 8 s) (simp length-drop (omega arith)) in
    let b = openable_blocks _ _ (reachable_opens k) in
    record { within = rw all (omega (arith, n, k.order, k.within, b)); room = omega (arith, n, k.roomy) }

pub returns : goal.returns
returns c =
    rw c.done.ensures.0 (unlocked_stretch _ c.in_ok-fields.field-0 c.in_ok-fields.ensures _ _ _ _ _ _ _ _ (reached (goal.at.returns c).In_ok-answer) c.span-size.ensures
    (c.mode_of-mode.ensures ∙ ap (mode_of _) c.stream_size.ensures) c.open_bytes.ensures c.done.ensures.1)
