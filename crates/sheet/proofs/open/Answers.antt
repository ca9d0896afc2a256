-- The ways out of `opened`: a refusal by the lock or by the stream, and the package.
use mathlib.Core.Path.{◌≡◌, sym, ap, ◌∙◌}
use Prim.Native.Nat.{◌-◌, ◌≤◌}
use native.Mathlib.Omega.{arith}
use lib.ListN.{length, drop, length-drop}
use lib.Seq.{take_all}
use Rattle.std.proofs.lemmas.Result.{err_from_is_err_and}
use Rattle.answers.specs.Rules.{first_of}
use Rattle.blocks.specs.Blocks.{size_of}
use Rattle.blocks.specs.declared.Place.{Place}
use Rattle.password.specs.Lock.{asked}
use Rattle.password.specs.Verdict.{judged}
use Rattle.password.proofs.Laws.{unlocked_zero}
use Rattle.lengths.specs.Lengths.{package_limit}
use Rattle.sheet.specs.Scheme.{mode_of}
use Rattle.sheet.specs.Sheet.{open_rules}
use Rattle.sheet.proofs.Lengths.{Openable, openable_blocks}
use Rattle.sheet.proofs.Laws.{open_locked, open_unfit, open_after, open_holds}
use Rattle.sheet.proofs.Keyed.{step_under}
use Rattle.sheet.proofs.Scheme.{mode_size}
use Rattle.sheet.proofs.Written.{open_written}
use Rattle.sheet.proofs.open.Goals as goal
use Rattle.sheet.proofs.open.Goals.{In_ok-fields, In_ok-stream_answer}

accepted : (c : In_ok-fields) → judged (asked c.args.lock.now) ≡ 0
accepted c = unlocked_zero _ c.in_ok-fields.field-0 c.in_ok-fields.ensures

-- no rule is broken
kept : (c : In_ok-stream_answer) → judged (asked c.args.lock.now) ≡ 0 → first_of (open_rules (asked c.args.lock.now) c.args.stream.now (length c.args.out.now)) ≡ 0
kept c v = open_after (asked c.args.lock.now) c.args.stream.now c.args.out.now v ∙ sym c.in_ok-stream_answer.ensures

-- so the stream fits
fits : (c : In_ok-stream_answer) → judged (asked c.args.lock.now) ≡ 0 → Openable c.args.stream.now (length c.args.out.now)
fits c v = (open_holds (asked c.args.lock.now) c.args.stream.now c.args.out.now (kept c v)).1

pub returns-in_err-fields : goal.returns-in_err-fields
returns-in_err-fields c =
    let p = err_from_is_err_and c.from_residual.result c.from_residual.ensures.1 in
    rw (p.1, p.2) (open_locked (asked c.args.lock.now) c.args.stream.now c.args.out.now _ c.in_err-fields.ensures)

pub returns-in_err-stream_answer : goal.returns-in_err-stream_answer
returns-in_err-stream_answer c =
    let p = err_from_is_err_and c.from_residual-in_err-stream_answer.result c.from_residual-in_err-stream_answer.ensures.1 in
    rw (p.1, p.2) (open_unfit (asked c.args.lock.now) c.args.stream.now c.args.out.now _ (accepted (goal.at.returns-in_err-stream_answer c).In_ok-fields) c.in_err-stream_answer.ensures)

pub slice_bounds-decrypt-count : goal.slice_bounds-decrypt-count
slice_bounds-decrypt-count c =
    let w = goal.at.slice_bounds-decrypt-count c in
    (fits w.In_ok-stream_answer (accepted w.In_ok-fields)).fits.headed

pub slice_bounds-decrypt-start : goal.slice_bounds-decrypt-start
slice_bounds-decrypt-start c =
    let w = goal.at.slice_bounds-decrypt-start c in
    let h = (fits w.In_ok-stream_answer (accepted w.In_ok-fields)).fits.headed in
    omega arith

pub decrypt-requires : goal.decrypt-requires
unfolding package_limit
decrypt-requires c =
    let w = goal.at.decrypt-requires c in
    let k = fits w.In_ok-stream_answer (accepted w.In_ok-fields) in
    let z = c.stream_size-size.ensures in
    let p = ap (λ (p : Place). p.number) c.start.ensures in
    let m : size_of c.mode_of-mode.result ≤ c.stream_size-size.result = rw c.mode_of-mode.ensures (mode_size _ _) in
    let s = c.args.stream.now in
    let all = take_all (length s - 8) (drop 8 s) (simp length-drop (omega arith)) in
    record { fits = (rw (z, all) (openable_blocks _ _ k), rw z k.roomy, omega (arith, z, p, k.fits.limited), omega (arith, z, m, k.fits.limited)) }

pub returns : goal.returns
returns c =
    let w = goal.at.returns c in
    let v = accepted w.In_ok-fields in
    rw c.done.ensures.0 (open_written _ _ _ _ _ _ _ (kept w.In_ok-stream_answer v) c.stream_size-size.ensures
    (step_under _ c.in_ok-fields.field-0 c.in_ok-fields.ensures _ _ _ (c.mode_of-mode.ensures ∙ ap (mode_of _) c.stream_size-size.ensures) c.start.ensures)
    c.decrypt.ensures c.done.ensures.1)
