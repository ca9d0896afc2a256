-- The ways out of `rescued`: a refusal by the lock or by the stream, and what there is of the package.
use mathlib.Core.Path.{◌≡◌, sym, ap, ◌∙◌}
use Prim.Native.Nat.{◌-◌, ◌*◌, ◌/◌, ◌≤◌}
use native.Mathlib.Omega.{arith}
use lib.ListN.{length, drop, length-drop}
use lib.Seq.{take_all}
use Rattle.std.proofs.lemmas.Result.{err_from_is_err_and}
use Rattle.answers.specs.Rules.{first_of}
use Rattle.blocks.specs.Blocks.{size_of}
use Rattle.blocks.specs.declared.Place.{Place}
use Rattle.password.specs.Lock.{asked}
use Rattle.password.specs.Verdict.{judged}
use Rattle.password.proofs.Laws.{unlocked_zero}
use Rattle.lengths.specs.Lengths.{stream_size, package_limit}
use Rattle.sheet.specs.Scheme.{mode_of}
use Rattle.sheet.proofs.Keyed.{sheet_width, step_under}
use Rattle.sheet.proofs.Scheme.{mode_size}
use Rattle.rescue.specs.Rescue.{rescue_rules, counted}
use Rattle.rescue.specs.declared.Counts.{Counts}
use Rattle.rescue.proofs.Recovered.{recovered_most}
use Rattle.rescue.proofs.Laws.{Rescuable, counts_of, rescue_locked, rescue_unfit, rescue_after, rescue_holds}
use Rattle.rescue.proofs.Written.{rescue_written}
use Rattle.rescue.proofs.open.Goals as goal
use Rattle.rescue.proofs.open.Goals.{After-counted-counts, In_ok-fields, In_ok-answer}

accepted : (c : In_ok-fields) → judged (asked c.args.lock.now) ≡ 0
accepted c = unlocked_zero _ c.in_ok-fields.field-0 c.in_ok-fields.ensures

-- no rule is broken
kept : (c : In_ok-answer) → judged (asked c.args.lock.now) ≡ 0 → first_of (rescue_rules (asked c.args.lock.now) c.args.stream.now (length c.args.out.now)) ≡ 0
kept c v = rescue_after (asked c.args.lock.now) c.args.stream.now c.args.out.now v ∙ sym c.in_ok-answer.ensures

-- so the stream can be rescued
held : (c : In_ok-answer) → judged (asked c.args.lock.now) ≡ 0 → Rescuable c.args.stream.now (length c.args.out.now)
held c v = (rescue_holds (asked c.args.lock.now) c.args.stream.now c.args.out.now (kept c v)).1

pub returns-in_err-fields : goal.returns-in_err-fields
returns-in_err-fields c =
    let p = err_from_is_err_and c.from_residual.result c.from_residual.ensures.1 in
    rw (p.1, p.2) (rescue_locked (asked c.args.lock.now) c.args.stream.now c.args.out.now _ c.in_err-fields.ensures)

pub returns-in_err-answer : goal.returns-in_err-answer
returns-in_err-answer c =
    let p = err_from_is_err_and c.from_residual-in_err-answer.result c.from_residual-in_err-answer.ensures.1 in
    rw (p.1, p.2) (rescue_unfit (asked c.args.lock.now) c.args.stream.now c.args.out.now _ (accepted (goal.at.returns-in_err-answer c).In_ok-fields) c.in_err-answer.ensures)

pub overflow_sub-stream : goal.overflow_sub-stream
overflow_sub-stream c =
    let w = goal.at.overflow_sub-stream c in
    (held w.In_ok-answer (accepted w.In_ok-fields)).headed

pub counted-counts-requires : goal.counted-counts-requires
counted-counts-requires c =
    let w = goal.at.counted-counts-requires c in
    rw c.stream_size-size.ensures (held w.In_ok-answer (accepted w.In_ok-fields)).limited

pub slice_bounds-decrypt-count : goal.slice_bounds-decrypt-count
slice_bounds-decrypt-count c =
    let w = goal.at.slice_bounds-decrypt-count c in
    (held w.In_ok-answer (accepted w.In_ok-fields)).headed

pub slice_bounds-decrypt-start : goal.slice_bounds-decrypt-start
slice_bounds-decrypt-start c =
    let w = goal.at.slice_bounds-decrypt-start c in
    let h = (held w.In_ok-answer (accepted w.In_ok-fields)).headed in
    omega arith

-- the counts are those of the scheme's unit
counts_are : (c : After-counted-counts) → c.counted-counts.result ≡ counts_of (asked c.args.lock.now) c.args.stream.now c.args.out.now
counts_are c = c.counted-counts.ensures ∙ rw (c.stream_size-size.ensures, sheet_width (asked c.args.lock.now) (stream_size c.args.stream.now))

-- of whole blocks, and no more than the package
recovered_held : (c : After-counted-counts) → let a = c.args in
    (c.counted-counts.result.recovered ≤ stream_size a.stream.now) × (c.counted-counts.result.recovered ≤ 16 * ((length a.stream.now - 8) / 16))
unfolding counted
recovered_held c =
    let r = ap (λ (x : Counts). x.recovered) c.counted-counts.ensures in
    let m = recovered_most 16 (length c.args.stream.now - 8) c.stream_size-size.result in
    (omega (arith, r, m.0, c.stream_size-size.ensures), omega (arith, r, m.1))

pub decrypt-requires : goal.decrypt-requires
unfolding package_limit
decrypt-requires c =
    let w = goal.at.decrypt-requires c in
    let k = held w.In_ok-answer (accepted w.In_ok-fields) in
    let r = recovered_held w.After-counted-counts in
    let z = c.stream_size-size.ensures in
    let p = ap (λ (p : Place). p.number) c.start.ensures in
    let m : size_of c.mode_of-mode.result ≤ c.stream_size-size.result = rw c.mode_of-mode.ensures (mode_size _ _) in
    let s = c.args.stream.now in
    let all = take_all (length s - 8) (drop 8 s) (simp length-drop (omega arith)) in
    record { fits = (rw (all, length-drop) r.1, omega (arith, r.0, k.roomy), omega (arith, p, r.0, k.limited), omega (arith, z, m, k.limited)) }

pub returns : goal.returns
returns c =
    let w = goal.at.returns c in
    let v = accepted w.In_ok-fields in
    rescue_written _ _ _ _ _ _ _ _ (kept w.In_ok-answer v) c.stream_size-size.ensures (counts_are w.After-counted-counts)
    (step_under _ c.in_ok-fields.field-0 c.in_ok-fields.ensures _ _ _ (c.mode_of-mode.ensures ∙ ap (mode_of _) c.stream_size-size.ensures) c.start.ensures)
    c.decrypt.ensures c.zero_from.ensures
