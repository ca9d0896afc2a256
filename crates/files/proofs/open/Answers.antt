-- Each way out is a law of `files_opened`: a refusal by rule 17, or what `sheet` opens.
use mathlib.Core.Path.{◌≡◌, sym, ◌∙◌}
use mathlib.Core.Bool.{true}
use Prim.Native.Nat.{◌≤◌}
use native.Mathlib.Omega.{arith}
use lib.ListN.{length}
use lib.Seq.{length-take-le}
use Rattle.std.proofs.lemmas.Result.{err_from_is_err_and}
use Rattle.files.specs.Files.{file, found, files_opened}
use Rattle.files.proofs.Found.{all_found, no_info, no_password, no_stream}
use Rattle.files.proofs.Laws.{by_refusal, by_sheet, password_within}
use Rattle.files.proofs.open.Goals as goal
use Rattle.files.proofs.open.Goals.{In_ok-stream, In_ok-answer}

-- all of them were found
are : (c : In_ok-stream) → let a = c.args in
    files_opened (found a.info) (found a.password) (found a.stream) a.out.now
    ≡ files_opened (file true c.in_ok-info.info.now) (file true c.in_ok-password.password.now) (file true c.in_ok-stream.stream.now) a.out.now
are c = all_found _ _ _ _ _ _ _ c.in_ok-info.ensures.ok_part c.in_ok-password.ensures.ok_part c.in_ok-stream.ensures.ok_part

within : (c : In_ok-answer) → length c.in_ok-password.password.now ≤ 65536
within c = password_within _ _ _ (sym c.in_ok-answer.ensures)

pub returns-in_err-info : goal.returns-in_err-info
returns-in_err-info c =
    let p = err_from_is_err_and c.from_residual.result c.from_residual.ensures.1 in
    rw (p.1, p.2) (no_info c.args.info c.args.password c.args.stream _ _ c.in_err-info.ensures.value)

pub returns-in_err-password : goal.returns-in_err-password
returns-in_err-password c =
    let p = err_from_is_err_and c.from_residual-in_err-password.result c.from_residual-in_err-password.ensures.1 in
    rw (p.1, p.2) (no_password c.args.info c.args.password c.args.stream _ _ c.in_err-password.ensures.value)

pub returns-in_err-stream : goal.returns-in_err-stream
returns-in_err-stream c =
    let p = err_from_is_err_and c.from_residual-in_err-stream.result c.from_residual-in_err-stream.ensures.1 in
    rw (p.1, p.2) (no_stream c.args.info c.args.password c.args.stream _ _ c.in_err-stream.ensures.value)

pub returns-in_err-answer : goal.returns-in_err-answer
returns-in_err-answer c =
    let p = err_from_is_err_and c.from_residual-in_err-answer.result c.from_residual-in_err-answer.ensures.1 in
    rw (p.1, p.2) (by_refusal _ _ _ _ _ c.in_err-answer.ensures ∙ sym (are (goal.at.returns-in_err-answer c).In_ok-stream))

pub put_units-requires : goal.put_units-requires
put_units-requires c = omega (arith, within (goal.at.put_units-requires c).In_ok-answer)

pub slice_bounds-units-end : goal.slice_bounds-units-end
slice_bounds-units-end c = omega (arith, within (goal.at.slice_bounds-units-end c).In_ok-answer, c.put_units.auto.d)

pub slice_bounds-lock-end : goal.slice_bounds-lock-end
slice_bounds-lock-end c = sym (length-take-le _ _ (omega (arith, within (goal.at.slice_bounds-lock-end c).In_ok-answer, c.put_units.auto.d)))

pub returns : goal.returns
returns c =
    let w = goal.at.returns c in
    c.«open».ensures ∙ rw c.put_units.ensures (sym (are w.In_ok-stream ∙ by_sheet _ _ _ _ (sym c.in_ok-answer.ensures)))
