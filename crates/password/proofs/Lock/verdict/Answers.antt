-- The answer of `unlock`.
use mathlib.Core.Path.{sym}
use Rattle.std.proofs.lemmas.Result.{err_from_is_err_and}
use Rattle.password.proofs.Laws.{refused_number, unlocked_zero}
use Rattle.password.proofs.Lock.verdict.Goals as goal

pub returns-in_err-unlock : goal.returns-in_err-unlock
returns-in_err-unlock c =
    let p = err_from_is_err_and c.from_residual.result c.from_residual.ensures.1 in
    rw (p.1, p.2) (refused_number _ _ c.in_err-unlock.ensures)

pub returns : goal.returns
returns c = sym (unlocked_zero _ c.in_ok-unlock.field-0 c.in_ok-unlock.ensures)
