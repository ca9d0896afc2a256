-- A size above the limit is answered before it is rounded; after it the room decides.
use mathlib.Core.Path.{sym, ap, ◌∙◌}
use Prim.Native.Nat.{ℕ, ◌+◌, ◌≤◌}
use native.Mathlib.Omega.{arith}
use Rattle.std.proofs.lemmas.Result.{err_from_is_err_and}
use Rattle.answers.specs.Rules.{first_of, room_rules}
use Rattle.answers.proofs.Laws.{in_turn, then}
use Rattle.answers.proofs.Refusals.{stops}
use Rattle.lengths.specs.Lengths.{package_limit, sealed_size}
use Rattle.lengths.proofs.Fillings.{rounded_most}
use Rattle.lengths.proofs.Rules.{limited, size_numbered}
use Rattle.sheet.specs.Sheet.{package_rules}
use Rattle.sheet.proofs.package_answer.Goals as goal
use Rattle.sheet.proofs.package_answer.Goals.{In_ok-package_answer}

within : (c : In_ok-package_answer) → c.args.size ≤ package_limit
within c = (limited _).0 (sym c.in_ok-package_answer.ensures)

pub returns-in_err-package_answer : goal.returns-in_err-package_answer
unfolding package_rules
returns-in_err-package_answer c =
    let p = err_from_is_err_and c.from_residual.result c.from_residual.ensures.1 in
    rw (p.1, p.2) (stops _ _ c.in_err-package_answer.ensures _ ∙ sym (in_turn _ _ (size_numbered _)))

pub rounded-requires : goal.rounded-requires
rounded-requires c = within (goal.at.rounded-requires c).In_ok-package_answer

pub overflow_add-rounded : goal.overflow_add-rounded
unfolding package_limit
overflow_add-rounded c = omega (arith, rounded_most _ _ _ c.rounded.ensures, within (goal.at.overflow_add-rounded c).In_ok-package_answer)

pub returns : goal.returns
unfolding package_rules sealed_size
returns c =
    c.room_answer.ensures ∙ ap (λ (n : ℕ). first_of (room_rules c.args.room (8 + n))) c.rounded.ensures
    ∙ sym (then _ _ (size_numbered _) (sym c.in_ok-package_answer.ensures))
