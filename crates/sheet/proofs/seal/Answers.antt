-- The ways out of `sealed`: a refusal by the lock or by the package, and the stream.
use mathlib.Core.Path.{◌≡◌, sym, ap, ◌∙◌}
use Prim.Native.Nat.{◌≤◌}
use native.Mathlib.Omega.{arith}
use borrow.Author.Rules.{rules}
use lib.ListN.{length}
use Rattle.std.proofs.lemmas.Result.{err_from_is_err_and}
use Rattle.answers.specs.Rules.{first_of}
use Rattle.blocks.specs.Blocks.{size_of}
use Rattle.blocks.specs.declared.Place.{Place}
use Rattle.password.specs.Lock.{asked}
use Rattle.password.specs.Verdict.{judged}
use Rattle.password.proofs.Laws.{unlocked_zero}
use Rattle.lengths.specs.Lengths.{package_limit, rounded, sealed_size}
use Rattle.lengths.proofs.Fillings.{rounded_most, rounded_whole}
use Rattle.sheet.specs.Sheet.{seal_rules}
use Rattle.sheet.proofs.Lengths.{Sealable}
use Rattle.sheet.proofs.Laws.{seal_locked, seal_unfit, seal_after, seal_holds}
use Rattle.sheet.proofs.Keyed.{step_under}
use Rattle.sheet.proofs.Scheme.{mode_size}
use Rattle.sheet.proofs.Written.{seal_written}
use Rattle.sheet.proofs.seal.Goals as goal
use Rattle.sheet.proofs.seal.Goals.{In_ok-fields, In_ok-package_answer, Start}

sixteen : (c : Start) → length c.args.filling ≡ 16
sixteen c = search rules

accepted : (c : In_ok-fields) → judged (asked c.args.lock.now) ≡ 0
accepted c = unlocked_zero _ c.in_ok-fields.field-0 c.in_ok-fields.ensures

-- no rule is broken
kept : (c : In_ok-package_answer) → judged (asked c.args.lock.now) ≡ 0
    → first_of (seal_rules (asked c.args.lock.now) c.args.extra (length c.args.«package».now) (length c.args.out.now)) ≡ 0
kept c v =
    let a = c.args in
    seal_after (asked a.lock.now) a.«package».now a.filling a.extra a.out.now v ∙ sym c.in_ok-package_answer.ensures

-- so the package fits
fits : (c : In_ok-package_answer) → judged (asked c.args.lock.now) ≡ 0 → Sealable c.args.extra (length c.args.«package».now) (length c.args.out.now)
fits c v =
    let a = c.args in
    (seal_holds (asked a.lock.now) a.«package».now a.filling a.extra a.out.now (kept c v)).1

pub returns-in_err-fields : goal.returns-in_err-fields
returns-in_err-fields c =
    let a = c.args in
    let p = err_from_is_err_and c.from_residual.result c.from_residual.ensures.1 in
    rw (p.1, p.2) (seal_locked (asked a.lock.now) a.«package».now a.filling a.extra a.out.now _ c.in_err-fields.ensures)

pub returns-in_err-package_answer : goal.returns-in_err-package_answer
returns-in_err-package_answer c =
    let a = c.args in
    let p = err_from_is_err_and c.from_residual-in_err-package_answer.result c.from_residual-in_err-package_answer.ensures.1 in
    rw (p.1, p.2) (seal_unfit (asked a.lock.now) a.«package».now a.filling a.extra a.out.now _ (accepted (goal.at.returns-in_err-package_answer c).In_ok-fields) c.in_err-package_answer.ensures)

pub rounded-whole-requires : goal.rounded-whole-requires
rounded-whole-requires c =
    let w = goal.at.rounded-whole-requires c in
    (fits w.In_ok-package_answer (accepted w.In_ok-fields)).limited

pub put_le64-requires : goal.put_le64-requires
unfolding sealed_size rounded
put_le64-requires c =
    let w = goal.at.put_le64-requires c in
    omega (arith, (fits w.In_ok-package_answer (accepted w.In_ok-fields)).roomy)

pub encrypt-requires : goal.encrypt-requires
unfolding sealed_size rounded package_limit
encrypt-requires c =
    let w = goal.at.encrypt-requires c in
    let k = fits w.In_ok-package_answer (accepted w.In_ok-fields) in
    let n = c.rounded-whole.ensures in
    let m : size_of c.mode_of-mode.result ≤ length c.args.«package».now = rw c.mode_of-mode.ensures (mode_size _ _) in
    let p = ap (λ (p : Place). p.number) c.start.ensures in
    let kept = c.put_le64.auto.d in
    record { fits = (rw n (rounded_whole _ _), omega (arith, rounded_most _ _ _ n), omega (arith, k.roomy), omega (arith, p, rounded_most _ _ _ n, k.limited), omega (arith, m, k.limited)) }

pub overflow_add-whole : goal.overflow_add-whole
unfolding package_limit
overflow_add-whole c =
    let w = goal.at.overflow_add-whole c in
    omega (arith, (fits w.In_ok-package_answer (accepted w.In_ok-fields)).limited, rounded_most _ _ _ c.rounded-whole.ensures)

pub returns : goal.returns
returns c =
    let w = goal.at.returns c in
    let v = accepted w.In_ok-fields in
    rw c.done.ensures.0 (seal_written _ _ _ c.args.filling c.args.extra _ _ _ _ _ (kept w.In_ok-package_answer v) (sixteen w.Start) c.rounded-whole.ensures
    (step_under _ c.in_ok-fields.field-0 c.in_ok-fields.ensures _ _ _ c.mode_of-mode.ensures c.start.ensures)
    c.put_le64.ensures c.encrypt.ensures c.done.ensures.1)
