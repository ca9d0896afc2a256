-- Where the sealing is refused nothing is opened; else what is opened is the stream that was sealed, and opens to the package.
use mathlib.Core.Path.{◌≡◌, refl, sym}
use borrow.Author.Rules.{rules}
use lib.ListN.{length, get_or}
use lib.Seq.{length-take-le}
use mir.Syntax.{w8}
use mir.Val.{Fits}
use Prim.Native.Nat.{ℕ}
use Rattle.std.proofs.lemmas.Result.{err_from_is_err_and}
use Rattle.answers.proofs.Refusals.{never_zero}
use Rattle.promises.proofs.ThereAndBack.{returned_refused, sealed_within, returned}
use Rattle.calls.proofs.there_and_back.sealed_and_opened.Goals as goal
use Rattle.calls.proofs.there_and_back.sealed_and_opened.Goals.{Start}

sixteen : (c : Start) → length c.args.filling ≡ 16
sixteen c = search rules

byte : (c : Start) (i : ℕ) → Fits w8 (get_or c.args.filling i 0)
byte c i = search rules

pub returns-in_err-n : goal.returns-in_err-n
returns-in_err-n c =
    let p = err_from_is_err_and c.from_residual.result c.from_residual.ensures.1 in
    rw (p.1, p.2) (returned_refused _ _ _ _ _ (sixteen (goal.at.returns-in_err-n c).Start) _ _ c.in_err-n.ensures _ (never_zero _))

pub slice_bounds-open-end : goal.slice_bounds-open-end
slice_bounds-open-end c = sealed_within _ _ _ _ _ (sixteen (goal.at.slice_bounds-open-end c).Start) _ _ c.in_ok-n.ensures refl

pub slice_bounds-open-end-2 : goal.slice_bounds-open-end-2
slice_bounds-open-end-2 c = sym (length-take-le _ _ (sealed_within _ _ _ _ _ (sixteen (goal.at.slice_bounds-open-end-2 c).Start) _ _ c.in_ok-n.ensures refl))

pub returns : goal.returns
returns c =
    returned _ _ _ _ _ (sixteen (goal.at.returns c).Start) _ _ c.in_ok-n.ensures refl _
    (record { at = λ i. (c.type_inv.«package» i).fits }) (record { at = λ i. (byte (goal.at.returns c).Start i).fits }) _ _ c.«open».ensures
