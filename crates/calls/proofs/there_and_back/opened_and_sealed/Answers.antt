-- Where the opening is refused nothing is sealed; else what is sealed is the package that came out, of the one pair that the stream is.
use mathlib.Core.Path.{◌≡◌, refl, sym}
use borrow.Author.Rules.{rules}
use lib.ListN.{length, get_or}
use lib.Seq.{length-take-le}
use mir.Syntax.{w8}
use mir.Val.{Fits}
use Prim.Native.Nat.{ℕ}
use Rattle.std.proofs.lemmas.Result.{err_from_is_err_and}
use Rattle.answers.proofs.Refusals.{never_zero}
use Rattle.promises.proofs.ThereAndBack.{resealed_refused, opened_within, resealed}
use Rattle.calls.proofs.there_and_back.opened_and_sealed.Goals as goal
use Rattle.calls.proofs.there_and_back.opened_and_sealed.Goals.{Start}

sixteen : (c : Start) → length c.args.filling ≡ 16
sixteen c = search rules

byte : (c : Start) (i : ℕ) → Fits w8 (get_or c.args.filling i 0)
byte c i = search rules

pub returns-in_err-n : goal.returns-in_err-n
returns-in_err-n c =
    let p = err_from_is_err_and c.from_residual.result c.from_residual.ensures.1 in
    rw (p.1, p.2) (resealed_refused _ _ _ _ _ _ _ c.in_err-n.ensures _ (never_zero _))

pub slice_bounds-seal-end : goal.slice_bounds-seal-end
slice_bounds-seal-end c = opened_within _ _ c.args.filling c.args.extra _ _ _ c.in_ok-n.ensures refl

pub slice_bounds-seal-end-2 : goal.slice_bounds-seal-end-2
slice_bounds-seal-end-2 c = sym (length-take-le _ _ (opened_within _ _ c.args.filling c.args.extra _ _ _ c.in_ok-n.ensures refl))

pub returns : goal.returns
returns c =
    resealed _ _ _ _ _ _ _ c.in_ok-n.ensures refl (record { at = λ i. (c.type_inv.stream i).fits })
    (sixteen (goal.at.returns c).Start) (record { at = λ i. (byte (goal.at.returns c).Start i).fits }) _ _ _ c.seal.ensures
