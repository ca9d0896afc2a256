-- A block that takes the last of one list and the first of the next. Assumes nothing.
use mathlib.Core.Path.{◌≡◌, ap, ◌∙◌}
use mathlib.Core.List.{List, ◌++◌}
use Prim.Native.Nat.{ℕ, ◌+◌, ◌-◌, ◌≤◌}
use native.Mathlib.Omega.{arith}
use lib.ListN.{length, take, drop, length-append, length-drop}
use lib.Seq.{paste, drop_at, take-append-le, drop-append-le}
use Rattle.octets.proofs.Parts.{paste_on, paste_whole}

-- a block that takes the last of a list and the first of the filling
pub over_end : (s t d e r : List ℕ) (at left : ℕ) → at + left ≡ length s → left ≤ 16 → length t ≡ 16 → length d ≡ 16
    → e ≡ paste d 0 (drop at s) left → r ≡ paste e left t (16 - left) → r ≡ take 16 (drop at (s ++ t))
over_end s t d e r at left hs hl ht hd ee er =
    let x : List ℕ = drop at s in
    let lx : length x ≡ left = length-drop at s ∙ omega arith in
    let all : left + (16 - left) ≡ 16 = omega arith in
    let first : e ≡ paste d 0 (x ++ t) left = ee ∙ rw (take-append-le left x t (omega arith)) in
    let next : take (16 - left) t ≡ take (16 - left) (drop left (x ++ t)) = rw (drop_at x t left lx) in
    let laid = paste_on d (x ++ t) t 0 left (16 - left) left (rw length-append (omega arith)) (omega arith) (omega arith) (omega arith) next in
    er ∙ ap (λ (l : List ℕ). paste l left t (16 - left)) first ∙ laid ∙ ap (paste d 0 (x ++ t)) all ∙ paste_whole d (x ++ t) 16 hd
    ∙ rw (drop-append-le at s t (omega arith))
