-- The test of equality is equality, element by element. Assumes nothing.
use mathlib.Core.Path.{◌≡◌, refl, sym, ap₂}
use mathlib.Core.Bool.{Bool, true, false, true≢false, and-eq-true_iff}
use mathlib.Core.List.{List, [], ◌∷◌}
use Prim.Native.Nat.{ℕ}
use borrow.Author.Tests.{eq-eqb, eqb-true}
use lib.Dec.{eqb}
use lib.Pointwise.{pointwise}
use Rattle.octets.specs.Octets.{same}

pub same_self : (x : List ℕ) → same x x ≡ true
unfolding same
same_self [] = refl
same_self (v ∷ x) = rw (eq-eqb v v refl, same_self x)

pub same_true : (x y : List ℕ) → same x y ≡ true → x ≡ y
unfolding same
same_true [] [] h = refl
same_true [] (w ∷ y) h = absurd (true≢false (sym h))
same_true (v ∷ x) [] h = absurd (true≢false (sym h))
same_true (v ∷ x) (w ∷ y) h =
    let k = (and-eq-true_iff (eqb v w) (same x y)).0 h in
    ap₂ ◌∷◌ (eqb-true v w k.0) (same_true x y k.1)

-- lists that differ
pub same_false : (x y : List ℕ) → (x ≡ y → ⊥) → same x y ≡ false
same_false x y h = decided (same x y) (λ e. h (same_true x y e))
  where
    decided : (t : Bool) → (t ≡ true → ⊥) → t ≡ false
    decided true h = absurd (h refl)
    decided false h = refl

-- what `==` says of two slices
pub same_is : (x y : List ℕ) → pointwise eqb x y ≡ same x y
unfolding same
same_is [] [] = refl
same_is [] (b ∷ y) = refl
same_is (a ∷ x) [] = refl
same_is (a ∷ x) (b ∷ y) = rw (same_is x y)
