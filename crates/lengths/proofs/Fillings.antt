-- How long a filling is with and without an extra block, and so which lengths a ciphertext may have. Assumes nothing.
use mathlib.Core.Path.{◌≡◌, refl}
use mathlib.Core.Bool.{Bool, true, false, and-eq-true_iff, or-true, or-false, or_self}
use mathlib.Core.Logic.{◌↔◌, ◌⊎◌, inl, inr}
use Prim.Native.Nat.{ℕ, ◌+◌, ◌%◌, ◌≤◌, ◌<◌}
use native.Mathlib.Omega.{arith}
use borrow.Author.Tests.{lt-ltb, ltb-true, eq-eqb, ne_eqb, eqb-true}
use lib.Dec.{ltb, eqb}
use Rattle.answers.proofs.Laws.{either}
use Rattle.lengths.specs.Lengths.{least, takes_extra, filling_for, rounded, length_allowed, allowed}

-- ---- the filling

pub least_below : (size : ℕ) → least size < 16
unfolding least
least_below size = omega arith

-- no fewer bytes will do
pub least_least : (size n : ℕ) → (size + n) % 16 ≡ 0 → least size ≤ n
unfolding least
least_least size n h = omega arith

-- without an extra block
pub without : (size : ℕ) → filling_for false size ≡ least size
unfolding filling_for
without size = refl

-- where the size takes none the choice counts for nothing
pub untaken : (extra : Bool) (size : ℕ) → takes_extra size ≡ false → filling_for extra size ≡ least size
unfolding filling_for
untaken false size e = refl
untaken true size e = rw e

-- where it takes one, that is sixteen bytes
pub taken : (size : ℕ) → takes_extra size ≡ true → filling_for true size ≡ 16
unfolding filling_for
taken size e = rw e

pub takes : (size : ℕ) → (takes_extra size ≡ true) ↔ ((0 < size) × (size % 4096 ≡ 0))
unfolding takes_extra
takes size = (
  λ e.
      let k = (and-eq-true_iff (ltb 0 size) (eqb (size % 4096) 0)).0 e in
      (ltb-true _ _ k.0, eqb-true _ _ k.1),
  λ h. rw (lt-ltb 0 size h.0, eq-eqb (size % 4096) 0 h.1),
)

-- a filling is the least, or a whole block after whole blocks
filling_is : (extra : Bool) (size : ℕ) → (filling_for extra size ≡ least size) ⊎ ((filling_for extra size ≡ 16) × (size % 4096 ≡ 0))
filling_is false size = inl (without size)
filling_is true size =
    elim (either (takes_extra size)) [
      | inl e ↦ inr (taken size e, ((takes size).0 e).1)
      | inr e ↦ inl (untaken true size e)
    ]

-- so sixteen bytes are enough
pub filling_most : (extra : Bool) (size : ℕ) → filling_for extra size ≤ 16
filling_most extra size =
    elim (filling_is extra size) [ inl e ↦ omega (arith, least_below size) | inr e ↦ omega (arith, e.0) ]

pub rounded_most : (extra : Bool) (size n : ℕ) → n ≡ rounded extra size → n ≤ size + 16
unfolding rounded
rounded_most extra size n e = omega (arith, filling_most extra size)

-- the choice of an extra block gives the longer
pub rounded_longest : (extra : Bool) (size : ℕ) → rounded extra size ≤ rounded true size
unfolding rounded
rounded_longest true size = omega arith
rounded_longest false size =
    elim (filling_is true size) [ inl e ↦ omega (arith, e, without size) | inr e ↦ omega (arith, e.0, without size, least_below size) ]

-- and package and filling are whole blocks
pub rounded_whole : (extra : Bool) (size : ℕ) → rounded extra size % 16 ≡ 0
unfolding rounded least
rounded_whole extra size =
    elim (filling_is extra size) [ inl e ↦ omega arith | inr e ↦ omega (arith, e.0, e.1) ]

-- ---- the length of the ciphertext

-- with each choice it is allowed, and no other is
pub rounded_allowed : (extra : Bool) (size : ℕ) → length_allowed size (rounded extra size) ≡ true
unfolding length_allowed
rounded_allowed false size = rw (eq-eqb (rounded false size) (rounded false size) refl)
rounded_allowed true size = rw (eq-eqb (rounded true size) (rounded true size) refl) (or-true (eqb (rounded true size) (rounded false size)))

pub allowed_rounded : (size n : ℕ) → length_allowed size n ≡ true → (extra : Bool) × (n ≡ rounded extra size)
unfolding length_allowed
allowed_rounded size n e =
    elim (either (eqb n (rounded false size))) [
      | inl f ↦ (false, eqb-true _ _ f)
      | inr f ↦ (true, eqb-true _ _ (rw f at e))
    ]

-- a filling as long as a choice makes it is allowed
pub filling_allowed : (extra : Bool) (size n : ℕ) → n ≡ filling_for extra size → allowed size n ≡ true
unfolding allowed rounded
filling_allowed extra size n e = rw e (rounded_allowed extra size)

-- sixteen bytes more than the package are allowed exactly where it takes an extra block
pub extra_allowed : (size n : ℕ) → n ≡ size + 16 → length_allowed size n ≡ takes_extra size
unfolding length_allowed rounded
extra_allowed size n h =
    let f : eqb n (size + filling_for false size) ≡ false = ne_eqb n (size + filling_for false size) (λ e. omega (arith, without size, least_below size)) in
    elim (either (takes_extra size)) [
      | inl e ↦ rw (f, taken size e, e) (eq-eqb n (size + 16) h)
      | inr e ↦ rw (f, untaken true size e, e) (ne_eqb n (size + least size) (λ z. omega (arith, least_below size)))
    ]

-- of other lengths the least alone is
pub other_allowed : (size n : ℕ) → (n ≡ size + 16 → ⊥) → length_allowed size n ≡ eqb n (size + least size)
unfolding length_allowed rounded
other_allowed size n h =
    elim (either (takes_extra size)) [
      | inl e ↦ rw (without size, taken size e, ne_eqb n (size + 16) h) (or-false _)
      | inr e ↦ rw (without size, untaken true size e) (or_self _)
    ]

-- it holds the package
pub allowed_holds : (size n : ℕ) → length_allowed size n ≡ true → size ≤ n
unfolding rounded
allowed_holds size n e = let k = allowed_rounded size n e in omega (arith, k.1)

-- a package with an allowed filling is whole blocks
pub allowed_whole : (size n : ℕ) → allowed size n ≡ true → (size + n) % 16 ≡ 0
unfolding allowed
allowed_whole size n e =
    let k = allowed_rounded size (size + n) e in
    rw k.1 (rounded_whole k.0 size)
