-- What is recovered of so many bytes of ciphertext, over units of any width, and which length is the longest. Assumes nothing.
use mathlib.Core.Path.{◌≡◌, refl, sym, ap, ◌∙◌}
use mathlib.Core.Bool.{true}
use mathlib.Core.Logic.{inl, inr}
use Prim.Native.Nat.{ℕ, suc, ◌+◌, ◌-◌, ◌*◌, ◌/◌, ◌%◌, ◌≤◌, ◌<◌, min}
use native.Mathlib.Nat.{mul_comm, mul-suc, mul-le-mul_left, div-add-mod, le-div_iff_mul-le, div-mul-le_self, min-eq_left, min-eq_right, min-le_left, min-le_right}
use native.Mathlib.Omega.{arith}
use lib.Dec.{ltb}
use borrow.Author.Tests.{ltb-true, ltb-false}
use Rattle.answers.proofs.Laws.{either}
use Rattle.lengths.specs.Lengths.{length_allowed}
use Rattle.lengths.proofs.Fillings.{rounded_whole, rounded_allowed, allowed_rounded, allowed_holds, rounded_longest}
use Rattle.rescue.specs.Rescue.{recoverable, longest, counted}

-- ---- what is recovered

module _ (unit : ℕ) where
  -- whole units, and no more than the package
  pub recovered_most : (n size : ℕ) → (recoverable unit n size ≤ size) × (recoverable unit n size ≤ unit * (n / unit))
  unfolding recoverable
  recovered_most n size = (min-le_left size (unit * (n / unit)), min-le_right size (unit * (n / unit)))

  -- more bytes have no fewer whole units
  units_more : (n m : ℕ) → 0 < unit → n ≤ m → unit * (n / unit) ≤ unit * (m / unit)
  units_more n m p h = mul-le-mul_left unit ((le-div_iff_mul-le p).1 (omega (arith, div-mul-le_self n unit, h)))

  -- unit i, where it is there whole, is one of them
  pub unit_whole : (n i : ℕ) → 0 < unit → unit * i + unit ≤ n → unit * i + unit ≤ unit * (n / unit)
  unit_whole n i p h =
      let e : suc i * unit ≡ unit * i + unit = mul_comm (suc i) unit ∙ mul-suc unit i in
      rw mul-suc at (mul-le-mul_left unit ((le-div_iff_mul-le {x = suc i} {y = n} p).1 (omega (arith, e, h))))

  -- whole units that hold the package give all of it
  pub recovered_all : (n size : ℕ) → size ≤ unit * (n / unit) → recoverable unit n size ≡ size
  unfolding recoverable
  recovered_all n size h = min-eq_left h

  -- past whole units that hold it nothing counts
  pub recovered_kept : (n most size : ℕ) → 0 < unit → most % unit ≡ 0 → size ≤ most → recoverable unit (min n most) size ≡ recoverable unit n size
  recovered_kept n most size p w h =
      let held : size ≤ unit * (most / unit) = omega (arith, div-add-mod most unit, w, h) in
      elim (either (ltb most n)) [
        | inl e ↦
            let l = ltb-true most n e in
            let cut : min n most ≡ most = min-eq_right (omega (arith, l)) in
            ap (λ (m : ℕ). recoverable unit m size) cut ∙ recovered_all most size held
            ∙ sym (recovered_all n size (omega (arith, held, units_more most n p (omega (arith, l)))))
        | inr e ↦ ap (λ (m : ℕ). recoverable unit m size) (min-eq_left (ltb-false most n e))
      ]

  -- the counts: the rest of the package is zeroed, and what stands past the longest is surplus
  pub counted_told : (n size : ℕ) → let c = counted unit n size in
      (c.recovered ≡ min size (unit * (n / unit))) × (c.recovered + c.zeroed ≡ size) × (c.surplus ≡ n - longest size)
  unfolding counted recoverable
  counted_told n size = (refl, omega (arith, (recovered_most n size).0), refl)

-- ---- the longest length

pub longest_allowed : (size : ℕ) → length_allowed size (longest size) ≡ true
unfolding longest
longest_allowed size = rounded_allowed true size

pub longest_most : (size n : ℕ) → length_allowed size n ≡ true → n ≤ longest size
unfolding longest
longest_most size n e = let k = allowed_rounded size n e in omega (arith, k.1, rounded_longest k.0 size)

-- it holds the package, in whole blocks
pub longest_holds : (size : ℕ) → size ≤ longest size
longest_holds size = allowed_holds size (longest size) (longest_allowed size)

pub longest_whole : (size : ℕ) → longest size % 16 ≡ 0
unfolding longest
longest_whole size = rounded_whole true size
