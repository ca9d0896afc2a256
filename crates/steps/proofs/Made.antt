-- Opening and sealing grow by a unit at a time: so their lengths, their unit i, and that they depend on no more than the units that they
-- take. Assumes nothing.
use mathlib.Core.Path.{◌≡◌, refl, sym, ap, ap₂, ◌∙◌}
use mathlib.Core.List.{List, ◌++◌}
use Prim.Native.Nat.{ℕ, zero, suc, ◌*◌, ◌/◌, ◌≤◌, ◌<◌}
use native.Mathlib.Nat.{le_refl, zero-add}
use native.Mathlib.Omega.{arith}
use lib.ListN.{length, take}
use lib.Seq.{take-append-le}
use Rattle.steps.specs.Steps.{unit, Step, before, open_units, seal_units, open_all, seal_all, resumed, Sized}
use Rattle.steps.proofs.Units.{unit_same, Grown, grown_alike, length_grown, front_grown, unit_grown}

module _ (step : Step) where
  abbrev u : ℕ
  u = step.width

  pub open_grown : (s : List ℕ) → Grown (λ n. step.back n (before step n s) (unit u n s)) (λ n. open_units step n s)
  unfolding open_units
  open_grown s = record { none = refl; more = λ n. refl }

  pub seal_grown : (s : List ℕ) → Grown (λ n. step.there n (before step n (seal_units step n s)) (unit u n s)) (λ n. seal_units step n s)
  unfolding seal_units
  seal_grown s = record { none = refl; more = λ n. refl }

  -- ---- what the first n units decide

  pub before_same : (i n : ℕ) (s t : List ℕ) → i ≤ n → take (u * n) s ≡ take (u * n) t → before step i s ≡ before step i t
  unfolding before
  before_same zero n s t h e = refl
  before_same (suc i) n s t h e = unit_same u i n s t h e

  -- the unit before the next one
  pub before_next : (i : ℕ) (s : List ℕ) → before step (suc i) s ≡ unit u i s
  unfolding before
  before_next i s = refl

  module _ (n : ℕ) (s t : List ℕ) (e : take (u * n) s ≡ take (u * n) t) where
    pub open_same : open_units step n s ≡ open_units step n t
    open_same =
        grown_alike (open_grown s) (open_grown t) n
        (λ i l q. ap₂ (step.back i) (before_same i n s t (omega (arith, l)) e) (unit_same u i n s t l e))

    pub seal_same : seal_units step n s ≡ seal_units step n t
    seal_same = grown_alike (seal_grown s) (seal_grown t) n (λ i l q. ap₂ (step.there i) (ap (before step i) q) (unit_same u i n s t l e))

  -- so not what stands behind them
  module _ (n : ℕ) (x y : List ℕ) (h : u * n ≤ length x) where
    pub before_front : before step n (x ++ y) ≡ before step n x
    before_front = before_same n n (x ++ y) x (le_refl n) (take-append-le (u * n) x y h)

    pub open_front : open_units step n (x ++ y) ≡ open_units step n x
    open_front = open_same n (x ++ y) x (take-append-le (u * n) x y h)

    pub seal_front : seal_units step n (x ++ y) ≡ seal_units step n x
    seal_front = seal_same n (x ++ y) x (take-append-le (u * n) x y h)

  -- from unit 0 on, after what stands there, is all of it
  pub resumed_none : resumed 0 step.first step ≡ step
  resumed_none = λ t. record { width = u; first = step.first; there = λ j. step.there (zero-add j t); back = λ j. step.back (zero-add j t) }

  -- ---- units of one length

  module _ (z : Sized step) where
    pub resumed_sized : (i : ℕ) (p : List ℕ) → Sized (resumed i p step)
    resumed_sized i p = record { some = z.some; there = λ j. z.there _; back = λ j. z.back _ }

    module _ (s : List ℕ) where
      opened : (i : ℕ) → length (step.back i (before step i s) (unit u i s)) ≡ u
      opened i = z.back i (before step i s) (unit u i s)

      sealed : (i : ℕ) → length (step.there i (before step i (seal_units step i s)) (unit u i s)) ≡ u
      sealed i = z.there i (before step i (seal_units step i s)) (unit u i s)

      pub length_open : (n : ℕ) → length (open_units step n s) ≡ u * n
      length_open = length_grown (open_grown s) u opened

      pub length_seal : (n : ℕ) → length (seal_units step n s) ≡ u * n
      length_seal = length_grown (seal_grown s) u sealed

      pub length_open_all : length (open_all step s) ≡ u * (length s / u)
      unfolding open_all
      length_open_all = length_open (length s / u)

      pub length_seal_all : length (seal_all step s) ≡ u * (length s / u)
      unfolding seal_all
      length_seal_all = length_seal (length s / u)

      -- the first n of m units
      pub front_open : (n m : ℕ) → n ≤ m → take (u * n) (open_units step m s) ≡ open_units step n s
      front_open = front_grown (open_grown s) u opened

      pub front_seal : (n m : ℕ) → n ≤ m → take (u * n) (seal_units step m s) ≡ seal_units step n s
      front_seal = front_grown (seal_grown s) u sealed

      -- unit i of the result comes from unit i and the cipher unit before it
      pub unit_open : (i n : ℕ) → i < n → unit u i (open_units step n s) ≡ step.back i (before step i s) (unit u i s)
      unit_open = unit_grown (open_grown s) u opened

      pub unit_seal : (i n : ℕ) → i < n → unit u i (seal_units step n s) ≡ step.there i (before step i (seal_units step n s)) (unit u i s)
      unit_seal i n l =
          let same = front_seal i i (le_refl i) ∙ sym (front_seal i n (omega arith)) in
          unit_grown (seal_grown s) u sealed i n l
          ∙ ap (λ (p : List ℕ). step.there i p (unit u i s)) (before_same i i (seal_units step i s) (seal_units step n s) (le_refl i) same)
