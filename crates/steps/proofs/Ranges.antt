-- What comes after m units is opened as a stream of its own, by the step from unit m on, after the last of them. Assumes nothing.
use mathlib.Core.Path.{◌≡◌, sym, ap, ap₂, ◌∙◌}
use mathlib.Core.List.{List, ◌++◌, append-nil, append_assoc}
use Prim.Native.Nat.{ℕ, zero, suc, ◌+◌, ◌-◌, ◌*◌, ◌/◌, ◌≤◌}
use native.Mathlib.Nat.{add-zero, add-suc, mul-add, mul-le-mul_left, mul-div-le, div-mul-le_self, mul-add-div, le-div_iff_mul-le}
use native.Mathlib.Omega.{arith}
use lib.ListN.{length, take, drop, length-append, length-drop}
use lib.Seq.{take-take, drop_at}
use Rattle.octets.proofs.Parts.{drop_take}
use Rattle.steps.specs.Steps.{Step, before, open_units, open_all, resumed, Sized}
use Rattle.steps.proofs.Units.{unit_drop, part_units}
use Rattle.steps.proofs.Made.{open_front, length_open, front_open}

module _ (step : Step) where
  abbrev u : ℕ
  u = step.width

  pub before_drop : (m j : ℕ) (s : List ℕ) → before (resumed m (before step m s) step) j (drop (u * m) s) ≡ before step (m + j) s
  unfolding before
  before_drop m zero s = rw (add-zero m)
  before_drop m (suc j) s = rw (add-suc m j) (unit_drop u m j s)

  -- the first m units, and then the others after the last of them
  pub open_split : (m n : ℕ) (s : List ℕ)
      → open_units step (m + n) s ≡ open_units step m s ++ open_units (resumed m (before step m s) step) n (drop (u * m) s)
  unfolding open_units
  open_split m zero s = rw (add-zero m) (sym (append-nil (open_units step m s)))
  open_split m (suc n) s =
      rw (add-suc m n)
      (ap₂ ◌++◌ (open_split m n s) (ap₂ (step.back (m + n)) (sym (before_drop m n s)) (sym (unit_drop u m n s)))
      ∙ append_assoc (open_units step m s) _ _)

  module _ (z : Sized step) (s : List ℕ) where
    -- from unit i on
    pub open_from : (i n : ℕ) → drop (u * i) (open_units step (i + n) s) ≡ open_units (resumed i (before step i s) step) n (drop (u * i) s)
    open_from i n = ap (drop (u * i)) (open_split i n s) ∙ drop_at (open_units step i s) _ (u * i) (length_open step z s i)

    pub all_from : (i : ℕ) → i ≤ length s / u → open_all (resumed i (before step i s) step) (drop (u * i) s) ≡ drop (u * i) (open_all step s)
    unfolding open_all
    all_from i h =
        let rest : List ℕ = drop (u * i) s in
        let long : u * i + length rest ≡ length s = omega (arith, length-drop (u * i) s, mul-div-le (length s) u, mul-le-mul_left u h) in
        let count : i + length rest / u ≡ length s / u = sym (mul-add-div z.some i (length rest)) ∙ ap (λ (n : ℕ). n / u) long in
        sym (open_from i (length rest / u)) ∙ ap (λ (n : ℕ). drop (u * i) (open_units step n s)) count

    -- m units from unit i on
    pub open_part : (i m n : ℕ) → i + m ≤ n
        → take (u * m) (drop (u * i) (open_units step n s)) ≡ open_units (resumed i (before step i s) step) m (drop (u * i) s)
    open_part i m n h =
        sym (drop_take (u * i) (u * m) (open_units step n s)) ∙ rw (← mul-add u i m, front_open step z s (i + m) n h) (open_from i m)

    -- bytes a up to b, which lie in those units
    pub stretch : (i m n a b : ℕ) → i + m ≤ n → u * i ≤ a → a ≤ b → b ≤ u * (i + m)
        → take (b - a) (drop a (open_units step n s))
        ≡ take (b - a) (drop (a - u * i) (open_units (resumed i (before step i s) step) m (drop (u * i) s)))
    stretch i m n a b h ha hb he =
        part_units u i m a b (open_units step n s) ha hb he ∙ ap (λ (x : List ℕ). take (b - a) (drop (a - u * i) x)) (open_part i m n h)

  module _ (z : Sized step) (x y : List ℕ) where
    -- a stream that is cut short, wherever it is cut
    pub open_prefix : open_all step x ≡ take (u * (length x / u)) (open_all step (x ++ y))
    unfolding open_all
    open_prefix =
        let n : ℕ = length x / u in
        let less : n ≤ length (x ++ y) / u =
        (le-div_iff_mul-le z.some).1 (omega (arith, length-append x y, div-mul-le_self (length x) u)) in
        sym (open_front step n x y (mul-div-le (length x) u)) ∙ sym (front_open step z (x ++ y) n (length (x ++ y) / u) less)

    -- of a package of that size
    pub rescued : (r size : ℕ) → r ≤ size → r ≤ u * (length x / u) → take r (open_all step x) ≡ take r (take size (open_all step (x ++ y)))
    rescued r size h k =
        let all : List ℕ = open_all step (x ++ y) in
        ap (take r) open_prefix ∙ take-take r (u * (length x / u)) all k ∙ sym (take-take r size all h)
