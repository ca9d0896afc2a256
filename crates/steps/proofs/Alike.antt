-- A unit is opened by a look at itself and the one before it, so units that agree open alike where the first of them has the same unit
-- before it, or starts. Assumes nothing.
use mathlib.Core.Path.{◌≡◌, refl, sym, ap, ap₂, subst⁻¹, ◌∙◌}
use mathlib.Core.Logic.{◌⊎◌, inl, inr}
use mathlib.Core.List.{List}
use Prim.Native.Nat.{ℕ, zero, suc, ◌+◌, ◌-◌, ◌*◌, ◌/◌, ◌≤◌, ◌<◌}
use native.Mathlib.Nat.{eq-zero-or-pos, add-zero, add-suc, mul-add-div, div-eq_of_lt, mul-div-le, lt-mul-div-succ, le-div_iff_mul-le, div-lt_iff_lt-mul, mul-le-mul_left}
use native.Mathlib.Omega.{arith}
use lib.ListN.{length, get_or, take, drop, length-take, length-drop}
use lib.Seq.{get_or-take, get_or-drop, ext_get_or}
use Rattle.steps.specs.Steps.{unit, Step, before, open_units, Starts, Sized}
use Rattle.steps.specs.Needed.{Meets, Needed, AgreeAt}
use Rattle.steps.proofs.Units.{part_units, unit_drop, take_grown, grown_alike}
use Rattle.steps.proofs.Made.{unit_open}

-- units that agree byte by byte
unit_agrees : (u k : ℕ) (s t : List ℕ) → 0 < u → length s ≡ length t → ((j : ℕ) → j / u ≡ k → get_or s j 0 ≡ get_or t j 0) → unit u k s ≡ unit u k t
unfolding unit
unit_agrees u k s t some long h =
    let o : ℕ = u * k in
    let same : length (take u (drop o s)) ≡ length (take u (drop o t)) = simp (length-take, length-drop) (rw long) in
    ext_get_or 0 (take u (drop o s)) (take u (drop o t)) same
    (λ i l. let b : i < u = omega (arith, l, length-take u (drop o s)) in
    let e : (o + i) / u ≡ k = mul-add-div some k i ∙ ap (λ (n : ℕ). k + n) (div-eq_of_lt b) ∙ add-zero k in
    get_or-take u (drop o s) i 0 b ∙ get_or-drop o s i 0 ∙ h (o + i) e ∙ sym (get_or-take u (drop o t) i 0 b ∙ get_or-drop o t i 0))

module _ (step : Step) (s t : List ℕ) where
  abbrev u : ℕ
  u = step.width

  -- a unit: itself, and the one before it unless it starts
  one_alike : (i : ℕ) → unit u i s ≡ unit u i t → Starts step i ⊎ (before step i s ≡ before step i t)
      → step.back i (before step i s) (unit u i s) ≡ step.back i (before step i t) (unit u i t)
  one_alike i q (inl e) = e.alike (before step i s) (before step i t) (unit u i s) ∙ ap (step.back i (before step i t)) q
  one_alike i q (inr e) = ap₂ (step.back i) e q

  -- each of several, where the first of them starts or has the same unit before it
  unit_alike : (i k : ℕ) → ((j : ℕ) → j ≤ k → unit u (i + j) s ≡ unit u (i + j) t) → Starts step i ⊎ (before step i s ≡ before step i t)
      → step.back (i + k) (before step (i + k) s) (unit u (i + k) s) ≡ step.back (i + k) (before step (i + k) t) (unit u (i + k) t)
  unfolding before
  unit_alike i zero h e = rw (add-zero i) (one_alike i (rw add-zero at (h zero (omega arith))) e)
  unit_alike i (suc k) h e =
      let q = h (suc k) (omega arith) in
      rw (add-suc i k) (ap₂ (step.back (suc (i + k))) (h k (omega arith)) (rw (add-suc i k) at q))

  module _ (z : Sized step) where
    -- the law of blocks: unit i of what is opened depends on unit i of the ciphertext and, unless it starts, on the one before it
    pub opened_alike : (i n : ℕ) → i < n → unit u i s ≡ unit u i t → Starts step i ⊎ (before step i s ≡ before step i t)
        → unit u i (open_units step n s) ≡ unit u i (open_units step n t)
    opened_alike i n l e b = unit_open step z s i n l ∙ one_alike i e b ∙ sym (unit_open step z t i n l)

    -- m units from unit i on
    pub open_alike : (i m n : ℕ) → i + m ≤ n → ((j : ℕ) → j < m → unit u (i + j) s ≡ unit u (i + j) t)
        → Starts step i ⊎ (before step i s ≡ before step i t)
        → take (u * m) (drop (u * i) (open_units step n s)) ≡ take (u * m) (drop (u * i) (open_units step n t))
    open_alike i m n h e b =
        grown_alike (take_grown u (drop (u * i) (open_units step n s))) (take_grown u (drop (u * i) (open_units step n t))) m
        (λ k l q. unit_drop u i k (open_units step n s) ∙ unit_open step z s (i + k) n (omega (arith, l))
        ∙ unit_alike i k (λ j g. e j (omega (arith, g, l))) b
        ∙ sym (unit_drop u i k (open_units step n t) ∙ unit_open step z t (i + k) n (omega (arith, l))))

    -- bytes a up to b, where the units that they meet agree
    pub stretch_meets : (n a b : ℕ) → a < b → b ≤ u * n → ((k : ℕ) → u * k < b → a < u * k + u → unit u k s ≡ unit u k t)
        → Starts step (a / u) ⊎ (before step (a / u) s ≡ before step (a / u) t)
        → take (b - a) (drop a (open_units step n s)) ≡ take (b - a) (drop a (open_units step n t))
    stretch_meets n a b h hb e start =
        let i : ℕ = a / u in
        let l : ℕ = (b - 1) / u in
        let m : ℕ = suc l - i in
        let first : u * i ≤ a = mul-div-le a u in
        let past : a < u * (i + 1) = lt-mul-div-succ a z.some in
        let last : u * l ≤ b - 1 = mul-div-le (b - 1) u in
        let end : b - 1 < u * (l + 1) = lt-mul-div-succ (b - 1) z.some in
        let order : i ≤ l = (le-div_iff_mul-le z.some).1 (omega arith) in
        let within : l < n = (div-lt_iff_lt-mul z.some).1 (omega arith) in
        let all : i + m ≡ suc l = omega arith in
        let reach : (j : ℕ) → j < m → u * (i + j) ≤ u * l = λ j g. mul-le-mul_left u (omega (arith, g)) in
        let same = open_alike i m n (omega arith) (λ j g. e (i + j) (omega (arith, reach j g)) (omega arith)) start in
        part_units u i m a b (open_units step n s) first (omega arith) (rw all (omega arith))
        ∙ ap (λ (x : List ℕ). take (b - a) (drop (a - u * i) x)) same
        ∙ sym (part_units u i m a b (open_units step n t) first (omega arith) (rw all (omega arith)))

    -- the same by bytes: those that count agree, and every unit is linked to the one before it or starts
    module _ (linked : ℕ → Type 0) (each : (i : ℕ) → Starts step i ⊎ linked i) (long : length s ≡ length t) (n a b : ℕ)
        (e : AgreeAt (Needed u linked a b) s t) where
      -- the unit before the first
      led : a < b → (i : ℕ) → i ≡ a / u → linked (a / u) → before step i s ≡ before step i t
      unfolding before
      led h zero q l = refl
      led h (suc i) q l = unit_agrees u i s t z.some long (λ j k. e j (inr ((h, ap suc k ∙ q), l)))

      joint : a < b → Starts step (a / u) ⊎ linked (a / u) → Starts step (a / u) ⊎ (before step (a / u) s ≡ before step (a / u) t)
      joint h (inl k) = inl k
      joint h (inr l) = inr (led h (a / u) refl l)

      pub stretch_agrees : b ≤ u * n → take (b - a) (drop a (open_units step n s)) ≡ take (b - a) (drop a (open_units step n t))
      stretch_agrees hb =
          elim (eq-zero-or-pos (b - a)) [
            | inl none ↦ rw none
            | inr l ↦ let h : a < b = omega (arith, l) in
                stretch_meets n a b h hb (λ k p q. unit_agrees u k s t z.some long (λ j g. e j (inl (subst⁻¹ (Meets u a b) g (h, p, q))))) (joint h (each (a / u)))
          ]
