-- What grows by a unit at a time has the unit of turn i as its unit i, and two that grow by equal units are equal. Assumes nothing.
use mathlib.Core.Path.{◌≡◌, refl, sym, ap, ap₂, ◌∙◌}
use mathlib.Core.List.{List, [], ◌∷◌, ◌++◌}
use Prim.Native.Nat.{ℕ, zero, suc, ◌+◌, ◌-◌, ◌*◌, ◌≤◌, ◌<◌}
use native.Mathlib.Nat.{zero-add, add-zero, add-suc, sub-zero, zero-sub, suc-sub-suc, mul-zero, mul-suc, mul-add, mul-le-mul_left}
use native.Mathlib.Omega.{arith}
use lib.ListN.{length, take, drop, length-append}
use lib.Seq.{take-nil, take_all, take-add, take-append-le, drop_at, drop-drop}
use Rattle.octets.specs.Octets.{Bytes}
use Rattle.octets.proofs.Parts.{drop_take, length_part, part_part}
use Rattle.octets.proofs.Below.{nil_bytes, append_below, take_below, drop_below}
use Rattle.steps.specs.Steps.{unit, FullUnit}

-- ---- a stream that is cut

drop_cut : (o n : ℕ) (s : List ℕ) → drop o (take n s) ≡ take (n - o) (drop o s)
drop_cut zero n s = rw sub-zero
drop_cut (suc o) zero s = rw zero-sub
drop_cut (suc o) (suc n) [] = sym (take-nil (suc n - suc o))
drop_cut (suc o) (suc n) (x ∷ s) = rw suc-sub-suc (drop_cut o n s)

take_swap : (m n : ℕ) (s : List ℕ) → take m (take n s) ≡ take n (take m s)
take_swap zero n s = sym (take-nil n)
take_swap (suc m) zero s = refl
take_swap (suc m) (suc n) [] = refl
take_swap (suc m) (suc n) (x ∷ s) = ap (◌∷◌ x) (take_swap m n s)

-- ---- the units of a stream

module _ (u : ℕ) where
  -- unit i ends where the next begins
  pub unit_ends : {i n : ℕ} → i < n → u * i + u ≤ u * n
  unit_ends l = rw mul-suc at (mul-le-mul_left u l)

  pub length_unit : (i : ℕ) (s : List ℕ) → u * i + u ≤ length s → length (unit u i s) ≡ u
  unfolding unit
  length_unit i s h = length_part u (u * i) s h

  pub unit_full : (i : ℕ) (s : List ℕ) → Bytes s → u * i + u ≤ length s → FullUnit u (unit u i s)
  unfolding unit
  unit_full i s b h = record { long = length_unit i s h; bytes = take_below u (drop (u * i) s) (drop_below (u * i) s b) }

  -- unit j past m units
  pub unit_drop : (m j : ℕ) (s : List ℕ) → unit u j (drop (u * m) s) ≡ unit u (m + j) s
  unfolding unit
  unit_drop m j s = rw (drop-drop, mul-add)

  unit_take : (i m : ℕ) (s : List ℕ) → u * i + u ≤ m → unit u i (take m s) ≡ unit u i s
  unfolding unit
  unit_take i m s h = rw zero-add at (part_part u (u * i) m 0 s h)

  -- of a stream that is cut at n, what is left of unit i
  pub unit_cut : (i n : ℕ) (s : List ℕ) → unit u i (take n s) ≡ take (n - u * i) (unit u i s)
  unfolding unit
  unit_cut i n s = ap (take u) (drop_cut (u * i) n s) ∙ take_swap u (n - u * i) (drop (u * i) s)

  -- streams with the same first n units
  pub unit_same : (i n : ℕ) (s t : List ℕ) → i < n → take (u * n) s ≡ take (u * n) t → unit u i s ≡ unit u i t
  unit_same i n s t l e = sym (unit_take i (u * n) s (unit_ends l)) ∙ ap (unit u i) e ∙ unit_take i (u * n) t (unit_ends l)

  -- bytes a up to b, which lie in m units from unit i on
  pub part_units : (i m a b : ℕ) (s : List ℕ) → u * i ≤ a → a ≤ b → b ≤ u * (i + m)
      → take (b - a) (drop a s) ≡ take (b - a) (drop (a - u * i) (take (u * m) (drop (u * i) s)))
  part_units i m a b s ha hb he =
      let e : u * i + (a - u * i) ≡ a = omega arith in
      sym (rw e at (part_part (b - a) (a - u * i) (u * m) (u * i) s (omega arith)))

-- ---- growing by a unit at a time

-- g n is f 0, f 1, .. , n of them, one after the other
pub record Grown (f g : ℕ → List ℕ) : Type 0 where
  pub none : g zero ≡ []
  pub more : (n : ℕ) → g (suc n) ≡ g n ++ f n

-- a stream, by its own units
pub take_grown : (u : ℕ) (s : List ℕ) → Grown (λ n. unit u n s) (λ n. take (u * n) s)
unfolding unit
take_grown u s = record { none = rw mul-zero; more = λ n. rw mul-suc (take-add (u * n) u s) }

-- two that grow by equal units are equal; that those before are equal may be used
pub grown_alike : {f g h k : ℕ → List ℕ} → Grown f g → Grown h k → (n : ℕ) → ((i : ℕ) → i < n → g i ≡ k i → f i ≡ h i) → g n ≡ k n
grown_alike a b zero e = a.none ∙ sym b.none
grown_alike a b (suc n) e =
    let q = grown_alike a b n (λ i l. e i (omega (arith, l))) in
    a.more n ∙ ap₂ ◌++◌ q (e n (omega arith) q) ∙ sym (b.more n)

module _ {f g : ℕ → List ℕ} (r : Grown f g) where
  pub grown_bytes : (n : ℕ) → ((i : ℕ) → i < n → Bytes (g i) → Bytes (f i)) → Bytes (g n)
  grown_bytes zero h = rw r.none nil_bytes
  grown_bytes (suc n) h =
      let b : Bytes (g n) = grown_bytes n (λ i l. h i (omega (arith, l))) in
      rw (r.more n) (append_below (g n) (f n) b (h n (omega arith) b))

  module _ (u : ℕ) (sized : (n : ℕ) → length (f n) ≡ u) where
    pub length_grown : (n : ℕ) → length (g n) ≡ u * n
    length_grown zero = ap length r.none ∙ sym (mul-zero u)
    length_grown (suc n) = ap length (r.more n) ∙ length-append (g n) (f n) ∙ omega (arith, length_grown n, sized n)

    front_on : (n k : ℕ) → take (u * n) (g (n + k)) ≡ g n
    front_on n zero = rw add-zero (take_all (u * n) (g n) (omega (arith, length_grown n)))
    front_on n (suc k) =
        rw (add-suc, r.more (n + k), take-append-le (u * n) (g (n + k)) (f (n + k)) (omega (arith, length_grown (n + k)))) (front_on n k)

    -- the first n units are what n turns make
    pub front_grown : (n m : ℕ) → n ≤ m → take (u * n) (g m) ≡ g n
    front_grown n m h = let e : n + (m - n) ≡ m = omega arith in rw e at (front_on n (m - n))

    pub unit_grown : (i n : ℕ) → i < n → unit u i (g n) ≡ f i
    unfolding unit
    unit_grown i n l =
        sym (drop_take (u * i) u (g n)) ∙ rw (← mul-suc u i, front_grown (suc i) n l, r.more i) (drop_at (g i) (f i) (u * i) (length_grown i))
