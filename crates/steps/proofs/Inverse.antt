-- Each unit comes back after the cipher unit that it was sealed after, so the stream does, both ways. Assumes nothing.
use mathlib.Core.Path.{◌≡◌, sym, ap, ap₂, ◌∙◌}
use mathlib.Core.Bool.{true}
use mathlib.Core.List.{List}
use Prim.Native.Nat.{ℕ, zero, suc, ◌*◌, ◌/◌, ◌%◌, ◌≤◌, ◌<◌}
use native.Mathlib.Nat.{le_refl, mod-one, div-add-mod, mul-div-le}
use native.Mathlib.Omega.{arith}
use borrow.Author.Tests.{eq-eqb, eqb-true}
use lib.ListN.{length, take}
use lib.Seq.{take_all, take-take}
use Rattle.octets.specs.Octets.{Bytes}
use Rattle.steps.specs.Stream.{Undone, Reversible}
use Rattle.steps.specs.Steps.{unit, whole, FullUnit, Step, before, open_units, seal_units, open_all, seal_all, resumed, Reverses}
use Rattle.steps.proofs.Units.{unit_ends, length_unit, unit_full, take_grown, grown_alike, grown_bytes}
use Rattle.steps.proofs.Made.{open_grown, seal_grown, before_same, resumed_sized, length_open, length_seal, unit_open, unit_seal}

-- ---- whole units

-- a stream cipher takes every length
pub whole_one : (n : ℕ) → whole 1 n ≡ true
unfolding whole
whole_one n = eq-eqb (n % 1) 0 (mod-one n)

module _ (u : ℕ) where
  pub whole_long : (s : List ℕ) → whole u (length s) ≡ true → length s ≡ u * (length s / u)
  unfolding whole
  whole_long s w = omega (arith, div-add-mod (length s) u, eqb-true (length s % u) 0 w)

  -- what is undone on n units, for any n, is undone on whole units
  module _ (a b : ℕ → List ℕ → List ℕ) (long : (n : ℕ) (s : List ℕ) → length (a n s) ≡ u * n)
      (undo : (n : ℕ) (s : List ℕ) → u * n ≤ length s → b n (a n s) ≡ take (u * n) s) where
    all_undone : (s : List ℕ) → whole u (length s) ≡ true → let t = a (length s / u) s in b (length t / u) t ≡ s
    all_undone s w =
        let n : ℕ = length s / u in
        ap (λ (m : ℕ). b (m / u) (a n s)) (long n s ∙ sym (whole_long s w))
        ∙ undo n s (mul-div-le (length s) u) ∙ take_all (u * n) s (omega (arith, whole_long s w))

    undone : ((n : ℕ) (s : List ℕ) → Bytes s → u * n ≤ length s → Bytes (a n s)) → Undone (whole u) (λ s. a (length s / u) s) (λ s. b (length s / u) s)
    undone bytes =
        record {
          long = λ s w. long (length s / u) s ∙ sym (whole_long s w.long);
          bytes = λ s w. bytes (length s / u) s w.bytes (mul-div-le (length s) u);
          undo = λ s w. all_undone s w.long;
        }

-- ---- there and back

module _ (step : Step) (r : Reverses step) where
  abbrev u : ℕ
  u = step.width

  before_long : (i : ℕ) (s : List ℕ) → u * i ≤ length s → length (before step i s) ≡ u
  unfolding before
  before_long zero s h = r.first.long
  before_long (suc i) s h = length_unit u i s (omega arith)

  before_full : (i : ℕ) (s : List ℕ) → Bytes s → u * i ≤ length s → FullUnit u (before step i s)
  unfolding before
  before_full zero s b h = r.first
  before_full (suc i) s b h = unit_full u i s b (omega arith)

  module _ (n : ℕ) (s : List ℕ) (b : Bytes s) (h : u * n ≤ length s) where
    full : (i : ℕ) → i < n → FullUnit u (unit u i s)
    full i l = unit_full u i s b (omega (arith, unit_ends u l))

    pub open_bytes : Bytes (open_units step n s)
    open_bytes =
        grown_bytes (open_grown step s) n
        (λ i l c. r.back i (before step i s) (unit u i s) (before_full i s b (omega (arith, unit_ends u l))) (full i l))

    pub seal_bytes : Bytes (seal_units step n s)
    seal_bytes =
        grown_bytes (seal_grown step s) n
        (λ i l c. r.there i (before step i (seal_units step i s)) (unit u i s)
        (before_full i (seal_units step i s) c (omega (arith, length_seal step r.sized s i))) (full i l))

  module _ (n : ℕ) (s : List ℕ) (h : u * n ≤ length s) where
    long : (i : ℕ) → i < n → length (unit u i s) ≡ u
    long i l = length_unit u i s (omega (arith, unit_ends u l))

    -- what was sealed, opened
    pub open_seal : open_units step n (seal_units step n s) ≡ take (u * n) s
    open_seal =
        let c : List ℕ = seal_units step n s in
        grown_alike (open_grown step c) (take_grown u s) n
        (λ i l q. ap (step.back i (before step i c)) (unit_seal step r.sized s i n l)
        ∙ r.undo i (before step i c) (unit u i s) (before_long i c (omega (arith, length_seal step r.sized s n, unit_ends u l))) (long i l))

    -- what was opened, sealed
    pub seal_open : seal_units step n (open_units step n s) ≡ take (u * n) s
    seal_open =
        grown_alike (seal_grown step (open_units step n s)) (take_grown u s) n
        (λ i l q. ap₂ (step.there i)
        (ap (before step i) q ∙ before_same step i i (take (u * i) s) s (le_refl i) (take-take (u * i) (u * i) s (le_refl (u * i))))
        (unit_open step r.sized s i n l)
        ∙ r.redo i (before step i s) (unit u i s) (before_long i s (omega (arith, unit_ends u l))) (long i l))

  -- all of a stream of whole units
  module _ (s : List ℕ) where
    pub opened_sealed : whole u (length s) ≡ true → open_all step (seal_all step s) ≡ s
    unfolding open_all seal_all
    opened_sealed = all_undone u (seal_units step) (open_units step) (λ n t. length_seal step r.sized t n) open_seal s

    pub sealed_opened : whole u (length s) ≡ true → seal_all step (open_all step s) ≡ s
    unfolding open_all seal_all
    sealed_opened = all_undone u (open_units step) (seal_units step) (λ n t. length_open step r.sized t n) seal_open s

    pub sealed_bytes : Bytes s → Bytes (seal_all step s)
    unfolding seal_all
    sealed_bytes b = seal_bytes (length s / u) s b (mul-div-le (length s) u)

  pub step_reversible : Reversible (whole u) (seal_all step) (open_all step)
  unfolding open_all seal_all
  step_reversible =
      record {
        forth = undone u (seal_units step) (open_units step) (λ n s. length_seal step r.sized s n) open_seal seal_bytes;
        home = undone u (open_units step) (seal_units step) (λ n s. length_open step r.sized s n) seal_open open_bytes;
      }

  -- what comes from unit i on is reversible by itself
  pub resumed_reverses : (i : ℕ) (p : List ℕ) → FullUnit u p → Reverses (resumed i p step)
  resumed_reverses i p f =
      record {
        sized = resumed_sized step r.sized i p;
        first = f;
        there = λ j. r.there _;
        back = λ j. r.back _;
        undo = λ j. r.undo _;
        redo = λ j. r.redo _;
      }
