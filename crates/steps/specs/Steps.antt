-- A stream opened and sealed unit by unit, under any rule for one unit that may look at the cipher unit before it: blocks by themselves
-- (000 section 7), and chained as 001 and 003 describe. Assumes nothing.
use Rattle.std.specs.Prelude.{◌≡◌, Bool, List, [], ◌++◌, ℕ, zero, suc, ◌+◌, ◌*◌, ◌/◌, ◌%◌, ◌<◌, eqb, length, take, drop}
use Rattle.octets.specs.Octets.{Bytes}

-- ---- units

-- unit i of a stream of units of u bytes
unfoldable pub unit : (u i : ℕ) → List ℕ → List ℕ
unit u i s = take u (drop (u * i) s)

-- the lengths of whole units (000 7.2.1: a ciphertext is whole blocks)
unfoldable pub whole : (u n : ℕ) → Bool
whole u n = eqb (n % u) 0

-- a unit: so many bytes
pub record FullUnit (u : ℕ) (x : List ℕ) : Type 0 where
  pub long : length x ≡ u
  pub bytes : Bytes x

-- ---- a stream under a step

-- how unit i, x, goes there and back after the cipher unit p, and what stands before unit 0
pub record Step : Type 0 where
  pub width : ℕ
  pub first : List ℕ
  pub there : (i : ℕ) (p x : List ℕ) → List ℕ
  pub back : (i : ℕ) (p x : List ℕ) → List ℕ

-- the cipher unit before unit i of ciphertext s
unfoldable pub before : Step → ℕ → List ℕ → List ℕ
before step zero s = step.first
before step (suc i) s = unit step.width i s

-- the first n units of ciphertext s, opened
unfoldable pub open_units : Step → ℕ → List ℕ → List ℕ
open_units step zero s = []
open_units step (suc n) s = open_units step n s ++ step.back n (before step n s) (unit step.width n s)

-- the first n units of s, sealed: the cipher unit before each is the one that was made last
unfoldable pub seal_units : Step → ℕ → List ℕ → List ℕ
seal_units step zero s = []
seal_units step (suc n) s = seal_units step n s ++ step.there n (before step n (seal_units step n s)) (unit step.width n s)

-- every whole unit, opened and sealed
unfoldable pub open_all : Step → List ℕ → List ℕ
open_all step s = open_units step (length s / step.width) s

unfoldable pub seal_all : Step → List ℕ → List ℕ
seal_all step s = seal_units step (length s / step.width) s

-- the step of what comes from unit i on, after the cipher unit p
abbrev pub resumed : (i : ℕ) (p : List ℕ) → Step → Step
resumed i p step =
    record { width = step.width; first = p; there = λ j. step.there (i + j); back = λ j. step.back (i + j) }

-- ---- what a step may be

-- unit i is opened without a look at the unit before it
pub record Starts (step : Step) (i : ℕ) : Type 0 where
  pub alike : (p q x : List ℕ) → step.back i p x ≡ step.back i q x

-- there are bytes in a unit, and both ways give a unit, whatever they take
pub record Sized (step : Step) : Type 0 where
  pub some : 0 < step.width
  pub there : (i : ℕ) (p x : List ℕ) → length (step.there i p x) ≡ step.width
  pub back : (i : ℕ) (p x : List ℕ) → length (step.back i p x) ≡ step.width

-- both ways keep bytes, and undo each other on whatever is as long as a unit, after any unit
pub record Reverses (step : Step) : Type 0 where
  pub sized : Sized step
  pub first : FullUnit step.width step.first
  pub there : (i : ℕ) (p x : List ℕ) → FullUnit step.width p → FullUnit step.width x → Bytes (step.there i p x)
  pub back : (i : ℕ) (p x : List ℕ) → FullUnit step.width p → FullUnit step.width x → Bytes (step.back i p x)
  pub undo : (i : ℕ) (p x : List ℕ) → length p ≡ step.width → length x ≡ step.width → step.back i p (step.there i p x) ≡ x
  pub redo : (i : ℕ) (p x : List ℕ) → length p ≡ step.width → length x ≡ step.width → step.there i p (step.back i p x) ≡ x
