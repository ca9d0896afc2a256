-- A buffer filled from its front, each part laid right after the one before it. Assumes nothing.
use mathlib.Core.Path.{◌≡◌, refl, sym, ap, ◌∙◌}
use mathlib.Core.List.{List, [], ◌++◌}
use Prim.Native.Nat.{ℕ, ◌+◌, ◌-◌}
use native.Mathlib.Omega.{arith}
use lib.ListN.{length, take, replicate, length-append}
use lib.Seq.{paste, take-paste, length-paste, take_all}
use Rattle.octets.specs.Octets.{le_bytes, zero_from}
use Rattle.octets.proofs.Numbers.{length_le_bytes}

-- b begins with p, of n bytes, and has m more
pub record Filled (p b : List ℕ) (n m : ℕ) : Type 0 where
  pub long : length p ≡ n
  pub front : take n b ≡ p
  pub room : length b ≡ n + m

pub none : (b : List ℕ) (m : ℕ) → length b ≡ m → Filled [] b 0 m
none b m e = record { long = refl; front = refl; room = omega arith }

pub more : {p x : List ℕ} (at n m : ℕ) (s y : List ℕ) → Filled p x at (n + m) → length s ≡ n → y ≡ paste x at s n
    → Filled (p ++ s) y (at + n) m
more {p} {x} at n m s y f l e =
    let r : length x ≡ at + (n + m) = f.room in
    record {
      long = rw (length-append, f.long, l);
      front = ap (take (at + n)) e ∙ take-paste x at s n (omega arith) (omega arith) ∙ rw (f.front, take_all n s (omega arith));
      room = ap length e ∙ length-paste x at s n (omega arith) (omega arith) ∙ (omega arith);
    }

-- a number of n bytes
pub more_le : {p x : List ℕ} (at n m v : ℕ) (y : List ℕ) → Filled p x at (n + m) → y ≡ paste x at (le_bytes n v) n
    → Filled (p ++ le_bytes n v) y (at + n) m
more_le at n m v y f e = more at n m (le_bytes n v) y f (length_le_bytes n v) e

-- a buffer that is filled is what was laid
pub whole : {p b : List ℕ} {n : ℕ} → Filled p b n 0 → b ≡ p
whole {p} {b} {n} f = sym (take_all n b (omega (arith, f.room))) ∙ f.front

-- and one that is not, zeroed from there
pub zeroed : {p b : List ℕ} {n m : ℕ} → Filled p b n m → zero_from n b ≡ p ++ replicate m 0
unfolding zero_from
zeroed {p} {b} {n} {m} f =
    let k : length b - n ≡ m = omega (arith, f.room) in
    rw (f.front, k)
