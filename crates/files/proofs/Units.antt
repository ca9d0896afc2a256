-- Unit i is the number at place 2i, so the loop lays one more a turn; and the bytes of the units are the file again. Assumes nothing.
use mathlib.Core.Path.{◌≡◌, refl, sym, ◌∙◌}
use mathlib.Core.List.{List, [], ◌∷◌, flat_map}
use Prim.Native.Nat.{ℕ, zero, suc, ◌+◌, ◌*◌, ◌/◌, ◌%◌, ◌≤◌, ◌<◌}
use native.Mathlib.Numerals.{add-one}
use native.Mathlib.Omega.{arith}
use lib.ListN.{length, get_or, take, set}
use lib.Seq.{take-suc, take-suc-set, take_all}
use Rattle.octets.specs.Octets.{Bytes, le, le_bytes, le_at}
use Rattle.octets.proofs.Below.{tail_below}
use Rattle.octets.proofs.Numbers.{le_at_past}
use Rattle.derivation.specs.Key.{unit_bytes}
use Rattle.files.specs.Files.{units}

pub length_units : (s : List ℕ) → length (units s) ≡ length s / 2
unfolding units
length_units [] = refl
length_units (b ∷ []) = refl
length_units (b ∷ c ∷ s) = omega (arith, length_units s)

pub unit_at : (s : List ℕ) (i : ℕ) → 2 * i + 2 ≤ length s → get_or (units s) i 0 ≡ le_at 2 (2 * i) s
unfolding units le_at le
unit_at [] i h = absurd (omega arith)
unit_at (b ∷ []) i h = absurd (omega arith)
unit_at (b ∷ c ∷ s) zero h = omega arith
unit_at (b ∷ c ∷ s) (suc i) h =
    let e : 2 * suc i ≡ 2 + 2 * i = omega arith in
    unit_at s i (omega arith) ∙ sym (rw e (le_at_past 2 (2 * i) (b ∷ c ∷ []) s))

-- a turn of the loop
pub unit_next : (s d : List ℕ) (i v : ℕ) → i < length s / 2 → i < length d → take i d ≡ take i (units s) → v ≡ le_at 2 (2 * i) s
    → take (i + 1) (set d i v) ≡ take (i + 1) (units s)
unit_next s d i v h k e q =
    let l : i < length (units s) = omega (arith, length_units s) in
    rw (add-one, take-suc-set d i v k, e, take-suc (units s) i 0 l, unit_at s i (omega arith), q)

-- where it ends all of them are laid
pub units_laid : (s d : List ℕ) (i : ℕ) → i ≡ length s / 2 → take i d ≡ take i (units s) → take (length s / 2) d ≡ units s
units_laid s d i e h = rw (← e) (h ∙ take_all i (units s) (omega (arith, length_units s)))

-- of a file of even length no byte is lost or changed
pub units_bytes : (s : List ℕ) → Bytes s → length s % 2 ≡ 0 → unit_bytes (units s) ≡ s
unfolding units flat_map le_bytes
units_bytes [] b h = refl
units_bytes (x ∷ []) b h = absurd (omega arith)
units_bytes (x ∷ y ∷ s) b h =
    let low : (x + 256 * y) % 256 ≡ x = omega (arith, b.at 0) in
    let high : (x + 256 * y) / 256 ≡ y = omega (arith, b.at 0) in
    let byte : y % 256 ≡ y = omega (arith, b.at 1) in
    rw (low, high, byte, units_bytes s (tail_below (tail_below b)) (omega arith))
