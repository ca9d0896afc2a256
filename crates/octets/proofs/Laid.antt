-- A number laid in two halves, at any width: the halves' bytes put end to end are the number's. Assumes nothing.
use mathlib.Core.Path.{◌≡◌}
use mathlib.Core.List.{List}
use Prim.Native.Nat.{ℕ, ◌+◌, ◌/◌, ◌%◌, ◌^◌, ◌≤◌}
use lib.ListN.{length}
use lib.Seq.{paste}
use Rattle.octets.specs.Octets.{le_bytes, be_bytes}
use Rattle.octets.proofs.Numbers.{length_le_bytes, length_be_bytes, le_bytes_two, be_bytes_two}
use Rattle.octets.proofs.Parts.{paste_two}

-- low half first
pub low_first : (n m v at : ℕ) (d e f : List ℕ) → at + (n + m) ≤ length d → e ≡ paste d at (le_bytes n (v % 256 ^ n)) n
    → f ≡ paste e (at + n) (le_bytes m (v / 256 ^ n)) m → f ≡ paste d at (le_bytes (n + m) v) (n + m)
low_first n m v at d e f =
    paste_two (le_bytes n (v % 256 ^ n)) (le_bytes m (v / 256 ^ n)) (le_bytes (n + m) v) n m at d e f
    (length_le_bytes n (v % 256 ^ n)) (length_le_bytes m (v / 256 ^ n)) (le_bytes_two n m v)

-- high half first
pub high_first : (n m v at : ℕ) (d e f : List ℕ) → at + (m + n) ≤ length d → e ≡ paste d at (be_bytes m (v / 256 ^ n)) m
    → f ≡ paste e (at + m) (be_bytes n (v % 256 ^ n)) n → f ≡ paste d at (be_bytes (n + m) v) (m + n)
high_first n m v at d e f =
    paste_two (be_bytes m (v / 256 ^ n)) (be_bytes n (v % 256 ^ n)) (be_bytes (n + m) v) m n at d e f
    (length_be_bytes m (v / 256 ^ n)) (length_be_bytes n (v % 256 ^ n)) (be_bytes_two n m v)
