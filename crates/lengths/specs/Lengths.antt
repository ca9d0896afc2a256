-- How long a package, its filling and its stream are (01, "The package stream" and rules 13 to 15; 004 2.3.4.4), over numbers alone: no
-- cipher and no password is part of it. Assumes nothing.
use Rattle.std.specs.Prelude.{Bool, true, false, cond, not, ◌&&◌, ◌||◌, List, [], ◌∷◌, ℕ, ◌+◌, ◌-◌, ◌%◌, ltb, eqb}
use Rattle.octets.specs.Octets.{le_at}
use Rattle.answers.specs.Rules.{Rule, rule}

-- StreamSize: all eight bytes, low byte first
unfoldable pub stream_size : List ℕ → ℕ
stream_size s = le_at 8 0 s

-- ---- the filling

-- the least number of bytes that brings a size to a multiple of 16
unfoldable pub least : ℕ → ℕ
least size = (16 - size % 16) % 16

-- the sizes that an extra block may follow (request 2026-02; 003, "Edge case"): above 0 and a multiple of 4,096
unfoldable pub takes_extra : ℕ → Bool
takes_extra size = ltb 0 size && eqb (size % 4096) 0

-- how long the filling is: the least, or a whole block where that is chosen and the size takes one
unfoldable pub filling_for : (extra : Bool) (size : ℕ) → ℕ
filling_for extra size = cond (extra && takes_extra size) 16 (least size)

-- how long the ciphertext is: package and filling
unfoldable pub rounded : (extra : Bool) (size : ℕ) → ℕ
rounded extra size = size + filling_for extra size

-- how long the stream is: StreamSize, and the ciphertext
unfoldable pub sealed_size : (extra : Bool) (size : ℕ) → ℕ
sealed_size extra size = 8 + rounded extra size

-- whether n bytes may be the ciphertext of a package of that size: they are with one choice or the other
unfoldable pub length_allowed : (size n : ℕ) → Bool
length_allowed size n = eqb n (rounded false size) || eqb n (rounded true size)

-- whether n bytes may be its filling
unfoldable pub allowed : (size n : ℕ) → Bool
allowed size n = length_allowed size (size + n)

-- ---- the rules (01, "The numbered replies")

-- the most bytes of a package
unfoldable pub package_limit : ℕ
package_limit = 268435456

unfoldable pub large : ℕ → Bool
large size = ltb package_limit size

-- the rules 13 to 15 on a stream of n bytes with that StreamSize. No. 15: the bytes after the first eight are not, in number, StreamSize
-- rounded up, nor an extra block more where StreamSize takes one
unfoldable pub length_rules : (n size : ℕ) → List Rule
length_rules n size =
    rule 13 (ltb n 8)
    ∷ rule 14 (large size)
    ∷ rule 15 (not (length_allowed size (n - 8)))
    ∷ []

-- the rule on a package of that size which is to be sealed
unfoldable pub size_rules : (size : ℕ) → List Rule
size_rules size = rule 14 (large size) ∷ []
