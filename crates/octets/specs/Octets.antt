-- Bytes as numbers and numbers as bytes: low byte first as in 01 ("Numbers are little-endian"), high byte first as in
-- FIPS 180-4 3.1. Assumes nothing.
use Rattle.std.specs.Prelude.{Bool, true, false, ◌&&◌, ℕ, zero, suc, ◌+◌, ◌-◌, ◌*◌, ◌/◌, ◌%◌, ◌<◌, eqb, List, [], ◌∷◌, ◌++◌, reverse, length, get_or, take, drop, replicate}

-- every element is below n (past the end `get_or` gives 0, so n is above 0)
pub record Below (n : ℕ) (s : List ℕ) : Type 0 where
  pub at : (i : ℕ) → get_or s i 0 < n

-- every element is a byte
abbrev pub Bytes : List ℕ → Type 0
Bytes s = Below 256 s

-- the number that bytes make, low byte first
unfoldable pub le : List ℕ → ℕ
le [] = 0
le (b ∷ s) = b + 256 * le s

-- v in n bytes, low byte first
unfoldable pub le_bytes : ℕ → ℕ → List ℕ
le_bytes zero v = []
le_bytes (suc n) v = v % 256 ∷ le_bytes n (v / 256)

-- the number of the n bytes at place o, low byte first; bytes past the end count as 0
unfoldable pub le_at : ℕ → ℕ → List ℕ → ℕ
le_at n o s = le (take n (drop o s))

-- the number that bytes make, high byte first
unfoldable pub be : List ℕ → ℕ
be s = le (reverse s)

-- v in n bytes, high byte first
unfoldable pub be_bytes : ℕ → ℕ → List ℕ
be_bytes n v = reverse (le_bytes n v)

-- the number of the n bytes at place o, high byte first
unfoldable pub be_at : ℕ → ℕ → List ℕ → ℕ
be_at n o s = be (take n (drop o s))

-- d up to a place, and zeros from there to where d ends
unfoldable pub zero_from : ℕ → List ℕ → List ℕ
zero_from at d = take at d ++ replicate (length d - at) 0

-- whether two lists are equal, as a test
unfoldable pub same : List ℕ → List ℕ → Bool
same [] [] = true
same [] (y ∷ ys) = false
same (x ∷ xs) [] = false
same (x ∷ xs) (y ∷ ys) = eqb x y && same xs ys
