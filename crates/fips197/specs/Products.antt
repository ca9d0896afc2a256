-- Products in the field by the factors of a matrix, kept as words (FIPS 197 4.2, 4.3, 5.1.3 and 5.3.3). Assumes nothing.
use Rattle.std.specs.Prelude.{◌≡◌, List, [], ◌∷◌, ◌++◌, ℕ, ◌-◌, ◌<◌, length, get_or, take, drop}
use Rattle.octets.specs.Octets.{le, le_bytes}
use Rattle.fips197.specs.Field.{xor, mul}
use Rattle.fips197.specs.Cipher.{tabulate}

-- the word of four tables' entries at x, the first one's lowest
unfoldable pub entry : List ℕ → List ℕ → List ℕ → List ℕ → ℕ → ℕ
entry p q r t x = le (get_or p x 0 ∷ get_or q x 0 ∷ get_or r x 0 ∷ get_or t x 0 ∷ [])

-- the words at every byte
unfoldable pub laid : List ℕ → List ℕ → List ℕ → List ℕ → List ℕ
laid p q r t = tabulate 256 (entry p q r t)

-- what the byte x in row 0 adds to its column: its products by the first column of the matrix whose first row is p q r t, as a word
unfoldable pub share : ℕ → ℕ → ℕ → ℕ → ℕ → ℕ
share p q r t x = le (mul p x ∷ mul t x ∷ mul r x ∷ mul q x ∷ [])

-- 256 words in which each byte finds its share once it is substituted
pub record Laid (p q r t : ℕ) (sub : ℕ → ℕ) (words : List ℕ) : Type 0 where
  pub long : length words ≡ 256
  pub byte : (x : ℕ) → x < 256 → sub x < 256
  pub at : (x : ℕ) → x < 256 → get_or words x 0 ≡ share p q r t (sub x)

-- those of InvMixColumns (5.3.3), with nothing substituted
abbrev pub Shares : List ℕ → Type 0
Shares words = Laid 14 11 13 9 (λ x. x) words

-- a word's bytes moved up by k places, in a circle: what a byte in row k adds, from what it adds in row 0
unfoldable pub moved : ℕ → List ℕ → List ℕ
moved k s = drop (4 - k) s ++ take (4 - k) s

unfoldable pub moved_word : ℕ → ℕ → ℕ
moved_word k v = le (moved k (le_bytes 4 v))

-- the words at four bytes, each moved to its byte's row, added (4.3): the column, where the words are a matrix's shares
unfoldable pub column_sum : List ℕ → ℕ → ℕ → ℕ → ℕ → ℕ
column_sum words a b c d =
    xor (xor (xor (get_or words a 0) (moved_word 1 (get_or words b 0))) (moved_word 2 (get_or words c 0))) (moved_word 3 (get_or words d 0))
