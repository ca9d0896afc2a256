-- The words that each cipher looks up: every byte's share of its column, once it is substituted (FIPS 197 5.1.1 and 5.1.3, 5.3.2 and
-- 5.3.3). Assumes nothing.
use Rattle.std.specs.Prelude.{◌≡◌, List, ℕ, ◌+◌, ◌*◌, ◌<◌, length, get_or}
use Rattle.fips197.specs.Tables.{look, sbox, inv_sbox}
use Rattle.fips197.specs.Products.{share, moved_word}

-- four tables of 256 words, one behind the other: in table k a byte of row k finds what it adds to its column once it is substituted
pub record Rows (p q r t : ℕ) (sub : ℕ → ℕ) (words : List ℕ) : Type 0 where
  pub long : length words ≡ 1024
  pub byte : (x : ℕ) → x < 256 → sub x < 256
  pub at : (k x : ℕ) → k < 4 → x < 256 → get_or words (256 * k + x) 0 ≡ moved_word k (share p q r t (sub x))

-- those of the cipher, and of the inverse cipher
abbrev pub Forward : List ℕ → Type 0
Forward words = Rows 2 3 1 1 (look sbox) words

abbrev pub Inverse : List ℕ → Type 0
Inverse words = Rows 14 11 13 9 (look inv_sbox) words
