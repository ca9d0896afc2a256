-- The cipher and the inverse cipher, over any number of rounds and any round keys (FIPS 197 5.1 and 5.3). The state is a list of
-- sixteen bytes, column after column (3.4). Assumes nothing.
use Rattle.std.specs.Prelude.{List, [], ◌∷◌, map, ℕ, zero, suc, ◌+◌, ◌-◌, ◌*◌, ◌%◌, get_or, take, drop}
use Rattle.fips197.specs.Field.{xor, mul}
use Rattle.fips197.specs.Tables.{look, sbox, inv_sbox}

-- each byte by the substitution table (5.1.1), and by the inverse table (5.3.2)
unfoldable pub sub_bytes : List ℕ → List ℕ
sub_bytes s = map (look sbox) s

unfoldable pub inv_sub_bytes : List ℕ → List ℕ
inv_sub_bytes s = map (look inv_sbox) s

-- f 0, f 1, .. , n of them
abbrev pub tabulate : ℕ → (ℕ → ℕ) → List ℕ
tabulate zero f = []
tabulate (suc n) f = f 0 ∷ tabulate n (λ i. f (suc i))

-- row r moved left by k r columns, in a circle: place i is of row i % 4, and a column is 4 places
unfoldable pub shift : ℕ → List ℕ → List ℕ
shift k s = tabulate 16 (λ i. get_or s ((i + 4 * (k * (i % 4))) % 16) 0)

-- row r moved left by r columns (5.1.2), and right by r, which is left by 3 r (5.3.1)
unfoldable pub shift_rows : List ℕ → List ℕ
shift_rows s = shift 1 s

unfoldable pub inv_shift_rows : List ℕ → List ℕ
inv_shift_rows s = shift 3 s

-- a row of a matrix times a column (4.3)
unfoldable pub row : ℕ → ℕ → ℕ → ℕ → ℕ → ℕ → ℕ → ℕ → ℕ
row p q r t a b c d = xor (xor (xor (mul p a) (mul q b)) (mul r c)) (mul t d)

-- each column by the matrix whose first row is m, and whose other rows are that row moved right (4.3)
unfoldable pub columns : (ℕ → ℕ → ℕ → ℕ → ℕ) → List ℕ → List ℕ
columns m [] = []
columns m (a ∷ []) = a ∷ []
columns m (a ∷ b ∷ []) = a ∷ b ∷ []
columns m (a ∷ b ∷ c ∷ []) = a ∷ b ∷ c ∷ []
columns m (a ∷ b ∷ c ∷ d ∷ s) = m a b c d ∷ m b c d a ∷ m c d a b ∷ m d a b c ∷ columns m s

-- the matrix of 5.1.3, and its inverse (5.3.3)
unfoldable pub mix_columns : List ℕ → List ℕ
mix_columns s = columns (row 2 3 1 1) s

unfoldable pub inv_mix_columns : List ℕ → List ℕ
inv_mix_columns s = columns (row 14 11 13 9) s

-- the round key added, byte by byte (5.1.4); its own inverse (5.3.4)
unfoldable pub add_round_key : List ℕ → List ℕ → List ℕ
add_round_key [] k = []
add_round_key (x ∷ s) [] = x ∷ s
add_round_key (x ∷ s) (y ∷ k) = xor x y ∷ add_round_key s k

-- round key r of an expanded key: four words, sixteen bytes (5.1.4)
unfoldable pub round_key : List ℕ → ℕ → List ℕ
round_key w r = take 16 (drop (16 * r) w)

-- a round (5.1), and a round of the inverse cipher (5.3)
unfoldable pub round : (ℕ → List ℕ) → ℕ → List ℕ → List ℕ
round key r s = add_round_key (mix_columns (shift_rows (sub_bytes s))) (key r)

unfoldable pub inv_round : (ℕ → List ℕ) → ℕ → List ℕ → List ℕ
inv_round key r s = inv_mix_columns (add_round_key (inv_sub_bytes (inv_shift_rows s)) (key r))

-- rounds 1 to n
unfoldable pub rounds : (ℕ → List ℕ) → ℕ → List ℕ → List ℕ
rounds key zero s = s
rounds key (suc n) s = round key (suc n) (rounds key n s)

-- rounds n down to 1 of the inverse cipher
unfoldable pub inv_rounds : (ℕ → List ℕ) → ℕ → List ℕ → List ℕ
inv_rounds key zero s = s
inv_rounds key (suc n) s = inv_rounds key n (inv_round key (suc n) s)

-- the cipher of n rounds: the last has no MixColumns (5.1)
unfoldable pub cipher : (ℕ → List ℕ) → ℕ → List ℕ → List ℕ
cipher key n s = add_round_key (shift_rows (sub_bytes (rounds key (n - 1) (add_round_key s (key 0))))) (key n)

-- the inverse cipher of n rounds (5.3)
unfoldable pub inv_cipher : (ℕ → List ℕ) → ℕ → List ℕ → List ℕ
inv_cipher key n s = add_round_key (inv_sub_bytes (inv_shift_rows (inv_rounds key (n - 1) (add_round_key s (key n))))) (key 0)
