-- The equivalent inverse cipher (FIPS 197 5.3.5): InvMixColumns distributes over AddRoundKey, so a round of the inverse cipher may mix
-- before it adds its key, if the key is mixed too; and substituting and shifting may change places. So a round of either cipher is its
-- rows shifted, its columns substituted and mixed, and a key added. Assumes nothing.
use mathlib.Core.Path.{◌≡◌, refl, sym, ap, ap₂, ◌∙◌}
use mathlib.Core.List.{List, [], ◌∷◌, ◌++◌, map}
use Prim.Native.Nat.{ℕ, zero, suc, ◌+◌, ◌-◌, ◌*◌, ◌≤◌}
use native.Mathlib.Nat.{add-zero}
use native.Mathlib.Omega.{arith}
use lib.ListN.{length, get_or, take, drop, length-append, length-drop, take-append-drop}
use lib.Seq.{take_at, drop_at, take-add, drop-drop, length-take-le}
use Rattle.octets.proofs.Parts.{length_part}
use Rattle.fips197.specs.Field.{xor}
use Rattle.fips197.specs.Tables.{look, sbox, inv_sbox}
use Rattle.fips197.specs.Cipher.{sub_bytes, inv_sub_bytes, shift, shift_rows, inv_shift_rows, row, columns, mix_columns, inv_mix_columns, add_round_key, round_key, round, inv_round, rounds, inv_rounds, cipher, inv_cipher}
use Rattle.fips197.proofs.Sums.{swap, mul_sum}
use Rattle.fips197.proofs.Columns.{length_columns}
use Rattle.fips197.proofs.States.{opened, length_inv_sub_bytes, length_inv_shift_rows}
use Rattle.fips197.proofs.Steps.{column}
use Rattle.fips197.proofs.Schedule.{word_read}
use Rattle.fips197.proofs.Words.{add_round_key_append}

-- ---- a matrix distributes over AddRoundKey

row_sum : (p q r t a b c d e f g h : ℕ) → row p q r t (xor a e) (xor b f) (xor c g) (xor d h) ≡ xor (row p q r t a b c d) (row p q r t e f g h)
unfolding row
row_sum p q r t a b c d e f g h =
    ap₂ xor (ap₂ xor (ap₂ xor (mul_sum p a e) (mul_sum q b f) ∙ swap _ _ _ _) (mul_sum r c g) ∙ swap _ _ _ _) (mul_sum t d h) ∙ swap _ _ _ _

-- the first column of a list, and what comes after it
parted : (s : List ℕ) → 4 ≤ length s → get_or s 0 0 ∷ get_or s 1 0 ∷ get_or s 2 0 ∷ get_or s 3 0 ∷ drop 4 s ≡ s
parted s h = ap (λ (l : List ℕ). l ++ drop 4 s) (word_read s 0 h) ∙ take-append-drop 4 s

columns_sum : (p q r t n : ℕ) (s k : List ℕ) → length s ≡ 4 * n → length k ≡ 4 * n
    → columns (row p q r t) (add_round_key s k) ≡ add_round_key (columns (row p q r t) s) (columns (row p q r t) k)
unfolding columns add_round_key
columns_sum p q r t zero [] k hs hk = refl
columns_sum p q r t zero (x ∷ s) k hs hk = absurd (omega arith)
columns_sum p q r t (suc n) s k hs hk =
    let m = row p q r t in
    let a = get_or s 0 0 in let b = get_or s 1 0 in let c = get_or s 2 0 in let d = get_or s 3 0 in
    let e = get_or k 0 0 in let f = get_or k 1 0 in let g = get_or k 2 0 in let h = get_or k 3 0 in
    let rest = columns_sum p q r t n (drop 4 s) (drop 4 k) (length-drop 4 s ∙ omega arith) (length-drop 4 k ∙ omega arith) in
    let ps = parted s (omega arith) in
    let pk = parted k (omega arith) in
    sym (ap₂ (λ (u v : List ℕ). columns m (add_round_key u v)) ps pk)
    ∙ (λ i. row_sum p q r t a b c d e f g h i ∷ row_sum p q r t b c d a f g h e i ∷ row_sum p q r t c d a b g h e f i
    ∷ row_sum p q r t d a b c h e f g i ∷ rest i)
    ∙ ap₂ (λ (u v : List ℕ). add_round_key (columns m u) (columns m v)) ps pk

-- ---- a matrix works column by column

module _ (m : ℕ → ℕ → ℕ → ℕ → ℕ) where
  columns_append : (n : ℕ) (x y : List ℕ) → length x ≡ 4 * n → columns m (x ++ y) ≡ columns m x ++ columns m y
  unfolding columns
  columns_append zero [] y h = refl
  columns_append zero (a ∷ x) y h = absurd (omega arith)
  columns_append (suc n) x y h =
      let a = get_or x 0 0 in let b = get_or x 1 0 in let c = get_or x 2 0 in let d = get_or x 3 0 in
      let whole = parted x (omega arith) in
      sym (ap (λ (u : List ℕ). columns m (u ++ y)) whole)
      ∙ ap (λ (l : List ℕ). m a b c d ∷ m b c d a ∷ m c d a b ∷ m d a b c ∷ l) (columns_append n (drop 4 x) y (length-drop 4 x ∙ omega arith))
      ∙ ap (λ (u : List ℕ). columns m u ++ columns m y) whole

  -- so a round key of the mixed keys is the round key, mixed
  columns_key : (w : List ℕ) (r : ℕ) → 16 * r + 16 ≤ length w → round_key (columns m w) r ≡ columns m (round_key w r)
  unfolding round_key
  columns_key w r h =
      let x = take (16 * r) w in
      let k = take 16 (drop (16 * r) w) in
      let y = drop 16 (drop (16 * r) w) in
      let lx : length x ≡ 16 * r = length-take-le (16 * r) w (omega arith) in
      let lk : length k ≡ 16 = length_part 16 (16 * r) w h in
      let whole : columns m w ≡ columns m x ++ (columns m k ++ columns m y) =
      ap (columns m) (sym (take-append-drop (16 * r) w) ∙ ap (λ (l : List ℕ). x ++ l) (sym (take-append-drop 16 (drop (16 * r) w))))
      ∙ columns_append (4 * r) x (k ++ y) (lx ∙ omega arith) ∙ ap (λ (l : List ℕ). columns m x ++ l) (columns_append 4 k y lk) in
      ap (λ (l : List ℕ). take 16 (drop (16 * r) l)) whole
      ∙ ap (take 16) (drop_at (columns m x) (columns m k ++ columns m y) (16 * r) (length_columns m x ∙ lx))
      ∙ take_at (columns m k) (columns m y) 16 (length_columns m k ∙ lk)

pub mixed_key : (w : List ℕ) (r : ℕ) → 16 * r + 16 ≤ length w → round_key (inv_mix_columns w) r ≡ inv_mix_columns (round_key w r)
unfolding inv_mix_columns
mixed_key = columns_key (row 14 11 13 9)

pub round_key_is : (w : List ℕ) (n : ℕ) → round_key w n ≡ take 16 (drop (16 * n) w)
unfolding round_key
round_key_is w n = refl

pub length_round_key : (w : List ℕ) (n : ℕ) → 16 * n + 16 ≤ length w → length (round_key w n) ≡ 16
unfolding round_key
length_round_key w n h = length_part 16 (16 * n) w h

-- ---- a round of each cipher

-- four columns with their keys, one after the other
pub by_keyed_columns : (p q r t : ℕ) (sub : ℕ → ℕ) (s w : List ℕ) (n : ℕ) (x a b c d : List ℕ) → length s ≡ 16 → 16 * n + 16 ≤ length w
    → x ≡ a ++ b ++ c ++ d
    → a ≡ add_round_key (columns (row p q r t) (map sub (column s 0))) (take 4 (drop (16 * n) w))
    → b ≡ add_round_key (columns (row p q r t) (map sub (column s 4))) (take 4 (drop (16 * n + 4) w))
    → c ≡ add_round_key (columns (row p q r t) (map sub (column s 8))) (take 4 (drop (16 * n + 8) w))
    → d ≡ add_round_key (columns (row p q r t) (map sub (column s 12))) (take 4 (drop (16 * n + 12) w))
    → x ≡ add_round_key (columns (row p q r t) (map sub s)) (round_key w n)
unfolding columns round_key
by_keyed_columns p q r t sub s w n x a b c d hs hw e ea eb ec ed =
    let f : ℕ → List ℕ = λ i. columns (row p q r t) (map sub (column s i)) in
    let k : ℕ → List ℕ = λ i. take 4 (drop (16 * n + i) w) in
    let long : (i : ℕ) → i + 4 ≤ 16 → length (k i) ≡ 4 = λ i l. length_part 4 (16 * n + i) w (omega (arith, l)) in
    let first : take 4 (drop (16 * n) w) ≡ k 0 = ap (λ (m : ℕ). take 4 (drop m w)) (sym (add-zero (16 * n))) in
    let next : (i : ℕ) → take 4 (drop i (drop (16 * n) w)) ≡ k i = λ i. ap (take 4) (drop-drop i (16 * n) w) in
    let key : k 0 ++ k 4 ++ k 8 ++ k 12 ≡ take 16 (drop (16 * n) w) =
    sym (take-add 12 4 (drop (16 * n) w)
    ∙ ap₂ ◌++◌ (take-add 8 4 (drop (16 * n) w) ∙ ap₂ ◌++◌ (take-add 4 4 (drop (16 * n) w) ∙ ap₂ ◌++◌ first (next 4)) (next 8)) (next 12)) in
    let sums : add_round_key (f 0) (k 0) ++ add_round_key (f 4) (k 4) ++ add_round_key (f 8) (k 8) ++ add_round_key (f 12) (k 12)
    ≡ add_round_key (f 0 ++ f 4 ++ f 8 ++ f 12) (k 0 ++ k 4 ++ k 8 ++ k 12) =
    sym (add_round_key_append (f 0 ++ f 4 ++ f 8) (f 12) (k 0 ++ k 4 ++ k 8) (k 12)
    (sym (rw (length-append, length-append, long 0 (omega arith), long 4 (omega arith), long 8 (omega arith))))
    ∙ ap (λ (l : List ℕ). l ++ add_round_key (f 12) (k 12)) (add_round_key_append (f 0 ++ f 4) (f 8) (k 0 ++ k 4) (k 8)
    (sym (rw (length-append, long 0 (omega arith), long 4 (omega arith))))
    ∙ ap (λ (l : List ℕ). l ++ add_round_key (f 8) (k 8)) (add_round_key_append (f 0) (f 4) (k 0) (k 4) (sym (long 0 (omega arith)))))) in
    e ∙ ap₂ ◌++◌ (ap₂ ◌++◌ (ap₂ ◌++◌ (ea ∙ ap (add_round_key (f 0)) first) eb) ec) ed ∙ sums
    ∙ ap₂ add_round_key (ap (λ (u : List ℕ). columns (row p q r t) (map sub u)) (opened 16 s hs)) key

-- of one byte after the other, it does not matter whether they are substituted first or shifted first
sub_shift : (f : ℕ → ℕ) (s : List ℕ) → length s ≡ 16 → map f (shift_rows s) ≡ shift_rows (map f s)
unfolding shift_rows shift
sub_shift f s h =
    ap (λ (u : List ℕ). map f (shift 1 u)) (sym (opened 16 s h)) ∙ ap (λ (u : List ℕ). shift 1 (map f u)) (opened 16 s h)

pub by_round : (key : ℕ → List ℕ) (n : ℕ) (s : List ℕ) → length s ≡ 16
    → add_round_key (columns (row 2 3 1 1) (map (look sbox) (shift_rows s))) (key n) ≡ round key n s
unfolding round mix_columns sub_bytes
by_round key n s h = ap (λ (u : List ℕ). add_round_key (columns (row 2 3 1 1) u) (key n)) (sub_shift (look sbox) s h)

pub by_inv_round : (w : List ℕ) (n : ℕ) (s : List ℕ) → 16 * n + 16 ≤ length w
    → add_round_key (columns (row 14 11 13 9) (map (look inv_sbox) (inv_shift_rows s))) (round_key (inv_mix_columns w) n) ≡ inv_round (round_key w) n s
unfolding inv_round inv_mix_columns inv_sub_bytes
by_inv_round w n s h =
    let x = inv_sub_bytes (inv_shift_rows s) in
    let long : length (round_key w n) ≡ 16 = length_round_key w n h in
    ap (add_round_key (columns (row 14 11 13 9) x)) (mixed_key w n h)
    ∙ sym (columns_sum 14 11 13 9 4 x (round_key w n) (length_inv_sub_bytes (inv_shift_rows s) ∙ length_inv_shift_rows s) long)

-- the cipher's last round, after the rounds before it
pub cipher_last : (key : ℕ → List ℕ) (n : ℕ) (s : List ℕ)
    → add_round_key (shift_rows (map (look sbox) (rounds key (n - 1) (add_round_key s (key 0))))) (key n) ≡ cipher key n s
unfolding cipher sub_bytes
cipher_last key n s = refl

-- the inverse cipher where no round is left to go: the last round, after the rounds before it
pub inv_cipher_last : (key : ℕ → List ℕ) (n k : ℕ) (s first block r : List ℕ) → inv_rounds key n s ≡ inv_rounds key (k - 1) first
    → first ≡ add_round_key block (key k) → n ≡ 0 → r ≡ add_round_key (map (look inv_sbox) (inv_shift_rows s)) (key 0) → r ≡ inv_cipher key k block
unfolding inv_rounds inv_cipher inv_sub_bytes
inv_cipher_last key n k s first block r gone begun none last =
    let there : s ≡ inv_rounds key (k - 1) (add_round_key block (key k)) =
    ap (λ (m : ℕ). inv_rounds key m s) (sym none) ∙ gone ∙ ap (inv_rounds key (k - 1)) begun in
    last ∙ ap (λ (u : List ℕ). add_round_key (map (look inv_sbox) (inv_shift_rows u)) (key 0)) there
