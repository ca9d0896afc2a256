-- The tables of products follow their rule at every entry, and the shares of a column's four bytes sum to the column (FIPS 197 4.2,
-- 5.3.3). Assumes nothing.
use mathlib.Core.Path.{◌≡◌, refl, ap, ◌∙◌}
use mathlib.Core.Bool.{Bool, ◌&&◌}
use mathlib.Core.List.{List, [], ◌∷◌, map}
use Prim.Native.Nat.{ℕ, ◌^◌, ◌≤◌, ◌<◌}
use native.Mathlib.Omega.{arith}
use lib.Dec.{T, eqb, eqb→eq}
use lib.ListN.{length, get_or}
use Rattle.answers.proofs.Laws.{both}
use Rattle.octets.specs.Octets.{Bytes, le, le_bytes}
use Rattle.octets.proofs.Below.{nil_bytes, cons_below}
use Rattle.octets.proofs.Numbers.{le_lt, le_bytes_le}
use Rattle.fips197.specs.Field.{xor, double, mul}
use Rattle.fips197.specs.Cipher.{tabulate, row, columns, add_round_key}
use Rattle.fips197.specs.Products.{entry, laid, share, Laid, Shares, moved, moved_word, column_sum}
use Rattle.fips197.proofs.Sums.{assoc, comm, mul_byte}
use Rattle.fips197.proofs.Entries.{every, at}
use Rattle.fips197.proofs.Columns.{by_doubling, columns_bytes}
use Rattle.fips197.proofs.States.{add_round_key_bytes}
use Rattle.fips197.proofs.Steps.{length_tabulate, get_d_tabulate, Tabulated, filled_all}
use Rattle.fips197.proofs.Words.{sum_le}

-- ---- tables

-- the one test of a table: 256 entries, each of them f times its place
abbrev pub multiplies : ℕ → List ℕ → Bool
multiplies f t = eqb (length t) 256 && every (λ x y. eqb y (mul f x)) 0 t

-- a table that passes it has f times x at every byte x
pub rule : (f : ℕ) (t : List ℕ) → T (multiplies f t) → (x : ℕ) → x < 256 → get_or t x 0 ≡ mul f x
rule f t h x l =
    let size = eqb→eq (length t) 256 (both (eqb (length t) 256) (every (λ k y. eqb y (mul f k)) 0 t) h).0 in
    let each = (both (eqb (length t) 256) (every (λ k y. eqb y (mul f k)) 0 t) h).1 in
    eqb→eq (get_or t x 0) (mul f x) (at (λ k y. eqb y (mul f k)) t each x (omega (arith, size)))

-- words made place by place, each the share of the substituted byte
pub laid_by : (p q r t : ℕ) (sub f : ℕ → ℕ) → ((x : ℕ) → x < 256 → sub x < 256) → ((x : ℕ) → x < 256 → f x ≡ share p q r t (sub x))
    → Laid p q r t sub (tabulate 256 f)
laid_by p q r t sub f b h =
    record { long = length_tabulate 256 f; byte = b; at = λ x l. get_d_tabulate 256 f x l ∙ h x l }

module _ (p q r t : List ℕ) where
  -- all words are laid
  pub laid_all : (i : ℕ) (words : List ℕ) → 256 ≤ i → Tabulated 256 (entry p q r t) i words → words ≡ laid p q r t
  unfolding laid
  laid_all = filled_all 256 (entry p q r t)

  -- four tables that pass their tests lay the shares of InvMixColumns
  pub shares_laid : T (multiplies 14 p) → T (multiplies 9 q) → T (multiplies 13 r) → T (multiplies 11 t) → Shares (laid p q r t)
  unfolding entry laid share
  shares_laid hp hq hr ht =
      laid_by 14 11 13 9 (λ x. x) (entry p q r t) (λ x l. l)
      (λ x l. rw (rule 14 p hp x l, rule 9 q hq x l, rule 13 r hr x l, rule 11 t ht x l))

-- a byte's share of a column of MixColumns, from one doubling
pub mix_share : (x : ℕ) → le (double x ∷ x ∷ x ∷ xor (double x) x ∷ []) ≡ share 2 3 1 1 x
unfolding share
mix_share x = let e = by_doubling x in λ i. le (e.0 i ∷ e.1 i ∷ e.1 i ∷ e.2 i ∷ [])

-- ---- a column of any matrix as a sum of words

-- the products of a byte by four factors
abbrev times : ℕ → ℕ → ℕ → ℕ → ℕ → List ℕ
times p q r t x = mul p x ∷ mul q x ∷ mul r x ∷ mul t x ∷ []

times_bytes : (p q r t x : ℕ) → x < 256 → Bytes (times p q r t x)
times_bytes p q r t x h =
    cons_below (mul_byte p x h) (cons_below (mul_byte q x h) (cons_below (mul_byte r x h) (cons_below (mul_byte t x h) nil_bytes)))

-- a share is a word
pub share_word : (p q r t x : ℕ) → x < 256 → share p q r t x < 2 ^ 32
unfolding share
share_word p q r t x h = le_lt (times p t r q x) (times_bytes p t r q x h)

row_turned : (p q r t a b c d : ℕ) → row p q r t a b c d ≡ row q r t p b c d a
unfolding row
row_turned p q r t a b c d =
    let x = mul p a in let y = mul q b in let z = mul r c in let u = mul t d in
    ap (λ (m : ℕ). xor m u) (assoc x y z) ∙ assoc x (xor y z) u ∙ comm x (xor (xor y z) u)

module _ (p q r t a b c d : ℕ) (ha : a < 256) (hb : b < 256) (hc : c < 256) (hd : d < 256) where
  abbrev mixed : List ℕ
  mixed = columns (row p q r t) (a ∷ b ∷ c ∷ d ∷ [])

  -- each byte's products, in the order of the rows
  abbrev first : List ℕ
  first = times p t r q a

  abbrev second : List ℕ
  second = times q p t r b

  abbrev third : List ℕ
  third = times r q p t c

  abbrev fourth : List ℕ
  fourth = times t r q p d

  rows : add_round_key (add_round_key (add_round_key first second) third) fourth ≡ mixed
  unfolding add_round_key columns row
  rows =
      λ i. row p q r t a b c d ∷ row_turned t p q r a b c d i
      ∷ (row_turned r t p q a b c d ∙ row_turned t p q r b c d a) i
      ∷ (row_turned q r t p a b c d ∙ row_turned r t p q b c d a ∙ row_turned t p q r c d a b) i ∷ []

  words : xor (xor (xor (le first) (le second)) (le third)) (le fourth) ≡ le mixed
  unfolding add_round_key
  words =
      let x = times_bytes p t r q a ha in
      let y = add_round_key_bytes first second x (times_bytes q p t r b hb) in
      let z = add_round_key_bytes (add_round_key first second) third y (times_bytes r q p t c hc) in
      ap (λ (m : ℕ). xor (xor m (le third)) (le fourth)) (sum_le first second refl x (times_bytes q p t r b hb))
      ∙ ap (λ (m : ℕ). xor m (le fourth)) (sum_le (add_round_key first second) third refl y (times_bytes r q p t c hc))
      ∙ sum_le (add_round_key (add_round_key first second) third) fourth refl z (times_bytes t r q p d hd) ∙ ap le rows

  -- what the byte x adds in row k, from what it adds in row 0
  abbrev shifted : ℕ → ℕ → ℕ
  shifted k x = moved_word k (share p q r t x)

  unmoved : (x : ℕ) → x < 256 → le_bytes 4 (share p q r t x) ≡ times p t r q x
  unfolding share
  unmoved x h = le_bytes_le (times p t r q x) (times_bytes p t r q x h)

  -- the four bytes' sum is the column's word
  column : xor (xor (xor (share p q r t a) (shifted 1 b)) (shifted 2 c)) (shifted 3 d) ≡ le mixed
  unfolding share moved moved_word
  column = rw (unmoved b hb, unmoved c hc, unmoved d hd) words

-- so it is for any laid words, and the column is bytes
pub looked_up : (p q r t : ℕ) (sub : ℕ → ℕ) (ws : List ℕ) (a b c d : ℕ) → a < 256 → b < 256 → c < 256 → d < 256 → Laid p q r t sub ws
    → let mixed = columns (row p q r t) (map sub (a ∷ b ∷ c ∷ d ∷ [])) in (column_sum ws a b c d ≡ le mixed) × Bytes mixed
unfolding column_sum
looked_up p q r t sub ws a b c d ha hb hc hd h = (
  rw (h.at a ha, h.at b hb, h.at c hc, h.at d hd)
      (column p q r t (sub a) (sub b) (sub c) (sub d) (h.byte a ha) (h.byte b hb) (h.byte c hc) (h.byte d hd)),
  columns_bytes p q r t (map sub (a ∷ b ∷ c ∷ d ∷ []))
      (cons_below (h.byte a ha) (cons_below (h.byte b hb) (cons_below (h.byte c hc) (cons_below (h.byte d hd) nil_bytes)))),
)
