-- The two matrices undo each other, on any numbers: every entry of their product is a sum of doublings, which the solver decides.
-- The same solver turns MixColumns' products into what the code computes. Assumes nothing.
use mathlib.Core.Path.{◌≡◌, refl, ap}
use mathlib.Core.List.{List, [], ◌∷◌}
use Prim.Native.Nat.{ℕ, zero, suc, ◌/◌, ◌%◌, ◌<◌}
use lib.Dec.{T}
use lib.ListN.{length, get_or}
use Rattle.octets.specs.Octets.{Bytes}
use Rattle.octets.proofs.Below.{cons_below, tail_below}
use Rattle.fips197.specs.Field.{xor, double, bit, mul_by, mul}
use Rattle.fips197.specs.Cipher.{row, columns, mix_columns, inv_mix_columns}
use Rattle.fips197.proofs.Sums.{assoc, comm, self, zero_l, double_sum, xor_byte, mul_byte}
use Rattle.fips197.proofs.Solver.{Term, var, none, sum, twice, vanish, polys, value, solve}

-- ---- the products as terms

abbrev bit' : ℕ → Term → Term
bit' zero a = none
bit' (suc d) a = a

abbrev mul_by' : ℕ → Term → ℕ → Term
mul_by' zero a b = none
mul_by' (suc n) a b = sum (bit' (b % 2) a) (mul_by' n (twice a) (b / 2))

abbrev mul' : ℕ → Term → Term
mul' b a = mul_by' 8 a b

abbrev row' : ℕ → ℕ → ℕ → ℕ → Term → Term → Term → Term → Term
row' p q r t a b c d = sum (sum (sum (mul' p a) (mul' q b)) (mul' r c)) (mul' t d)

-- the first entry of a column by two matrices, one after the other
abbrev twofold : {A : Type 0} → (A → A → A → A → A) → (A → A → A → A → A) → A → A → A → A → A
twofold m n a b c d = m (n a b c d) (n b c d a) (n c d a b) (n d a b c)

module _ (a b c d : ℕ) where
  abbrev given : ℕ → ℕ
  given i = get_or (a ∷ b ∷ c ∷ d ∷ []) i 0

  -- an equation in four numbers, decided
  decided : (x y : Term) → T (vanish (polys (sum x y))) → value 0 xor double given x ≡ value 0 xor double given y
  decided x y = solve 0 xor double assoc comm self zero_l double_sum x y given

  unmix : twofold (row 14 11 13 9) (row 2 3 1 1) a b c d ≡ a
  unfolding row mul mul_by bit
  unmix = decided (twofold (row' 14 11 13 9) (row' 2 3 1 1) (var 0) (var 1) (var 2) (var 3)) (var 0) tt

  remix : twofold (row 2 3 1 1) (row 14 11 13 9) a b c d ≡ a
  unfolding row mul mul_by bit
  remix = decided (twofold (row' 2 3 1 1) (row' 14 11 13 9) (var 0) (var 1) (var 2) (var 3)) (var 0) tt

  -- a row of MixColumns with one doubling
  pub mix_row : xor (xor (xor (double (xor a b)) b) c) d ≡ row 2 3 1 1 a b c d
  unfolding row mul mul_by bit
  mix_row =
      decided (sum (sum (sum (twice (sum (var 0) (var 1))) (var 1)) (var 2)) (var 3))
      (row' 2 3 1 1 (var 0) (var 1) (var 2) (var 3)) tt

  row_byte : (p q r t : ℕ) → a < 256 → b < 256 → c < 256 → d < 256 → row p q r t a b c d < 256
  unfolding row
  row_byte p q r t ha hb hc hd = xor_byte (xor_byte (xor_byte (mul_byte p a ha) (mul_byte q b hb)) (mul_byte r c hc)) (mul_byte t d hd)

-- the products of MixColumns from one doubling
pub by_doubling : (x : ℕ) → (double x ≡ mul 2 x) × (x ≡ mul 1 x) × (xor (double x) x ≡ mul 3 x)
unfolding mul mul_by bit
by_doubling x = (
  decided x 0 0 0 (twice (var 0)) (mul' 2 (var 0)) tt,
  decided x 0 0 0 (var 0) (mul' 1 (var 0)) tt,
  decided x 0 0 0 (sum (twice (var 0)) (var 0)) (mul' 3 (var 0)) tt,
)

-- ---- whole columns

columns_undo : (m n : ℕ → ℕ → ℕ → ℕ → ℕ) → ((a b c d : ℕ) → twofold m n a b c d ≡ a) → (s : List ℕ) → columns m (columns n s) ≡ s
unfolding columns
columns_undo m n undo [] = refl
columns_undo m n undo (a ∷ []) = refl
columns_undo m n undo (a ∷ b ∷ []) = refl
columns_undo m n undo (a ∷ b ∷ c ∷ []) = refl
columns_undo m n undo (a ∷ b ∷ c ∷ d ∷ s) =
    λ i. undo a b c d i ∷ undo b c d a i ∷ undo c d a b i ∷ undo d a b c i ∷ columns_undo m n undo s i

pub unmix_columns : (s : List ℕ) → inv_mix_columns (mix_columns s) ≡ s
unfolding mix_columns inv_mix_columns
unmix_columns = columns_undo (row 14 11 13 9) (row 2 3 1 1) unmix

pub remix_columns : (s : List ℕ) → mix_columns (inv_mix_columns s) ≡ s
unfolding mix_columns inv_mix_columns
remix_columns = columns_undo (row 2 3 1 1) (row 14 11 13 9) remix

pub length_columns : (m : ℕ → ℕ → ℕ → ℕ → ℕ) (s : List ℕ) → length (columns m s) ≡ length s
unfolding columns
length_columns m [] = refl
length_columns m (a ∷ []) = refl
length_columns m (a ∷ b ∷ []) = refl
length_columns m (a ∷ b ∷ c ∷ []) = refl
length_columns m (a ∷ b ∷ c ∷ d ∷ s) = ap (λ (n : ℕ). suc (suc (suc (suc n)))) (length_columns m s)

pub length_mix_columns : (s : List ℕ) → length (mix_columns s) ≡ length s
unfolding mix_columns
length_mix_columns = length_columns (row 2 3 1 1)

pub length_inv_mix_columns : (s : List ℕ) → length (inv_mix_columns s) ≡ length s
unfolding inv_mix_columns
length_inv_mix_columns = length_columns (row 14 11 13 9)

pub columns_bytes : (p q r t : ℕ) (s : List ℕ) → Bytes s → Bytes (columns (row p q r t) s)
unfolding columns
columns_bytes p q r t [] h = h
columns_bytes p q r t (a ∷ []) h = h
columns_bytes p q r t (a ∷ b ∷ []) h = h
columns_bytes p q r t (a ∷ b ∷ c ∷ []) h = h
columns_bytes p q r t (a ∷ b ∷ c ∷ d ∷ s) h =
    let ha = h.at 0 in let hb = h.at 1 in let hc = h.at 2 in let hd = h.at 3 in
    cons_below (row_byte a b c d p q r t ha hb hc hd) (cons_below (row_byte b c d a p q r t hb hc hd ha)
    (cons_below (row_byte c d a b p q r t hc hd ha hb) (cons_below (row_byte d a b c p q r t hd ha hb hc)
    (columns_bytes p q r t s (tail_below (tail_below (tail_below (tail_below h))))))))

pub mix_columns_bytes : (s : List ℕ) → Bytes s → Bytes (mix_columns s)
unfolding mix_columns
mix_columns_bytes = columns_bytes 2 3 1 1

pub inv_mix_columns_bytes : (s : List ℕ) → Bytes s → Bytes (inv_mix_columns s)
unfolding inv_mix_columns
inv_mix_columns_bytes = columns_bytes 14 11 13 9
