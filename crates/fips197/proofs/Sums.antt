-- The field's sum is a commutative group in which each number is its own negative, and doubling respects it, on every number: each
-- law is shown one binary digit at a time. Assumes nothing.
use mathlib.Core.Path.{◌≡◌, refl, sym, ap, ap₂, ◌∙◌}
use Prim.Native.Nat.{ℕ, zero, suc, ◌+◌, ◌*◌, ◌/◌, ◌%◌, ◌<◌}
use native.Mathlib.Nat.{le_of_suc-le-suc, not-suc-le-zero, mod-lt, add-zero}
use native.Mathlib.Omega.{arith}
use lib.Arith.{bin_ind}
use lib.Dec.{lit<}
use lib.Bits.{bit_xor, differ, xor_step, xor_shr, xor_mod, xor_block, xor_lt, xor_comm, xor_self, xor_zero_l}
use Rattle.fips197.specs.Field.{xor, double, bit, mul_by, mul}

-- what holds of both binary digits holds of a number below 2
digit : (P : ℕ → Type 0) → P 0 → P 1 → (n : ℕ) → n < 2 → P n
digit P p q zero h = p
digit P p q (suc zero) h = q
digit P p q (suc (suc n)) h = absurd (not-suc-le-zero (le_of_suc-le-suc (le_of_suc-le-suc h)))

differ_twice : (c : ℕ) → c < 2 → c ≡ differ 1 (differ 1 c)
differ_twice c h = digit (λ x. x ≡ differ 1 (differ 1 x)) refl refl c h

differ_assoc : (a b c : ℕ) → a < 2 → b < 2 → c < 2 → differ (differ a b) c ≡ differ a (differ b c)
differ_assoc a b c ha hb hc =
    digit (λ x. differ (differ x b) c ≡ differ x (differ b c)) refl
    (digit (λ y. differ (differ 1 y) c ≡ differ 1 (differ y c)) refl (differ_twice c hc) b hb) a ha

-- the lowest digit of a sum
odd : (a b : ℕ) → bit_xor a b % 2 ≡ differ (a % 2) (b % 2)
odd a b =
    xor_mod a b 1
    ∙ digit (λ x. bit_xor x (b % 2) ≡ differ x (b % 2)) (xor_zero_l (b % 2))
    (digit (λ y. bit_xor 1 y ≡ differ 1 y) refl refl (b % 2) (mod-lt b (lit< tt))) (a % 2) (mod-lt a (lit< tt))

module _ (a b c : ℕ) where
  pub assoc : xor (xor a b) c ≡ xor a (xor b c)
  unfolding xor
  assoc =
      bin_ind (λ (n : ℕ). (y z : ℕ) → bit_xor (bit_xor n y) z ≡ bit_xor n (bit_xor y z)) (λ y z. refl)
      (λ n ih y z. xor_step (bit_xor n y) z
      ∙ ap₂ (λ (p q : ℕ). p * 2 + q)
      (ap (λ (p : ℕ). bit_xor p (z / 2)) (xor_shr n y 1) ∙ ih (y / 2) (z / 2) ∙ ap (bit_xor (n / 2)) (sym (xor_shr y z 1)))
      (ap (λ (q : ℕ). differ q (z % 2)) (odd n y)
      ∙ differ_assoc (n % 2) (y % 2) (z % 2) (mod-lt n (lit< tt)) (mod-lt y (lit< tt)) (mod-lt z (lit< tt))
      ∙ ap (differ (n % 2)) (sym (odd y z)))
      ∙ sym (xor_step n (bit_xor y z))) a b c

pub comm : (a b : ℕ) → xor a b ≡ xor b a
unfolding xor
comm = xor_comm

pub self : (a : ℕ) → xor a a ≡ 0
unfolding xor
self = xor_self

pub zero_l : (a : ℕ) → xor 0 a ≡ a
unfolding xor
zero_l = xor_zero_l

-- what is added twice is gone
pub back : (a b : ℕ) → xor (xor a b) b ≡ a
back a b = assoc a b b ∙ ap (xor a) (self b) ∙ comm a 0 ∙ zero_l a

-- a sum of bytes is a byte
pub xor_byte : {a b : ℕ} → a < 256 → b < 256 → xor a b < 256
unfolding xor
xor_byte {a} {b} ha hb = xor_lt 8 a b ha hb

-- ---- doubling

pub swap : (a b c d : ℕ) → xor (xor a b) (xor c d) ≡ xor (xor a c) (xor b d)
swap a b c d =
    assoc a b (xor c d) ∙ ap (xor a) (sym (assoc b c d) ∙ ap (λ (y : ℕ). xor y d) (comm b c) ∙ assoc c b d) ∙ sym (assoc a c (xor b d))

-- the seven low bits move up
up : (a b : ℕ) → xor a b * 2 % 256 ≡ xor (a * 2 % 256) (b * 2 % 256)
unfolding xor
up a b =
    let e : bit_xor a b * 2 ≡ bit_xor (a * 2) (b * 2) =
    sym (simp add-zero at (xor_block 1 a b 0 0 (lit< tt) (lit< tt))) in
    ap (λ (x : ℕ). x % 256) e ∙ xor_mod (a * 2) (b * 2) 8

-- the highest bit falls out
out : (a b : ℕ) → xor a b / 128 % 2 * 0x1b ≡ xor (a / 128 % 2 * 0x1b) (b / 128 % 2 * 0x1b)
unfolding xor
out a b =
    ap (λ (x : ℕ). x % 2 * 0x1b) (xor_shr a b 7) ∙ ap (λ (x : ℕ). x * 0x1b) (odd (a / 128) (b / 128))
    ∙ digit (λ x. differ x (b / 128 % 2) * 0x1b ≡ bit_xor (x * 0x1b) (b / 128 % 2 * 0x1b)) (sym (xor_zero_l _))
    (digit (λ y. differ 1 y * 0x1b ≡ bit_xor 0x1b (y * 0x1b)) refl refl (b / 128 % 2) (mod-lt (b / 128) (lit< tt)))
    (a / 128 % 2) (mod-lt (a / 128) (lit< tt))

pub double_sum : (a b : ℕ) → double (xor a b) ≡ xor (double a) (double b)
unfolding double
double_sum a b =
    ap₂ xor (up a b) (out a b) ∙ swap (a * 2 % 256) (b * 2 % 256) (a / 128 % 2 * 0x1b) (b / 128 % 2 * 0x1b)

pub double_byte : (a : ℕ) → double a < 256
unfolding double
double_byte a = xor_byte (mod-lt (a * 2) (lit< tt)) (omega arith)

-- a product of bytes is a byte
bit_byte : (d a : ℕ) → a < 256 → bit d a < 256
unfolding bit
bit_byte zero a h = lit< tt
bit_byte (suc d) a h = h

mul_by_byte : (n a b : ℕ) → a < 256 → mul_by n a b < 256
unfolding mul_by
mul_by_byte zero a b h = lit< tt
mul_by_byte (suc n) a b h = xor_byte (bit_byte (b % 2) a h) (mul_by_byte n (double a) (b / 2) (double_byte a))

pub mul_byte : (b a : ℕ) → a < 256 → mul b a < 256
unfolding mul
mul_byte b a h = mul_by_byte 8 a b h

-- a product distributes over the sum
bit_sum : (d a b : ℕ) → bit d (xor a b) ≡ xor (bit d a) (bit d b)
unfolding bit
bit_sum zero a b = sym (zero_l 0)
bit_sum (suc d) a b = refl

mul_by_sum : (n a b c : ℕ) → mul_by n (xor a b) c ≡ xor (mul_by n a c) (mul_by n b c)
unfolding mul_by
mul_by_sum zero a b c = sym (zero_l 0)
mul_by_sum (suc n) a b c =
    ap₂ xor (bit_sum (c % 2) a b) (ap (λ (x : ℕ). mul_by n x (c / 2)) (double_sum a b) ∙ mul_by_sum n (double a) (double b) (c / 2)) ∙ swap _ _ _ _

pub mul_sum : (c a b : ℕ) → mul c (xor a b) ≡ xor (mul c a) (mul c b)
unfolding mul
mul_sum c a b = mul_by_sum 8 a b c
