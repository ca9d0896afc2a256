-- Bytes as polynomials over GF(2) modulo x^8 + x^4 + x^3 + x + 1 (FIPS 197 section 4). Assumes nothing.
use Rattle.std.specs.Prelude.{ℕ, zero, suc, ◌*◌, ◌/◌, ◌%◌}
use Rattle.std.specs.Int.Bits.{bit_xor}

-- the sum: exclusive or, bit by bit (4.1)
unfoldable pub xor : ℕ → ℕ → ℕ
xor a b = bit_xor a b

-- x times a: a moved up by one bit, and x^8 = x^4 + x^3 + x + 1 added where the highest bit falls out (4.2)
unfoldable pub double : ℕ → ℕ
double a = xor (a * 2 % 256) (a / 128 % 2 * 0x1b)

-- a for the binary digit 1, nothing for 0
unfoldable pub bit : ℕ → ℕ → ℕ
bit zero a = 0
bit (suc d) a = a

-- a times the lowest n binary digits of b: the sum of a's doubles at the digits that are 1 (4.2)
unfoldable pub mul_by : ℕ → ℕ → ℕ → ℕ
mul_by zero a b = 0
mul_by (suc n) a b = xor (bit (b % 2) a) (mul_by n (double a) (b / 2))

-- the byte b times a (4.2)
unfoldable pub mul : ℕ → ℕ → ℕ
mul b a = mul_by 8 a b

-- a to the power 2 + 4 + .. + 2^n
unfoldable pub powers : ℕ → ℕ → ℕ
powers zero a = 1
powers (suc n) a = mul (mul a a) (powers n (mul a a))

-- the inverse of a, and 0 for 0: the power 254 = 2 + 4 + .. + 128 (4.4)
unfoldable pub inverse : ℕ → ℕ
inverse a = powers 7 a

-- x to the power n (4.2)
unfoldable pub power : ℕ → ℕ
power zero = 1
power (suc n) = double (power n)
