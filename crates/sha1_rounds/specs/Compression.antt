-- The compression of SHA-1 as FIPS 180-4 defines it. A word is a number below 2 ^ 32. Assumes nothing.
use Rattle.std.specs.Prelude.{ℕ, zero, suc, ◌+◌, ◌-◌, ◌*◌, ◌/◌, ◌%◌, ◌^◌, cond, List, [], ◌∷◌, ◌++◌, bit_and, bit_or, bit_xor, nat_lt, slice_index}
use Rattle.sha1_rounds.specs.declared.State.{State}

-- ---- operations on words

-- x rotated left by n places (3.2, ROTL)
unfoldable pub rotl : ℕ → ℕ → ℕ
rotl n x = bit_or (x * 2 ^ n % 2 ^ 32) (x / 2 ^ (32 - n))

-- the three functions (4.1.1)
unfoldable pub ch : ℕ → ℕ → ℕ → ℕ
ch x y z = bit_xor (bit_and x y) (bit_and (2 ^ 32 - 1 - x) z)

unfoldable pub parity : ℕ → ℕ → ℕ → ℕ
parity x y z = bit_xor (bit_xor x y) z

unfoldable pub maj : ℕ → ℕ → ℕ → ℕ
maj x y z = bit_xor (bit_xor (bit_and x y) (bit_and x z)) (bit_and y z)

-- one of four, by the twenty rounds that t is in
unfoldable pub ranged : ℕ → ℕ → ℕ → ℕ → ℕ → ℕ
ranged t p q r s = cond (nat_lt t 20) p (cond (nat_lt t 40) q (cond (nat_lt t 60) r s))

-- the function of round t (4.1.1), the four round words and the one of round t (4.2.1)
unfoldable pub mix : ℕ → ℕ → ℕ → ℕ → ℕ
mix t x y z = ranged t (ch x y z) (parity x y z) (maj x y z) (parity x y z)

unfoldable pub round_words : List ℕ
round_words = 0x5a827999 ∷ 0x6ed9eba1 ∷ 0x8f1bbcdc ∷ 0xca62c1d6 ∷ []

unfoldable pub constant : ℕ → ℕ
constant t = ranged t (slice_index round_words 0) (slice_index round_words 1) (slice_index round_words 2) (slice_index round_words 3)

-- ---- the message schedule (6.1.2, step 1)

-- word t of the schedule of the sixteen words m, from the words w before it
unfoldable pub schedule_word : List ℕ → ℕ → List ℕ → ℕ
schedule_word m t w =
    cond (nat_lt t 16) (slice_index m t)
    (rotl 1 (bit_xor (bit_xor (bit_xor (slice_index w (t - 3)) (slice_index w (t - 8))) (slice_index w (t - 14))) (slice_index w (t - 16))))

-- the words w before t, and word t
unfoldable pub longer : List ℕ → ℕ → List ℕ → List ℕ
longer m t w = w ++ (schedule_word m t w ∷ [])

-- the schedule's first t words
unfoldable pub words : List ℕ → ℕ → List ℕ
words m zero = []
words m (suc t) = longer m t (words m t)

-- ---- the rounds (6.1.2, steps 2 to 4)

-- round t with the schedule's word v
unfoldable pub step : ℕ → ℕ → State → State
step t v s =
    record {
      a = (rotl 5 s.a + mix t s.b s.c s.d + s.e + constant t + v) % 2 ^ 32;
      b = s.a;
      c = rotl 30 s.b;
      d = s.c;
      e = s.d;
    }

-- the first t rounds over the schedule w
unfoldable pub steps : List ℕ → ℕ → State → State
steps w zero s = s
steps w (suc t) s = step t (slice_index w t) (steps w t s)

-- the sums of two states, word by word
unfoldable pub sums : State → State → State
sums s r =
    record {
      a = (s.a + r.a) % 2 ^ 32;
      b = (s.b + r.b) % 2 ^ 32;
      c = (s.c + r.c) % 2 ^ 32;
      d = (s.d + r.d) % 2 ^ 32;
      e = (s.e + r.e) % 2 ^ 32;
    }

-- the compression of a block of sixteen words
unfoldable pub compress : State → List ℕ → State
compress s m = sums s (steps (words m 80) 80 s)

-- ---- a whole message

-- the starting words (5.3.1)
unfoldable pub start : State
start = record { a = 0x67452301; b = 0xefcdab89; c = 0x98badcfe; d = 0x10325476; e = 0xc3d2e1f0 }
