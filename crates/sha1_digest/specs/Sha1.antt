-- SHA-1 as FIPS 180-4 defines it. A word is a number below 2 ^ 32, a message a list of bytes. Assumes nothing.
use Rattle.std.specs.Prelude.{Result, Ok, Err, cond, ℕ, zero, suc, ◌+◌, ◌-◌, ◌*◌, ◌/◌, ◌%◌, ltb, eqb, length, replicate}
use mathlib.Core.List.{List, [], ◌∷◌, ◌++◌, flat_map}
use Rattle.octets.specs.Octets.{be_at, be_bytes}
use Rattle.answers.specs.Refusals.{number}
use Rattle.answers.specs.Rules.{Rule, rule, first_of}
use Rattle.answers.specs.declared.Refusal.{Refusal}
use Rattle.sha1_rounds.specs.declared.State.{State}
pub use Rattle.sha1_rounds.specs.Compression.{round_words, start, compress}

-- ---- a whole message

-- the first n words, high byte first, of the block at place o (5.2.1)
unfoldable pub block_words : List ℕ → ℕ → ℕ → List ℕ
block_words p o zero = []
block_words p o (suc n) = block_words p o n ++ (be_at 4 (o + 4 * n) p ∷ [])

-- the first n blocks of p, one after the other (6.1.2)
unfoldable pub chain : List ℕ → ℕ → State → State
chain p zero s = s
chain p (suc n) s = compress (chain p n s) (block_words p (64 * n) 16)

-- the one bit, zeros to eight bytes before a block's end, and the length in bits (5.1.1)
unfoldable pub pad : List ℕ → List ℕ
pad m = m ++ 0x80 ∷ replicate ((119 - length m % 64) % 64) 0 ++ be_bytes 8 (8 * length m)

-- words as bytes, four each, high byte first (3.1)
abbrev pub word_bytes : List ℕ → List ℕ
word_bytes ws = flat_map (be_bytes 4) ws

-- the hash's bytes: the five words one after the other (6.1.2)
unfoldable pub output : State → List ℕ
output s = word_bytes (s.a ∷ s.b ∷ s.c ∷ s.d ∷ s.e ∷ [])

-- the hash of a message (6.1)
unfoldable pub sha1 : List ℕ → List ℕ
sha1 m = output (chain (pad m) (length (pad m) / 64) start)

-- ---- the entry

-- 01's reply 18, a house limit
unfoldable pub hash_rules : List ℕ → List Rule
hash_rules m = rule 18 (ltb 65536 (length m)) ∷ []

-- what `digest` replies: 0 beside the hash, or a refusal's number beside zeros
pub record Hashed : Type 0 where
  pub answer : ℕ
  pub bytes : List ℕ

abbrev pub hashed_of : Result (List ℕ) Refusal → Hashed
hashed_of (Ok hash) = record { answer = 0; bytes = hash }
hashed_of (Err r) = record { answer = number r; bytes = replicate 20 0 }

-- what `digest` gives for a message: the hash, or twenty zeros where it is refused
unfoldable pub hashed : List ℕ → Hashed
hashed m =
    record {
      answer = first_of (hash_rules m);
      bytes = cond (eqb (first_of (hash_rules m)) 0) (sha1 m) (replicate 20 0);
    }
