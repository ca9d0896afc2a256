-- A turn hashes whole words. Assumes nothing.
use mathlib.Core.Path.{◌≡◌, refl, ap, ◌∙◌}
use mathlib.Core.List.{List, [], ◌∷◌, ◌++◌, flat_map}
use Prim.Native.Nat.{ℕ, ◌+◌}
use native.Mathlib.Numerals.{add-one}
use native.Mathlib.Omega.{arith}
use Rattle.std.specs.Int.{w32, swap_bytes}
use Rattle.octets.specs.Octets.{le, be, be_bytes, le_bytes}
use Rattle.octets.proofs.Below.{le_bytes_bytes}
use Rattle.octets.proofs.Numbers.{be_bytes_be}
use Rattle.octets.proofs.Each.{each_one, each_append}
use Rattle.sha1_rounds.specs.declared.State.{State}
use Rattle.sha1_digest.specs.Sha1.{sha1, output, word_bytes}
use Rattle.derivation.specs.Key.{turn, turns, block_hash}

pub turns_none : (h : List ℕ) → h ≡ turns 0 h
unfolding turns
turns_none h = refl

pub turns_more : (n : ℕ) (h : List ℕ) → turns (n + 1) h ≡ turn n (turns n h)
unfolding turns
turns_more n h = rw add-one

-- a number with its bytes swapped is its bytes, low byte first, read high byte first
pub swapped_word : (i : ℕ) → swap_bytes w32 i ≡ be (le_bytes 4 i)
unfolding be le le_bytes
swapped_word i = omega arith

-- the bytes of a counter, or of a block number, are those of the word that they make
swapped_bytes : (i : ℕ) → be_bytes 4 (be (le_bytes 4 i)) ≡ le_bytes 4 i
unfolding be be_bytes le_bytes
swapped_bytes i = be_bytes_be (le_bytes 4 i) (le_bytes_bytes 4 i)

pub turn_words : (i : ℕ) (s : State) → sha1 (word_bytes (be (le_bytes 4 i) ∷ s.a ∷ s.b ∷ s.c ∷ s.d ∷ s.e ∷ [])) ≡ turn i (output s)
unfolding turn output flat_map le_bytes
turn_words i s = ap (λ (l : List ℕ). sha1 (l ++ output s)) (swapped_bytes i)

pub block_words_lem : (n : ℕ) (s : State) → sha1 (word_bytes (s.a ∷ s.b ∷ s.c ∷ s.d ∷ s.e ∷ be (le_bytes 4 n) ∷ [])) ≡ block_hash n (output s)
unfolding block_hash output
block_words_lem n s =
    ap sha1 (each_append (be_bytes 4) (s.a ∷ s.b ∷ s.c ∷ s.d ∷ s.e ∷ []) (be (le_bytes 4 n) ∷ [])
    ∙ ap (◌++◌ (output s)) (each_one (be_bytes 4) (be (le_bytes 4 n)) ∙ swapped_bytes n))
