-- A message of at most 55 bytes pads to one block, so its hash is one compression; where it is whole words, of those words, the
-- one bit and the length. Assumes nothing.
use mathlib.Core.Path.{◌≡◌, refl, sym, ap, ◌∙◌}
use mathlib.Core.List.{List, [], ◌∷◌, ◌++◌, flat_map}
use Prim.Native.Nat.{ℕ, zero, suc, ◌+◌, ◌-◌, ◌*◌, ◌/◌, ◌%◌, ◌^◌, ◌≤◌, ◌<◌}
use native.Mathlib.Omega.{arith}
use lib.ListN.{length, get_or, take, replicate, length-append, length-replicate, replicate-append-replicate}
use lib.Seq.{take-suc, take_all}
use Rattle.octets.specs.Octets.{Below, le_bytes, be_at, be_bytes}
use Rattle.octets.proofs.Numbers.{length_be_bytes, be_at_here, be_at_past}
use Rattle.octets.proofs.Each.{length_each, each_append, each_one}
use Rattle.octets.proofs.Below.{tail_below, cons_below, append_below, replicate_below, nil_below}
use Rattle.sha1_digest.specs.Sha1 as fips
use Rattle.sha1_digest.proofs.Padded.{length_pad, pad_drop}

-- one block
pub one_block : (m : List ℕ) → length m ≤ 55 → fips.sha1 m ≡ fips.output (fips.compress fips.start (fips.block_words (fips.pad m) 0 16))
unfolding fips.sha1 fips.chain
one_block m h =
    let e : length (fips.pad m) / 64 ≡ 1 = omega (arith, length_pad m) in
    rw e

-- ---- a message of whole words

-- every element is a word
abbrev pub Words : List ℕ → Type 0
Words ws = Below (2 ^ 32) ws

length_words : (ws : List ℕ) → length (fips.word_bytes ws) ≡ 4 * length ws
length_words = length_each (be_bytes 4) (length_be_bytes 4)

word_bytes_zeros : (n : ℕ) → fips.word_bytes (replicate n 0) ≡ replicate (4 * n) 0
unfolding flat_map be_bytes le_bytes
word_bytes_zeros zero = refl
word_bytes_zeros (suc n) =
    let e : 4 * suc n ≡ 4 + 4 * n = omega arith in
    rw e (ap (λ (l : List ℕ). 0 ∷ 0 ∷ 0 ∷ 0 ∷ l) (word_bytes_zeros n) ∙ replicate-append-replicate {A = ℕ} 4 (4 * n) 0)

-- a word is read where its bytes stand
pub word_at : (n : ℕ) (ws : List ℕ) → Words ws → n < length ws → be_at 4 (4 * n) (fips.word_bytes ws) ≡ get_or ws n 0
unfolding flat_map
word_at n [] b h = absurd (omega arith)
word_at zero (w ∷ ws) b h = be_at_here 4 w (fips.word_bytes ws) (b.at 0)
word_at (suc n) (w ∷ ws) b h =
    let e : 4 * suc n ≡ length (be_bytes 4 w) + 4 * n = omega (arith, length_be_bytes 4 w) in
    rw e (be_at_past 4 (4 * n) (be_bytes 4 w) (fips.word_bytes ws) ∙ word_at n ws (tail_below b) (omega arith))

-- so a block of words is those words
block_words_lem : (n : ℕ) (ws : List ℕ) → Words ws → n ≤ length ws → fips.block_words (fips.word_bytes ws) 0 n ≡ take n ws
unfolding fips.block_words
block_words_lem zero ws b h = refl
block_words_lem (suc n) ws b h =
    let e : 0 + 4 * n ≡ 4 * n = omega arith in
    rw (e, block_words_lem n ws b (omega arith), word_at n ws b (omega arith)) (sym (take-suc ws n 0 (omega arith)))

-- the block of k words: the one bit in a word, zeros, and the length in bits
unfoldable pub short_block : List ℕ → List ℕ
short_block ws = ws ++ 0x80000000 ∷ replicate (14 - length ws) 0 ++ (32 * length ws ∷ [])

-- the one bit's word, and zeros after it
bit_word : (n : ℕ) → fips.word_bytes (0x80000000 ∷ replicate n 0) ≡ 0x80 ∷ replicate (3 + 4 * n) 0
unfolding flat_map be_bytes le_bytes
bit_word n = ap (λ (l : List ℕ). 0x80 ∷ 0 ∷ 0 ∷ 0 ∷ l) (word_bytes_zeros n) ∙ ap (◌∷◌ 0x80) (replicate-append-replicate {A = ℕ} 3 (4 * n) 0)

short_pad : (ws : List ℕ) → length ws ≤ 13 → fips.pad (fips.word_bytes ws) ≡ fips.word_bytes (short_block ws)
unfolding short_block
short_pad ws h =
    let k : ℕ = length ws in
    let n : length (fips.word_bytes ws) ≡ 4 * k = length_words ws in
    let z : (119 - 4 * k % 64) % 64 + 4 ≡ 3 + 4 * (14 - k) = omega arith in
    let v : 8 * (4 * k) ≡ 32 * k = omega arith in
    pad_drop (fips.word_bytes ws) 0 (omega arith) (omega arith)
    ∙ rw (n, z, v, ← bit_word (14 - k), ← each_append (be_bytes 4) ws (0x80000000 ∷ replicate (14 - k) 0))
    (sym (each_append (be_bytes 4) (ws ++ 0x80000000 ∷ replicate (14 - k) 0) (32 * k ∷ []) ∙ rw each_one))

short_block_words : (ws : List ℕ) → Words ws → length ws ≤ 13 → Words (short_block ws)
unfolding short_block
short_block_words ws b h =
    append_below (ws ++ 0x80000000 ∷ replicate (14 - length ws) 0) (32 * length ws ∷ [])
    (append_below ws (0x80000000 ∷ replicate (14 - length ws) 0) b (cons_below (omega arith) (replicate_below (14 - length ws) 0 (omega arith))))
    (cons_below (omega arith) (nil_below (omega arith)))

length_short_block : (ws : List ℕ) → length ws ≤ 13 → length (short_block ws) ≡ 16
unfolding short_block
length_short_block ws h = simp (length-append, length-replicate) (omega arith)

-- the hash of at most thirteen words is one compression of their block
pub short_words : (ws : List ℕ) → Words ws → length ws ≤ 13 → fips.sha1 (fips.word_bytes ws) ≡ fips.output (fips.compress fips.start (short_block ws))
short_words ws b h =
    let l : length (short_block ws) ≡ 16 = length_short_block ws h in
    let e : fips.block_words (fips.pad (fips.word_bytes ws)) 0 16 ≡ short_block ws =
    ap (λ (p : List ℕ). fips.block_words p 0 16) (short_pad ws h)
    ∙ block_words_lem 16 (short_block ws) (short_block_words ws b h) (omega arith)
    ∙ take_all 16 (short_block ws) (omega arith) in
    one_block (fips.word_bytes ws) (omega (arith, length_words ws)) ∙ ap (λ (m : List ℕ). fips.output (fips.compress fips.start m)) e

-- six words, the one bit, zeros and the length
pub six_words : (a b c d e f : ℕ) → a < 2 ^ 32 → b < 2 ^ 32 → c < 2 ^ 32 → d < 2 ^ 32 → e < 2 ^ 32 → f < 2 ^ 32
    → fips.output (fips.compress fips.start (a ∷ b ∷ c ∷ d ∷ e ∷ f ∷ 0x80000000 ∷ 0 ∷ 0 ∷ 0 ∷ 0 ∷ 0 ∷ 0 ∷ 0 ∷ 0 ∷ 192 ∷ [])) ≡ fips.sha1 (fips.word_bytes (a ∷ b ∷ c ∷ d ∷ e ∷ f ∷ []))
unfolding short_block
six_words a b c d e f ha hb hc hd he hf =
    sym (short_words (a ∷ b ∷ c ∷ d ∷ e ∷ f ∷ [])
    (cons_below ha (cons_below hb (cons_below hc (cons_below hd (cons_below he (cons_below hf (nil_below (omega arith))))))))
    (omega arith))
