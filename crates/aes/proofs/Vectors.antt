-- The worked examples of FIPS 197 as theorems: appendix A's last round keys and appendix C's blocks, by computing the definitions, and
-- the way back from those blocks. Assumes nothing.
use mathlib.Core.Path.{◌≡◌, refl, sym, ap, ◌∙◌}
use mathlib.Core.Bool.{true}
use mathlib.Core.List.{List, [], ◌∷◌, map}
use Prim.Native.Nat.{ℕ}
use lib.ListN.{length, get_or, replicate}
use Rattle.fips197.specs.Field.{xor, double, bit, mul_by, mul}
use Rattle.fips197.specs.Tables.{look, sbox, round_constants, round_constant}
use Rattle.fips197.specs.Cipher.{sub_bytes, tabulate, shift, shift_rows, row, columns, mix_columns, add_round_key, round_key, round, rounds, cipher}
use Rattle.fips197.specs.Expansion.{key_word, rot_word, turned, next, longer_key, extended, rounds_for, schedule}
use Rattle.aes.specs.Aes.{BlockReply, key_length, words_of, encryption, done_block, refused_block, encrypted, decrypted}
use Rattle.aes.proofs.Keys.{decrypted_encrypted}

-- ---- appendix A: each key, and its last round key

abbrev keys : List (List ℕ)
keys =
    (0x2b ∷ 0x7e ∷ 0x15 ∷ 0x16 ∷ 0x28 ∷ 0xae ∷ 0xd2 ∷ 0xa6 ∷ 0xab ∷ 0xf7 ∷ 0x15 ∷ 0x88 ∷ 0x09 ∷ 0xcf ∷ 0x4f ∷ 0x3c ∷ []) ∷
    (0x8e ∷ 0x73 ∷ 0xb0 ∷ 0xf7 ∷ 0xda ∷ 0x0e ∷ 0x64 ∷ 0x52 ∷ 0xc8 ∷ 0x10 ∷ 0xf3 ∷ 0x2b ∷ 0x80 ∷ 0x90 ∷ 0x79 ∷ 0xe5 ∷ 0x62 ∷ 0xf8 ∷ 0xea ∷ 0xd2 ∷ 0x52 ∷ 0x2c ∷ 0x6b ∷ 0x7b ∷ []) ∷
    (0x60 ∷ 0x3d ∷ 0xeb ∷ 0x10 ∷ 0x15 ∷ 0xca ∷ 0x71 ∷ 0xbe ∷ 0x2b ∷ 0x73 ∷ 0xae ∷ 0xf0 ∷ 0x85 ∷ 0x7d ∷ 0x77 ∷ 0x81 ∷ 0x1f ∷ 0x35 ∷ 0x2c ∷ 0x07 ∷ 0x3b ∷ 0x61 ∷ 0x08 ∷ 0xd7 ∷ 0x2d ∷ 0x98 ∷ 0x10 ∷ 0xa3 ∷ 0x09 ∷ 0x14 ∷ 0xdf ∷ 0xf4 ∷ []) ∷
    []

abbrev lasts : List (List ℕ)
lasts =
    (0xd0 ∷ 0x14 ∷ 0xf9 ∷ 0xa8 ∷ 0xc9 ∷ 0xee ∷ 0x25 ∷ 0x89 ∷ 0xe1 ∷ 0x3f ∷ 0x0c ∷ 0xc8 ∷ 0xb6 ∷ 0x63 ∷ 0x0c ∷ 0xa6 ∷ []) ∷
    (0xe9 ∷ 0x8b ∷ 0xa0 ∷ 0x6f ∷ 0x44 ∷ 0x8c ∷ 0x77 ∷ 0x3c ∷ 0x8e ∷ 0xcc ∷ 0x72 ∷ 0x04 ∷ 0x01 ∷ 0x00 ∷ 0x22 ∷ 0x02 ∷ []) ∷
    (0xfe ∷ 0x48 ∷ 0x90 ∷ 0xd1 ∷ 0xe6 ∷ 0x18 ∷ 0x8d ∷ 0x0b ∷ 0x04 ∷ 0x6d ∷ 0xf3 ∷ 0x44 ∷ 0x70 ∷ 0x6c ∷ 0x63 ∷ 0x1e ∷ []) ∷
    []

abbrev last : List ℕ → List ℕ
last k = round_key (schedule (words_of k) k) (rounds_for (words_of k))

pub appendix_A : map last keys ≡ lasts
unfolding words_of schedule rounds_for extended longer_key next turned rot_word key_word add_round_key sub_bytes round_constant round_constants look sbox double xor round_key
appendix_A = refl

-- ---- appendix C: the block 00 11 .. ff under the keys 00 01 .. 0f, 00 01 .. 17 and 00 01 .. 1f

abbrev rising : ℕ → List ℕ
rising n = tabulate n (λ i. i)

abbrev plain : List ℕ
plain = 0x00 ∷ 0x11 ∷ 0x22 ∷ 0x33 ∷ 0x44 ∷ 0x55 ∷ 0x66 ∷ 0x77 ∷ 0x88 ∷ 0x99 ∷ 0xaa ∷ 0xbb ∷ 0xcc ∷ 0xdd ∷ 0xee ∷ 0xff ∷ []

abbrev sealed : List (List ℕ)
sealed =
    (0x69 ∷ 0xc4 ∷ 0xe0 ∷ 0xd8 ∷ 0x6a ∷ 0x7b ∷ 0x04 ∷ 0x30 ∷ 0xd8 ∷ 0xcd ∷ 0xb7 ∷ 0x80 ∷ 0x70 ∷ 0xb4 ∷ 0xc5 ∷ 0x5a ∷ []) ∷
    (0xdd ∷ 0xa9 ∷ 0x7c ∷ 0xa4 ∷ 0x86 ∷ 0x4c ∷ 0xdf ∷ 0xe0 ∷ 0x6e ∷ 0xaf ∷ 0x70 ∷ 0xa0 ∷ 0xec ∷ 0x0d ∷ 0x71 ∷ 0x91 ∷ []) ∷
    (0x8e ∷ 0xa2 ∷ 0xb7 ∷ 0xca ∷ 0x51 ∷ 0x67 ∷ 0x45 ∷ 0xbf ∷ 0xea ∷ 0xfc ∷ 0x49 ∷ 0x90 ∷ 0x4b ∷ 0x49 ∷ 0x60 ∷ 0x89 ∷ []) ∷
    []

pub appendix_C : map (λ n. encrypted (rising n) plain) (16 ∷ 24 ∷ 32 ∷ []) ≡ map done_block sealed
unfolding encrypted encryption key_length words_of done_block cipher rounds round shift_rows shift mix_columns columns row mul mul_by bit schedule rounds_for extended longer_key next turned rot_word key_word add_round_key sub_bytes round_constant round_constants look sbox double xor round_key
appendix_C = refl

abbrev block : ℕ → List ℕ
block i = get_or sealed i []

-- the way back from what a key made of the block
undone : (k b : List ℕ) → key_length (length k) ≡ true → encrypted k plain ≡ done_block b → decrypted k b ≡ done_block plain
unfolding done_block
undone k b t e = ap (λ (r : BlockReply). decrypted k r.block) (sym e) ∙ decrypted_encrypted k plain t refl

pub appendix_C_back :
    decrypted (rising 16) (block 0) ∷ decrypted (rising 24) (block 1) ∷ decrypted (rising 32) (block 2) ∷ []
    ≡ done_block plain ∷ done_block plain ∷ done_block plain ∷ []
unfolding key_length
appendix_C_back =
    λ j. undone (rising 16) (block 0) refl (ap (λ (rs : List BlockReply). get_or rs 0 refused_block) appendix_C) j
    ∷ undone (rising 24) (block 1) refl (ap (λ (rs : List BlockReply). get_or rs 1 refused_block) appendix_C) j
    ∷ undone (rising 32) (block 2) refl (ap (λ (rs : List BlockReply). get_or rs 2 refused_block) appendix_C) j ∷ []

-- ---- keys of other lengths

pub others : map (λ n. encrypted (rising n) plain) (0 ∷ 15 ∷ 17 ∷ 23 ∷ 31 ∷ 33 ∷ []) ≡ replicate 6 refused_block
unfolding encrypted key_length
others = refl
