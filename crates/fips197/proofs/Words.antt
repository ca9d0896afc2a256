-- Words as their bytes, the lowest first: a sum is the sum byte by byte, and a rotation by whole bytes moves them. Assumes nothing.
use mathlib.Core.Path.{◌≡◌, refl, sym, ap, ap₂, subst, ◌∙◌}
use mathlib.Core.List.{List, [], ◌∷◌, ◌++◌}
use Prim.Native.Nat.{ℕ, zero, suc, ◌+◌, ◌-◌, ◌*◌, ◌/◌, ◌%◌, ◌^◌, ◌≤◌, ◌<◌}
use native.Mathlib.Nat.{pow-suc, mul_comm, one-le-pow, mul-div_cancel, mul-mod_left, add_comm, add-zero, div-lt_iff_lt-mul}
use native.Mathlib.Omega.{arith}
use lib.Arith.{mod-mul}
use lib.Bits.{bit_or, bit_xor, or_self, xor_self, xor_block, or_shifted}
use lib.Dec.{lit<}
use lib.ListN.{length, take, drop, replicate}
use lib.Pow.{pow-add}
use lib.Seq.{paste, take_at, drop_at, take-add, take_all, drop-drop}
use Rattle.std.specs.Int.{w32, rotate_left}
use Rattle.octets.specs.Octets.{Bytes, le, le_bytes, le_at}
use Rattle.octets.proofs.Below.{tail_below}
use Rattle.octets.proofs.Parts.{length_part, paste_two, paste_whole}
use Rattle.octets.proofs.Numbers.{length_le_bytes, le_nil, le_cons, le_low, le_le_bytes, le_bytes_le, le_append, le_bytes_add}
use Rattle.fips197.specs.Field.{xor}
use Rattle.fips197.specs.Cipher.{add_round_key, round_key}
use Rattle.fips197.specs.Products.{moved, moved_word}
use Rattle.fips197.proofs.States.{length_add_round_key, add_round_key_bytes}

-- a sum of words is the sum byte by byte
pub sum_le : (s t : List ℕ) → length s ≡ length t → Bytes s → Bytes t → xor (le s) (le t) ≡ le (add_round_key s t)
unfolding xor add_round_key
sum_le [] [] e bs bt = xor_self (le []) ∙ sym le_nil
sum_le [] (y ∷ t) e bs bt = absurd (omega arith)
sum_le (x ∷ s) [] e bs bt = absurd (omega arith)
sum_le (x ∷ s) (y ∷ t) e bs bt =
    let rest = sum_le s t (omega arith) (tail_below bs) (tail_below bt) in
    ap₂ bit_xor (le_cons x s) (le_cons y t) ∙ xor_block 8 (le s) (le t) x y (bs.at 0) (bt.at 0)
    ∙ ap (λ (z : ℕ). z * 256 + bit_xor x y) rest ∙ sym (le_cons (bit_xor x y) (add_round_key s t))

bits : (k : ℕ) → 2 ^ (8 * k) ≡ 256 ^ k
bits zero = refl
bits (suc k) =
    let e : 8 * suc k ≡ 8 * k + 8 = omega arith in
    ap (λ (m : ℕ). 2 ^ m) e ∙ pow-add 2 (8 * k) 8 ∙ ap (λ (m : ℕ). m * 256) (bits k) ∙ sym (pow-suc 256 k)

-- what is rotated by k bits of n + k: the highest k come below the others
turn : (k n v : ℕ) → v < 2 ^ (n + k) → bit_or (v * 2 ^ k % 2 ^ (n + k)) (v / 2 ^ n) ≡ v % 2 ^ n * 2 ^ k + v / 2 ^ n
turn k n v l =
    let up : v * 2 ^ k % (2 ^ n * 2 ^ k) ≡ v % 2 ^ n * 2 ^ k =
    mod-mul (v * 2 ^ k) (one-le-pow n 2 (lit< tt)) (one-le-pow k 2 (lit< tt))
    ∙ rw (mul-div_cancel v (one-le-pow k 2 (lit< tt)), mul-mod_left v (2 ^ k)) (add-zero _) in
    let below : v / 2 ^ n < 2 ^ k = (div-lt_iff_lt-mul (one-le-pow n 2 (lit< tt))).1 (rw (mul_comm, ← pow-add) l) in
    rw (pow-add, up) (or_shifted (v % 2 ^ n) k (v / 2 ^ n) below)

moved_parts : (k v : ℕ) → k ≤ 4 → moved k (le_bytes 4 v) ≡ le_bytes k (v / 256 ^ (4 - k)) ++ le_bytes (4 - k) v
unfolding moved
moved_parts k v h =
    let n = 4 - k in
    let low = le_bytes n v in
    let high = le_bytes k (v / 256 ^ n) in
    let four : 4 ≡ n + k = omega arith in
    let parts : le_bytes 4 v ≡ low ++ high = ap (λ (m : ℕ). le_bytes m v) four ∙ le_bytes_add n k v in
    let long : length low ≡ n = length_le_bytes n v in
    ap₂ ◌++◌ (ap (drop n) parts ∙ drop_at low high n long) (ap (take n) parts ∙ take_at low high n long)

-- a word's bits rotated by k bytes are its bytes moved up
pub rotated : (k v : ℕ) → k ≤ 4 → v < 2 ^ 32 → bit_or (v * 2 ^ (8 * k) % 2 ^ 32) (v / 2 ^ (32 - 8 * k)) ≡ moved_word k v
unfolding moved_word
rotated k v h l =
    let n = 4 - k in
    let width : 32 - 8 * k ≡ 8 * n = omega arith in
    let whole : 32 ≡ 8 * n + 8 * k = omega arith in
    let within : v < 2 ^ (8 * n + 8 * k) = subst (λ (m : ℕ). v < 2 ^ m) whole l in
    let below : v / 256 ^ n < 256 ^ k =
    (div-lt_iff_lt-mul (one-le-pow n 256 (lit< tt))).1 (rw (← bits n, ← bits k, mul_comm, ← pow-add) within) in
    let number : le (le_bytes k (v / 256 ^ n) ++ le_bytes n v) ≡ 256 ^ k * (v % 256 ^ n) + v / 256 ^ n =
    le_append (le_bytes k (v / 256 ^ n)) (le_bytes n v)
    ∙ rw (length_le_bytes, le_low n v, le_le_bytes k (v / 256 ^ n) below) (add_comm (v / 256 ^ n) (256 ^ k * (v % 256 ^ n))) in
    ap₂ (λ (m j : ℕ). bit_or (v * 2 ^ (8 * k) % 2 ^ m) (v / 2 ^ j)) whole width ∙ turn (8 * k) (8 * n) v within
    ∙ rw (bits n, bits k, mul_comm (v % 256 ^ n) (256 ^ k)) (sym number) ∙ sym (ap le (moved_parts k v h))

-- to row 0 a word is not moved
pub unmoved : (v : ℕ) → v < 2 ^ 32 → moved_word 0 v ≡ v
unfolding moved_word moved le_bytes
unmoved v l = le_le_bytes 4 v l

-- as the library rotates a word
pub rotated_left : (k v : ℕ) → k < 4 → v < 2 ^ 32 → rotate_left w32 v (8 * k) ≡ moved_word k v
rotated_left zero v h l =
    let low : v * 1 % 2 ^ 32 ≡ v = omega arith in
    let high : v / 1 ≡ v = omega arith in
    ap₂ bit_or low high ∙ or_self v ∙ sym (unmoved v l)
rotated_left (suc k) v h l =
    let up : 8 * suc k % 32 ≡ 8 * suc k = omega arith in
    let down : (32 - 8 * suc k % 32) % 32 ≡ 32 - 8 * suc k = omega arith in
    ap₂ (λ (m j : ℕ). bit_or (v * 2 ^ m % 2 ^ 32) (v / 2 ^ j)) up down ∙ rotated (suc k) v (omega arith) l

-- ---- sums of what is read

-- the bytes of a sum are the sums of the bytes
pub summed : (n : ℕ) (s t : List ℕ) → length s ≡ n → length t ≡ n → Bytes s → Bytes t → le_bytes n (xor (le s) (le t)) ≡ add_round_key s t
summed n s t hs ht bs bt =
    ap (le_bytes n) (sum_le s t (hs ∙ sym ht) bs bt) ∙ ap (λ (m : ℕ). le_bytes m (le (add_round_key s t))) (sym (length_add_round_key s t ∙ hs))
    ∙ le_bytes_le (add_round_key s t) (add_round_key_bytes s t bs bt)

-- sums of parts, one after the other
pub add_round_key_append : (s t k l : List ℕ) → length s ≡ length k → add_round_key (s ++ t) (k ++ l) ≡ add_round_key s k ++ add_round_key t l
unfolding add_round_key
add_round_key_append [] t [] l e = refl
add_round_key_append [] t (y ∷ k) l e = absurd (omega arith)
add_round_key_append (x ∷ s) t [] l e = absurd (omega arith)
add_round_key_append (x ∷ s) t (y ∷ k) l e = ap (◌∷◌ (xor x y)) (add_round_key_append s t k l (omega arith))

-- eight bytes of a state and of a key, summed as words
half : (s w : List ℕ) (i at : ℕ) → i + 8 ≤ length s → at + 8 ≤ length w → Bytes (take 8 (drop i s)) → Bytes (take 8 (drop at w))
    → le_bytes 8 (xor (le_at 8 i s) (le_at 8 at w)) ≡ add_round_key (take 8 (drop i s)) (take 8 (drop at w))
unfolding le_at
half s w i at hs hw bs bw =
    summed 8 (take 8 (drop i s)) (take 8 (drop at w)) (length_part 8 i s hs) (length_part 8 at w hw) bs bw

-- AddRoundKey in two halves
pub added : (s w t u : List ℕ) (n : ℕ) → length s ≡ 16 → 16 * n + 16 ≤ length w → Bytes (take 8 (drop 0 s)) → Bytes (take 8 (drop (16 * n) w))
    → t ≡ paste (replicate 16 0) 0 (le_bytes 8 (xor (le_at 8 0 s) (le_at 8 (16 * n) w))) 8
    → Bytes (take 8 (drop 8 s)) → Bytes (take 8 (drop (16 * n + 8) w))
    → u ≡ paste t 8 (le_bytes 8 (xor (le_at 8 8 s) (le_at 8 (16 * n + 8) w))) 8 → u ≡ add_round_key s (round_key w n)
unfolding round_key
added s w t u n hs hw bx bk et by bl eu =
    let x = take 8 (drop 0 s) in let y = take 8 (drop 8 s) in
    let k = take 8 (drop (16 * n) w) in let l = take 8 (drop (16 * n + 8) w) in
    let same : length x ≡ length k = length_part 8 0 s (omega arith) ∙ sym (length_part 8 (16 * n) w (omega arith)) in
    let state : x ++ y ≡ s = sym (take-add 8 8 s) ∙ take_all 16 s (omega arith) in
    let key : k ++ l ≡ take 16 (drop (16 * n) w) =
    sym (take-add 8 8 (drop (16 * n) w) ∙ ap (λ (r : List ℕ). k ++ take 8 r) (drop-drop 8 (16 * n) w)) in
    let whole : length (add_round_key s (take 16 (drop (16 * n) w))) ≡ 16 = length_add_round_key s (take 16 (drop (16 * n) w)) ∙ hs in
    let p = xor (le_at 8 0 s) (le_at 8 (16 * n) w) in let q = xor (le_at 8 8 s) (le_at 8 (16 * n + 8) w) in
    let joined : le_bytes 8 p ++ le_bytes 8 q ≡ add_round_key s (take 16 (drop (16 * n) w)) =
    ap₂ ◌++◌ (half s w 0 (16 * n) (omega arith) (omega arith) bx bk) (half s w 8 (16 * n + 8) (omega arith) (omega arith) by bl)
    ∙ sym (add_round_key_append x y k l same) ∙ ap₂ add_round_key state key in
    paste_two (le_bytes 8 p) (le_bytes 8 q) (add_round_key s (take 16 (drop (16 * n) w))) 8 8 0 (replicate 16 0) t u (length_le_bytes 8 p) (length_le_bytes 8 q) joined (omega arith) et eu
    ∙ paste_whole (replicate 16 0) (add_round_key s (take 16 (drop (16 * n) w))) 16 refl ∙ take_all 16 (add_round_key s (take 16 (drop (16 * n) w))) (omega arith)
