-- What each step of a round keeps and what takes it back. Lengths and undoing hold of any numbers; bytes stay bytes.
-- Assumes nothing.
use mathlib.Core.Path.{◌≡◌, refl, sym, ap, subst, ◌∙◌}
use mathlib.Core.List.{List, [], ◌∷◌, map}
use Prim.Native.Nat.{ℕ, zero, suc, ◌+◌, ◌*◌, ◌%◌, ◌<◌}
use native.Mathlib.Omega.{arith}
use lib.ListN.{length, get_or, drop, length-map}
use Rattle.octets.specs.Octets.{Bytes}
use Rattle.octets.proofs.Below.{nil_bytes, cons_below, tail_below, take_below, drop_below}
use Rattle.fips197.specs.Tables.{look, sbox, inv_sbox}
use Rattle.fips197.specs.Cipher.{sub_bytes, inv_sub_bytes, tabulate, shift, shift_rows, inv_shift_rows, add_round_key, round_key}
use Rattle.fips197.proofs.Sums.{comm, back, xor_byte}
use Rattle.fips197.proofs.Entries.{unsub, resub, sub_byte, inv_sub_byte}

-- ---- SubBytes

map_undo : (f g : ℕ → ℕ) → ((x : ℕ) → f (g x) ≡ x) → (s : List ℕ) → map f (map g s) ≡ s
map_undo f g undo [] = refl
map_undo f g undo (x ∷ s) = λ i. undo x i ∷ map_undo f g undo s i

pub unsub_bytes : (s : List ℕ) → inv_sub_bytes (sub_bytes s) ≡ s
unfolding sub_bytes inv_sub_bytes
unsub_bytes = map_undo (look inv_sbox) (look sbox) unsub

pub resub_bytes : (s : List ℕ) → sub_bytes (inv_sub_bytes s) ≡ s
unfolding sub_bytes inv_sub_bytes
resub_bytes = map_undo (look sbox) (look inv_sbox) resub

map_bytes : (f : ℕ → ℕ) → ((x : ℕ) → x < 256 → f x < 256) → (s : List ℕ) → Bytes s → Bytes (map f s)
map_bytes f h [] b = nil_bytes
map_bytes f h (x ∷ s) b = cons_below (h x (b.at 0)) (map_bytes f h s (tail_below b))

pub sub_bytes_bytes : (s : List ℕ) → Bytes s → Bytes (sub_bytes s)
unfolding sub_bytes
sub_bytes_bytes = map_bytes (look sbox) sub_byte

pub inv_sub_bytes_bytes : (s : List ℕ) → Bytes s → Bytes (inv_sub_bytes s)
unfolding inv_sub_bytes
inv_sub_bytes_bytes = map_bytes (look inv_sbox) inv_sub_byte

pub length_sub_bytes : (s : List ℕ) → length (sub_bytes s) ≡ length s
unfolding sub_bytes
length_sub_bytes s = length-map s (look sbox)

pub length_inv_sub_bytes : (s : List ℕ) → length (inv_sub_bytes s) ≡ length s
unfolding inv_sub_bytes
length_inv_sub_bytes s = length-map s (look inv_sbox)

-- ---- ShiftRows

tabulate_get_d : (s : List ℕ) → tabulate (length s) (λ i. get_or s i 0) ≡ s
tabulate_get_d [] = refl
tabulate_get_d (x ∷ s) = ap (◌∷◌ x) (tabulate_get_d s)

-- a list of n is its elements, one by one
pub opened : (n : ℕ) (s : List ℕ) → length s ≡ n → tabulate n (λ i. get_or s i 0) ≡ s
opened n s e = subst (λ (k : ℕ). tabulate k (λ i. get_or s i 0) ≡ s) e (tabulate_get_d s)

pub unshift : (s : List ℕ) → length s ≡ 16 → inv_shift_rows (shift_rows s) ≡ s
unfolding shift_rows inv_shift_rows shift
unshift = opened 16

pub reshift : (s : List ℕ) → length s ≡ 16 → shift_rows (inv_shift_rows s) ≡ s
unfolding shift_rows inv_shift_rows shift
reshift = opened 16

pub length_shift_rows : (s : List ℕ) → length (shift_rows s) ≡ 16
unfolding shift_rows shift
length_shift_rows s = refl

pub length_inv_shift_rows : (s : List ℕ) → length (inv_shift_rows s) ≡ 16
unfolding inv_shift_rows shift
length_inv_shift_rows s = refl

tabulate_bytes : (n : ℕ) (f : ℕ → ℕ) → ((i : ℕ) → f i < 256) → Bytes (tabulate n f)
tabulate_bytes zero f h = nil_bytes
tabulate_bytes (suc n) f h = cons_below (h 0) (tabulate_bytes n (λ i. f (suc i)) (λ i. h (suc i)))

shift_bytes : (k : ℕ) (s : List ℕ) → Bytes s → Bytes (shift k s)
unfolding shift
shift_bytes k s b = tabulate_bytes 16 (λ i. get_or s ((i + 4 * (k * (i % 4))) % 16) 0) (λ i. b.at ((i + 4 * (k * (i % 4))) % 16))

pub shift_rows_bytes : (s : List ℕ) → Bytes s → Bytes (shift_rows s)
unfolding shift_rows
shift_rows_bytes = shift_bytes 1

pub inv_shift_rows_bytes : (s : List ℕ) → Bytes s → Bytes (inv_shift_rows s)
unfolding inv_shift_rows
inv_shift_rows_bytes = shift_bytes 3

-- ---- AddRoundKey

pub length_add_round_key : (s k : List ℕ) → length (add_round_key s k) ≡ length s
unfolding add_round_key
length_add_round_key [] k = refl
length_add_round_key (x ∷ s) [] = refl
length_add_round_key (x ∷ s) (y ∷ k) = ap suc (length_add_round_key s k)

pub unadd : (s k : List ℕ) → add_round_key (add_round_key s k) k ≡ s
unfolding add_round_key
unadd [] k = refl
unadd (x ∷ s) [] = refl
unadd (x ∷ s) (y ∷ k) = λ i. back x y i ∷ unadd s k i

add_comm : (s k : List ℕ) → length s ≡ length k → add_round_key s k ≡ add_round_key k s
unfolding add_round_key
add_comm [] [] h = refl
add_comm [] (y ∷ k) h = absurd (omega (arith, h))
add_comm (x ∷ s) [] h = absurd (omega (arith, h))
add_comm (x ∷ s) (y ∷ k) h = λ i. comm x y i ∷ add_comm s k (omega (arith, h)) i

-- a sum and one of the two tell the other
pub told_by_sum : (s k l : List ℕ) → length k ≡ length s → length l ≡ length s → add_round_key s k ≡ add_round_key s l → k ≡ l
told_by_sum s k l hk hl e =
    sym (unadd k s) ∙ ap (λ (x : List ℕ). add_round_key x s) (add_comm k s hk ∙ e ∙ sym (add_comm l s hl)) ∙ unadd l s

pub add_round_key_bytes : (s k : List ℕ) → Bytes s → Bytes k → Bytes (add_round_key s k)
unfolding add_round_key
add_round_key_bytes [] k b c = b
add_round_key_bytes (x ∷ s) [] b c = b
add_round_key_bytes (x ∷ s) (y ∷ k) b c = cons_below (xor_byte (b.at 0) (c.at 0)) (add_round_key_bytes s k (tail_below b) (tail_below c))

pub round_key_bytes : (w : List ℕ) → Bytes w → (r : ℕ) → Bytes (round_key w r)
unfolding round_key
round_key_bytes w b r = take_below 16 (drop (16 * r) w) (drop_below (16 * r) w b)
