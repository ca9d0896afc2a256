-- The bytes that are hashed grow by one unit, or one masked byte, a turn; what lies past them is as it was laid. Assumes nothing.
use mathlib.Core.Path.{◌≡◌, refl, sym, ap, ◌∙◌}
use mathlib.Core.List.{List, ◌∷◌, ◌++◌, map}
use Prim.Native.Nat.{ℕ, suc, ◌+◌, ◌-◌, ◌*◌, ◌≤◌, ◌<◌}
use native.Mathlib.Numerals.{add-one}
use native.Mathlib.Omega.{arith}
use lib.Bits.{bit_xor}
use lib.ListN.{length, get_or, take, set, replicate, length-append, length-map, get_or-map}
use lib.Seq.{paste, take-suc, take_all, take_at, set_at, length-take-le, append_snoc}
use Rattle.octets.specs.Octets.{le_bytes}
use Rattle.octets.proofs.Numbers.{length_le_bytes}
use Rattle.octets.proofs.Parts.{paste_two, paste_whole}
use Rattle.octets.proofs.Each.{length_each, each_all}
use Rattle.sha1_digest.specs.Sha1.{sha1}
use Rattle.sha1_digest.proofs.Laws.{length_sha1}
use Rattle.derivation.specs.Key as Key

-- ---- the password's bytes

length_units : (p : List ℕ) → length (Key.unit_bytes p) ≡ 2 * length p
length_units = length_each (le_bytes 2) (length_le_bytes 2)

-- salt, then all the units
pub message_law : (salt p d e f : List ℕ) (i : ℕ) → length salt ≡ 16 → i ≡ length p → 16 + 2 * length p ≤ length d → e ≡ paste d 0 salt 16
    → f ≡ paste e 16 (Key.unit_bytes (take i p)) (2 * i) → take (16 + 2 * length p) f ≡ salt ++ Key.unit_bytes p
message_law salt p d e f i hs q room g h =
    let l : length (salt ++ Key.unit_bytes p) ≡ 16 + 2 * length p = simp length-append (omega (arith, length_units p)) in
    let laid : f ≡ paste d 0 (salt ++ Key.unit_bytes p) (16 + 2 * length p) =
    paste_two salt (Key.unit_bytes p) (salt ++ Key.unit_bytes p) 16 (2 * length p) 0 d e f hs (length_units p) refl (omega arith) g (each_all (le_bytes 2) (length_le_bytes 2) e p 16 i q h) in
    rw (laid, take_all (16 + 2 * length p) (salt ++ Key.unit_bytes p) (omega arith)) (take_at (salt ++ Key.unit_bytes p) _ (16 + 2 * length p) l)

-- ---- the mask

-- the first i bytes masked, in 64 bytes of c
unfoldable pub masked_to : ℕ → List ℕ → ℕ → List ℕ
masked_to c b i = take i (map (bit_xor c) b) ++ replicate (64 - i) c

pub masked_none : (c : ℕ) (b : List ℕ) → replicate 64 c ≡ masked_to c b 0
unfolding masked_to
masked_none c b = refl

pub masked_more : (c : ℕ) (b m : List ℕ) (i : ℕ) → length b ≡ 20 → i < 20 → m ≡ masked_to c b i → set m i (bit_xor c (get_or b i 0)) ≡ masked_to c b (i + 1)
unfolding masked_to
masked_more c b m i hb h e =
    let f : List ℕ = map (bit_xor c) b in
    let n : 64 - i ≡ suc (64 - (i + 1)) = omega arith in
    let l : length f ≡ 20 = length-map b (bit_xor c) ∙ hb in
    let g : m ≡ take i f ++ c ∷ replicate (64 - (i + 1)) c = e ∙ ap (λ (k : ℕ). take i f ++ replicate k c) n in
    ap (λ (l : List ℕ). set l i (bit_xor c (get_or b i 0))) g
    ∙ set_at (take i f) c (replicate (64 - (i + 1)) c) (bit_xor c (get_or b i 0)) i (length-take-le i f (omega arith))
    ∙ sym (rw (add-one, take-suc f i (bit_xor c 0) (omega arith), get_or-map (bit_xor c) b i 0) (append_snoc (take i f) (bit_xor c (get_or b i 0)) (replicate (64 - suc i) c)))

pub masked_all : (c : ℕ) (b m : List ℕ) (i : ℕ) → length b ≡ 20 → i ≡ 20 → m ≡ masked_to c b i → m ≡ Key.masked c b
unfolding masked_to Key.masked
masked_all c b m i hb q e =
    let l : length (map (bit_xor c) b) ≤ i = rw length-map (omega arith) in
    e ∙ rw (take_all i (map (bit_xor c) b) l, q, hb)

-- ---- X then Y

pub derived_law : (b x y e f : List ℕ) → x ≡ sha1 (Key.masked 0x36 b) → y ≡ sha1 (Key.masked 0x5c b) → e ≡ paste (replicate 40 0) 0 x 20 → f ≡ paste e 20 y 20
    → f ≡ Key.derived b
unfolding Key.derived
derived_law b x y e f hx hy p q =
    let lx : length x ≡ 20 = ap length hx ∙ length_sha1 (Key.masked 0x36 b) in
    let ly : length y ≡ 20 = ap length hy ∙ length_sha1 (Key.masked 0x5c b) in
    paste_two x y (x ++ y) 20 20 0 (replicate 40 0) e f lx ly refl (omega arith) p q
    ∙ paste_whole (replicate 40 0) (x ++ y) 40 refl
    ∙ take_all 40 (x ++ y) (rw length-append (omega arith))
    ∙ rw (hx, hy)
