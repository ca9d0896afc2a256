-- The last blocks are laid over zeros: what is left of the message, its one bit, and its length. Assumes nothing.
use mathlib.Core.Path.{◌≡◌, refl, sym, ap, ◌∙◌}
use mathlib.Core.List.{List, [], ◌∷◌, ◌++◌, flat_map, append-nil, append_assoc}
use Prim.Native.Nat.{ℕ, suc, ◌+◌, ◌-◌, ◌*◌, ◌/◌, ◌%◌, ◌≤◌, ◌<◌}
use native.Mathlib.Omega.{arith}
use lib.ListN.{length, take, drop, set, replicate, length-append, length-drop, length-replicate, replicate-append-replicate}
use lib.Seq.{paste, set_at, take_at, drop-drop, take-append-le, drop-append-le}
use Rattle.octets.specs.Octets.{be_bytes}
use Rattle.octets.proofs.Numbers.{length_be_bytes, be_bytes_wide}
use Rattle.octets.proofs.Parts.{drop_take, part_part, paste_next, drop_replicate}
use Rattle.octets.proofs.Filled.{Filled, none, more, whole}
use Rattle.sha1_rounds.specs.declared.State.{State}
use Rattle.sha1_digest.specs.Sha1 as fips
use Rattle.sha1_digest.specs.Ending.{ending_blocks, Ends}
use Rattle.sha1_digest.proofs.Chains.{block_same}

-- the zeros between the one bit and the length field
abbrev zeros : ℕ → ℕ
zeros n = (119 - n % 64) % 64

pub length_pad : (m : List ℕ) → length (fips.pad m) ≡ 64 * ((length m + 72) / 64)
unfolding fips.pad
length_pad m = simp (length-append, length-replicate, length_be_bytes) (omega arith)

-- what stands before and past a place of the first of three runs
front : (m x y : List ℕ) (f : ℕ) → f ≤ length m → take f ((m ++ x) ++ y) ≡ take f m
front m x y f h = take-append-le f (m ++ x) y (rw length-append (omega arith)) ∙ take-append-le f m x h

past : (m x y : List ℕ) (f : ℕ) → f ≤ length m → drop f ((m ++ x) ++ y) ≡ (drop f m ++ x) ++ y
past m x y f h = drop-append-le f (m ++ x) y (rw length-append (omega arith)) ∙ ap (λ (l : List ℕ). l ++ y) (drop-append-le f m x h)

-- the padded message begins with the message
pad_take : (m : List ℕ) (f : ℕ) → f ≤ length m → take f m ≡ take f (fips.pad m)
unfolding fips.pad
pad_take m f h = sym (front m (0x80 ∷ replicate (zeros (length m)) 0) (be_bytes 8 (8 * length m)) f h)

-- the zeros before the length field and the field's own are one run
one_run : (s b : List ℕ) (z k : ℕ) → (s ++ 0x80 ∷ replicate z 0) ++ (replicate k 0 ++ b) ≡ (s ++ 0x80 ∷ replicate (z + k) 0) ++ b
one_run s b z k = rw (← replicate-append-replicate {A = ℕ} z k 0) (simp append_assoc)

-- past a place of the message: its rest, the one bit, zeros, and the length in four bytes
pub pad_drop : (m : List ℕ) (f : ℕ) → f ≤ length m → length m ≤ 65536
    → drop f (fips.pad m) ≡ (drop f m ++ 0x80 ∷ replicate (zeros (length m) + 4) 0) ++ be_bytes 4 (8 * length m)
unfolding fips.pad
pad_drop m f h g =
    past m (0x80 ∷ replicate (zeros (length m)) 0) (be_bytes 8 (8 * length m)) f h
    ∙ ap (λ (l : List ℕ). (drop f m ++ 0x80 ∷ replicate (zeros (length m)) 0) ++ l) (be_bytes_wide 4 4 (8 * length m) (omega arith))
    ∙ one_run (drop f m) (be_bytes 4 (8 * length m)) (zeros (length m)) 4

-- s, the one bit and k zeros, then b, laid over zeros
laid : (s b t₁ t₂ : List ℕ) (r k j : ℕ) → length s ≡ r → length b ≡ 4 → r + suc (k + j) ≡ 128 → t₁ ≡ paste (replicate 128 0) 0 s r
    → t₂ ≡ paste (set t₁ r 0x80) (r + suc k) b 4 → take (r + suc k + 4) t₂ ≡ (s ++ 0x80 ∷ replicate k 0) ++ b
laid s b t₁ t₂ r k j hs hb h e₁ e₂ =
    let rest : drop r (replicate {A = ℕ} 128 0) ≡ 0 ∷ replicate (k + j) 0 =
    ap (λ (n : ℕ). drop r (replicate {A = ℕ} n 0)) (sym h) ∙ drop_replicate r (r + suc (k + j)) 0 ∙ ap (λ (n : ℕ). replicate {A = ℕ} n 0) (more r (k + j)) in
    let y : t₁ ≡ s ++ 0 ∷ replicate (k + j) 0 = e₁ ∙ paste_next [] s (replicate 128 0) 0 r refl hs ∙ ap (λ (l : List ℕ). s ++ l) rest in
    let x : set t₁ r 0x80 ≡ (s ++ 0x80 ∷ replicate k 0) ++ replicate j 0 =
    rw (y, set_at s 0 (replicate (k + j) 0) 0x80 r hs, ← replicate-append-replicate {A = ℕ} k j 0) (sym (append_assoc s (0x80 ∷ replicate k 0) (replicate j 0))) in
    let l : length (s ++ 0x80 ∷ replicate k 0) ≡ r + suc k = simp (length-append, length-replicate) (omega arith) in
    let z : t₂ ≡ ((s ++ 0x80 ∷ replicate k 0) ++ b) ++ drop 4 (replicate j 0) =
    e₂ ∙ rw x (paste_next (s ++ 0x80 ∷ replicate k 0) b (replicate j 0) (r + suc k) 4 l hb) in
    rw z (take_at ((s ++ 0x80 ∷ replicate k 0) ++ b) (drop 4 (replicate j 0)) (r + suc k + 4) (rw length-append (omega arith)))
  where
    more : (r n : ℕ) → r + suc n - r ≡ suc n
    more r n = omega arith

-- the blocks that end a message, as they are laid
pub ending_law : (m t₁ t₂ : List ℕ) → length m ≤ 65536 → t₁ ≡ paste (replicate 128 0) 0 (drop (length m - length m % 64) m) (length m % 64)
    → t₂ ≡ paste (set t₁ (length m % 64) 0x80) (64 * ending_blocks (length m) - 4) (be_bytes 4 (8 * length m)) 4
    → take (64 * ending_blocks (length m)) t₂ ≡ drop (64 * (length m / 64)) (fips.pad m)
ending_law m t₁ t₂ h e₁ e₂ =
    let o : length m - length m % 64 ≡ 64 * (length m / 64) = omega arith in
    let a : 64 * ending_blocks (length m) - 4 ≡ length m % 64 + suc (zeros (length m) + 4) = omega arith in
    let b : 64 * ending_blocks (length m) ≡ length m % 64 + suc (zeros (length m) + 4) + 4 = omega arith in
    let s : length (drop (64 * (length m / 64)) m) ≡ length m % 64 = rw length-drop (omega arith) in
    rw b (laid (drop (64 * (length m / 64)) m) (be_bytes 4 (8 * length m)) t₁ t₂ (length m % 64) (zeros (length m) + 4) (123 - length m % 64 - zeros (length m))
    s (length_be_bytes 4 (8 * length m)) (omega arith) (rw o at e₁) (rw a at e₂))
    ∙ sym (pad_drop m (64 * (length m / 64)) (omega arith) h)

-- block i of the padded message is the message's own, or one of those that end it
pub own_block : (m : List ℕ) (i : ℕ) → i < length m / 64 → fips.block_words m (64 * i) 16 ≡ fips.block_words (fips.pad m) (64 * i) 16
own_block m i h =
    block_same (64 * i) (64 * i) m (fips.pad m)
    (sym (drop_take (64 * i) 64 m) ∙ ap (drop (64 * i)) (pad_take m (64 * i + 64) (omega arith)) ∙ drop_take (64 * i) 64 (fips.pad m))

pub ending_block : (m t : List ℕ) (i : ℕ) → Ends m t → length m / 64 ≤ i → 64 * i < length (fips.pad m)
    → fips.block_words t (64 * (i - length m / 64)) 16 ≡ fips.block_words (fips.pad m) (64 * i) 16
ending_block m t i e low high =
    let w : ℕ = length m / 64 in
    let k : ℕ = 64 * (i - w) in
    let n : k + 64 ≤ 64 * ending_blocks (length m) = omega (arith, length_pad m) in
    let o : 64 * w + k ≡ 64 * i = omega arith in
    let z : 0 + k ≡ k = omega arith in
    block_same k (64 * i) t (fips.pad m)
    (sym (rw z at (part_part 64 k (64 * ending_blocks (length m)) 0 t n))
    ∙ ap (λ (l : List ℕ). take 64 (drop k l)) e.begins
    ∙ rw (drop-drop, o))

pub hash_law : (m : List ℕ) (s : State) → s ≡ fips.chain (fips.pad m) ((length m + 72) / 64) fips.start → fips.output s ≡ fips.sha1 m
unfolding fips.sha1
hash_law m s e =
    let n : length (fips.pad m) / 64 ≡ (length m + 72) / 64 = omega (arith, length_pad m) in
    rw (n, e)

-- the five words' bytes, laid one after the other
pub output_law : (s : State) (x₁ x₂ x₃ x₄ x₅ : List ℕ) → x₁ ≡ paste (replicate 20 0) 0 (be_bytes 4 s.a) 4 → x₂ ≡ paste x₁ 4 (be_bytes 4 s.b) 4
    → x₃ ≡ paste x₂ 8 (be_bytes 4 s.c) 4 → x₄ ≡ paste x₃ 12 (be_bytes 4 s.d) 4 → x₅ ≡ paste x₄ 16 (be_bytes 4 s.e) 4 → x₅ ≡ fips.output s
unfolding fips.output flat_map
output_law s x₁ x₂ x₃ x₄ x₅ e₁ e₂ e₃ e₄ e₅ =
    let two = word s.b 4 12 x₂ (word s.a 0 16 x₁ (none (replicate 20 0) 20 refl) e₁) e₂ in
    let four = word s.d 12 4 x₄ (word s.c 8 8 x₃ two e₃) e₄ in
    whole (word s.e 16 0 x₅ four e₅) ∙ (simp (append-nil, append_assoc))
  where
    word : {p x : List ℕ} (v at m : ℕ) (y : List ℕ) → Filled p x at (4 + m) → y ≡ paste x at (be_bytes 4 v) 4 → Filled (p ++ be_bytes 4 v) y (at + 4) m
    word v at m y f e = more at 4 m (be_bytes 4 v) y f (length_be_bytes 4 v) e
