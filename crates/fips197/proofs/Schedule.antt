-- The key expansion word by word: a new word reads only the words before it, so the words may stand in a longer list. Assumes
-- nothing.
use mathlib.Core.Path.{◌≡◌, refl, ap, ap₂, ◌∙◌}
use mathlib.Core.Bool.{Bool, true, false, cond, ◌&&◌, and-false}
use mathlib.Core.List.{List, [], ◌∷◌, ◌++◌, map}
use Prim.Native.Nat.{ℕ, zero, suc, ◌+◌, ◌-◌, ◌*◌, ◌/◌, ◌%◌, ◌≤◌, ◌<◌}
use native.Mathlib.Nat.{add-zero, div-lt_iff_lt-mul, le-div_iff_mul-le}
use native.Mathlib.Omega.{arith}
use lib.Dec.{eqb, ltb}
use lib.ListN.{length, get_or, take, drop, replicate, length-append, length-drop}
use lib.Seq.{paste, get_or-take, get_or-drop, length-take-le, take-append-le, drop-append-le}
use borrow.Author.Tests.{eq-eqb, ne_eqb, lt-ltb, le-ltb}
use Rattle.octets.specs.Octets.{Bytes}
use Rattle.octets.proofs.Below.{nil_bytes, cons_below, append_below, take_below, drop_below}
use Rattle.octets.proofs.Parts.{paste_next, drop_replicate}
use Rattle.fips197.specs.Field.{xor}
use Rattle.fips197.specs.Tables.{look, sbox, round_constant}
use Rattle.fips197.specs.Cipher.{sub_bytes, add_round_key}
use Rattle.fips197.specs.Expansion.{key_word, rot_word, turned, next, longer_key, extended, rounds_for, schedule}
use Rattle.fips197.proofs.Entries.{constant_byte}
use Rattle.fips197.proofs.States.{opened, length_add_round_key, sub_bytes_bytes, add_round_key_bytes}

-- ---- a word

-- four bytes read one by one
pub word_read : (w : List ℕ) (at : ℕ) → at + 4 ≤ length w
    → get_or w at 0 ∷ get_or w (at + 1) 0 ∷ get_or w (at + 2) 0 ∷ get_or w (at + 3) 0 ∷ [] ≡ take 4 (drop at w)
word_read w at h =
    let p = take 4 (drop at w) in
    let size : length p ≡ 4 = length-take-le 4 (drop at w) (simp length-drop (omega arith)) in
    let byte : (i : ℕ) → i < 4 → get_or p i 0 ≡ get_or w (at + i) 0 = λ i l. get_or-take 4 (drop at w) i 0 l ∙ get_or-drop at w i 0 in
    cc (opened 4 p size, byte 0 (omega arith), byte 1 (omega arith), byte 2 (omega arith), byte 3 (omega arith), add-zero at)

-- four bytes added one by one
pub word_added : (u t : List ℕ) → length u ≡ 4 → length t ≡ 4
    → xor (get_or u 0 0) (get_or t 0 0) ∷ xor (get_or u 1 0) (get_or t 1 0) ∷ xor (get_or u 2 0) (get_or t 2 0) ∷ xor (get_or u 3 0) (get_or t 3 0) ∷ []
    ≡ add_round_key u t
unfolding add_round_key
word_added u t hu ht = ap₂ add_round_key (opened 4 u hu) (opened 4 t ht)

length_word : (w : List ℕ) (m : ℕ) → 4 * m + 4 ≤ length w → length (key_word w m) ≡ 4
unfolding key_word
length_word w m h = length-take-le 4 (drop (4 * m) w) (simp length-drop (omega arith))

-- ---- what is added, case by case

module _ (nk i : ℕ) (t : List ℕ) where
  pub turned_first : (table u : List ℕ) (v : ℕ) → i % nk ≡ 0 → length t ≡ 4 → table ≡ sbox
      → u ≡ map (look table) (get_or t 1 0 ∷ get_or t 2 0 ∷ get_or t 3 0 ∷ get_or t 0 0 ∷ []) → v ≡ round_constant (i / nk)
      → xor (get_or u 0 0) v ∷ get_or u 1 0 ∷ get_or u 2 0 ∷ get_or u 3 0 ∷ [] ≡ turned nk i t
  unfolding turned sub_bytes add_round_key rot_word
  turned_first table u v e h g q r =
      rw (q, r, g, eq-eqb (i % nk) 0 e) (ap (λ (x : List ℕ). add_round_key (sub_bytes (rot_word x)) (round_constant (i / nk) ∷ [])) (opened 4 t h))

  pub turned_half : (table u : List ℕ) → (i % nk ≡ 0 → ⊥) → 6 < nk → i % nk ≡ 4 → table ≡ sbox → u ≡ map (look table) t → u ≡ turned nk i t
  unfolding turned sub_bytes
  turned_half table u f l h g q = rw (q, g, ne_eqb (i % nk) 0 f, lt-ltb 6 nk l, eq-eqb (i % nk) 4 h)

  pub turned_other : (i % nk ≡ 0 → ⊥) → (i % nk ≡ 4 → ⊥) → t ≡ turned nk i t
  unfolding turned
  turned_other f h = rw (ne_eqb (i % nk) 0 f, ne_eqb (i % nk) 4 h, and-false)

  pub turned_short : (i % nk ≡ 0 → ⊥) → nk ≤ 6 → t ≡ turned nk i t
  unfolding turned
  turned_short f g = rw (ne_eqb (i % nk) 0 f, le-ltb 6 nk g)

-- a round constant for each nk words
pub constant_place : (nk i : ℕ) → 4 ≤ nk → nk ≤ i → i < 4 * (nk + 7) → (0 < i / nk) × (i / nk ≤ 10)
constant_place nk i h p l =
    let low : 1 ≤ i / nk = (le-div_iff_mul-le {k = nk} {x = 1} {y = i} (omega arith)).1 (omega arith) in
    let high : i / nk < 11 = (div-lt_iff_lt-mul {k = nk} {x = i} {y = 11} (omega arith)).1 (omega arith) in
    (low, omega arith)

-- ---- words before their list's end

module _ (x z : List ℕ) where
  word_front : (m : ℕ) → 4 * m + 4 ≤ length x → key_word (x ++ z) m ≡ key_word x m
  unfolding key_word
  word_front m h =
      rw (drop-append-le (4 * m) x z (omega arith)) (take-append-le 4 (drop (4 * m) x) z (simp length-drop (omega arith)))

  next_front : (nk i : ℕ) → 0 < nk → nk ≤ i → 4 * i ≤ length x → next nk i (x ++ z) ≡ next nk i x
  unfolding next
  next_front nk i h p l = rw (word_front (i - nk) (omega arith), word_front (i - 1) (omega arith))

length_next : (nk i : ℕ) (w : List ℕ) → 0 < nk → nk ≤ i → 4 * i ≤ length w → length (next nk i w) ≡ 4
unfolding next
length_next nk i w h p l =
    length_add_round_key (key_word w (i - nk)) (turned nk i (key_word w (i - 1))) ∙ length_word w (i - nk) (omega arith)

module _ (nk : ℕ) (k : List ℕ) (h : 0 < nk) (size : length k ≡ 4 * nk) where
  pub length_extended : (n : ℕ) → length (extended nk k n) ≡ 4 * (nk + n)
  unfolding extended longer_key
  length_extended zero = size ∙ rw add-zero
  length_extended (suc n) =
      let ih = length_extended n in
      simp (length-append, length_next nk (nk + n) (extended nk k n) h (omega arith) (omega arith)) (omega arith)

  -- the words before i, and zeros to the end of 240 bytes
  abbrev pub before : ℕ → List ℕ
  before i = extended nk k (i - nk) ++ replicate (240 - 4 * i) 0

  -- a turn of the loop: word i, laid after the words before it
  pub extended_more : (w w' t : List ℕ) (i : ℕ) → nk ≤ i → 4 * i + 4 ≤ 240 → w ≡ before i → t ≡ next nk i w → w' ≡ paste w (4 * i) t 4
      → w' ≡ before (i + 1)
  unfolding extended longer_key
  extended_more w w' t i p l e q r =
      let x = extended nk k (i - nk) in
      let here : nk + (i - nk) ≡ i = omega arith in
      let long : length x ≡ 4 * i = length_extended (i - nk) ∙ ap (λ (n : ℕ). 4 * n) here in
      let new : t ≡ next nk i x = q ∙ rw e (next_front x (replicate (240 - 4 * i) 0) nk i h p (omega arith)) in
      let four : length t ≡ 4 = ap length new ∙ length_next nk i x h p (omega arith) in
      let count : i + 1 - nk ≡ suc (i - nk) = omega arith in
      let rest : 240 - 4 * (i + 1) ≡ 240 - 4 * i - 4 = omega arith in
      r ∙ ap (λ (v : List ℕ). paste v (4 * i) t 4) e ∙ paste_next x t (replicate (240 - 4 * i) 0) (4 * i) 4 long four
      ∙ rw (new, count, rest, here, drop_replicate {A = ℕ} 4 (240 - 4 * i) 0)

  -- after the last word
  pub extended_all : (w : List ℕ) (i : ℕ) → i ≡ 4 * (nk + 7) → w ≡ before i → w ≡ schedule nk k ++ replicate (240 - 16 * (rounds_for nk + 1)) 0
  unfolding schedule rounds_for
  extended_all w i e q =
      let n : 4 * (nk + 6 + 1) - nk ≡ i - nk = omega arith in
      let rest : 240 - 16 * (nk + 6 + 1) ≡ 240 - 4 * i = omega arith in
      rw (n, rest) q

  -- the key itself, laid over zeros
  pub extended_none : (w : List ℕ) → w ≡ paste (replicate 240 0) 0 k (4 * nk) → w ≡ before nk
  unfolding extended
  extended_none w e =
      let n : nk - nk ≡ 0 = omega arith in
      rw n (e ∙ paste_next [] k (replicate 240 0) 0 (4 * nk) refl size ∙ ap (λ (z : List ℕ). k ++ z) (drop_replicate (4 * nk) 240 0))

  pub length_schedule : length (schedule nk k) ≡ 16 * (rounds_for nk + 1)
  unfolding schedule rounds_for
  length_schedule = length_extended (4 * (nk + 6 + 1) - nk) ∙ (let e : 4 * (nk + (4 * (nk + 6 + 1) - nk)) ≡ 16 * (nk + 6 + 1) = omega arith in e)

-- ---- words of bytes

cond_bytes : (c : Bool) {s t : List ℕ} → Bytes s → Bytes t → Bytes (cond c s t)
cond_bytes true p q = p
cond_bytes false p q = q

word_bytes : (w : List ℕ) (m : ℕ) → Bytes w → Bytes (key_word w m)
unfolding key_word
word_bytes w m b = take_below 4 (drop (4 * m) w) (drop_below (4 * m) w b)

rot_word_bytes : (t : List ℕ) → Bytes t → Bytes (rot_word t)
unfolding rot_word
rot_word_bytes t b = append_below (drop 1 t) (take 1 t) (drop_below 1 t b) (take_below 1 t b)

turned_bytes : (nk i : ℕ) (t : List ℕ) → Bytes t → Bytes (turned nk i t)
unfolding turned
turned_bytes nk i t b =
    cond_bytes (eqb (i % nk) 0)
    (add_round_key_bytes (sub_bytes (rot_word t)) (round_constant (i / nk) ∷ []) (sub_bytes_bytes (rot_word t) (rot_word_bytes t b))
    (cons_below (constant_byte (i / nk)) nil_bytes))
    (cond_bytes (ltb 6 nk && eqb (i % nk) 4) (sub_bytes_bytes t b) b)

extended_bytes : (nk : ℕ) (k : List ℕ) (n : ℕ) → Bytes k → Bytes (extended nk k n)
unfolding extended longer_key next key_word
extended_bytes nk k zero b = b
extended_bytes nk k (suc n) b =
    let w = extended nk k n in
    let ih = extended_bytes nk k n b in
    append_below w (next nk (nk + n) w) ih
    (add_round_key_bytes (key_word w (nk + n - nk)) (turned nk (nk + n) (key_word w (nk + n - 1))) (word_bytes w (nk + n - nk) ih)
    (turned_bytes nk (nk + n) (key_word w (nk + n - 1)) (word_bytes w (nk + n - 1) ih)))

pub schedule_bytes : (nk : ℕ) (k : List ℕ) → Bytes k → Bytes (schedule nk k)
unfolding schedule
schedule_bytes nk k b = extended_bytes nk k (4 * (rounds_for nk + 1) - nk) b
