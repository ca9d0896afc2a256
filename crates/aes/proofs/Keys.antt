-- Keys of the three sizes: what they share is shown once, over the number of words; and the zeros after an expanded key are never
-- read. Assumes nothing.
use mathlib.Core.Path.{◌≡◌, refl, ap, subst⁻¹, ◌∙◌}
use mathlib.Core.Logic.{◌⊎◌, inl, inr, ⊎_elim}
use mathlib.Core.Bool.{Bool, true, false, cond, ◌||◌, or-true}
use mathlib.Core.List.{List, [], ◌∷◌, ◌++◌}
use Prim.Native.Nat.{ℕ, ◌+◌, ◌-◌, ◌*◌, ◌/◌, ◌≤◌, ◌<◌}
use native.Mathlib.Omega.{arith}
use lib.Dec.{eqb}
use lib.ListN.{length, drop, replicate, length-drop, length-append, length-replicate}
use lib.Seq.{take-append-le, drop-append-le}
use borrow.Author.Tests.{eq-eqb, ne_eqb, eqb-true}
use Rattle.octets.specs.Octets.{Bytes}
use Rattle.octets.proofs.Below.{append_below, replicate_below}
use Rattle.answers.specs.Rules.{OneOf}
use Rattle.answers.proofs.Laws.{either}
use Rattle.fips197.specs.Cipher.{round_key, cipher, inv_cipher}
use Rattle.fips197.specs.Expansion.{rounds_for, schedule}
use Rattle.aes.specs.Aes.{BlockReply, key_length, round_count, words_of, encryption, decryption, done_block, refused_block, encrypted, decrypted, expanded, encrypted_by, decrypted_by}
use Rattle.aes.specs.declared.Expanded.{Expanded}
use Rattle.fips197.proofs.States.{round_key_bytes}
use Rattle.fips197.proofs.Schedule.{length_schedule, schedule_bytes}
use Rattle.fips197.proofs.Undo.{inv_cipher_cipher, cipher_inv_cipher, length_cipher, length_inv_cipher, cipher_bytes, inv_cipher_bytes, cipher_same, inv_cipher_same}

-- ---- one of three numbers

module _ (n a b c : ℕ) where
  abbrev pub Listed : Type 0
  Listed = (n ≡ a) ⊎ ((n ≡ b) ⊎ (n ≡ c))

  pub listed : Listed → (eqb n a || eqb n b || eqb n c) ≡ true
  listed = ⊎_elim (λ e. rw (eq-eqb n a e)) (⊎_elim (λ e. rw (eq-eqb n b e, or-true)) (λ e. rw (eq-eqb n c e, or-true)))

  pub unlisted : (Listed → ⊥) → (eqb n a || eqb n b || eqb n c) ≡ false
  unlisted f = rw (ne_eqb n a (λ e. f (inl e)), ne_eqb n b (λ e. f (inr (inl e))), ne_eqb n c (λ e. f (inr (inr e))))

  third : eqb n a ≡ false → eqb n b ≡ false → (eqb n a || eqb n b || eqb n c) ≡ true → n ≡ c
  third p q t = eqb-true n c (rw (p, q) at t)

  which : (eqb n a || eqb n b || eqb n c) ≡ true → Listed
  which t =
      ⊎_elim (λ e. inl (eqb-true n a e))
      (λ p. ⊎_elim (λ e. inr (inl (eqb-true n b e))) (λ q. inr (inr (third p q t))) (either (eqb n b)))
      (either (eqb n a))

-- the three numbers of rounds have room in 240 bytes
pub within : (n : ℕ) → Listed n 10 12 14 → (0 < n) × (n ≤ 14)
within n = ⊎_elim (λ e. (omega arith, omega arith)) (⊎_elim (λ e. (omega arith, omega arith)) (λ e. (omega arith, omega arith)))

-- ---- what a key's length says

pub record Suits (k : List ℕ) : Type 0 where
  pub few : 4 ≤ words_of k
  pub most : words_of k ≤ 8
  pub whole : length k ≡ 4 * words_of k
  pub counted : round_count (rounds_for (words_of k)) ≡ true

fits_at : (k : List ℕ) (m : ℕ) → length k ≡ 4 * m → 4 ≤ m → m ≤ 8 → round_count (m + 6) ≡ true → Suits k
unfolding words_of rounds_for
fits_at k m e low high t =
    let words : length k / 4 ≡ m = omega arith in
    record { few = omega arith; most = omega arith; whole = omega arith; counted = rw words t }

pub fits : (k : List ℕ) → key_length (length k) ≡ true → Suits k
unfolding key_length round_count
fits k t =
    ⊎_elim (λ e. fits_at k 4 e (omega arith) (omega arith) refl)
    (⊎_elim (λ e. fits_at k 6 e (omega arith) (omega arith) refl) (λ e. fits_at k 8 e (omega arith) (omega arith) refl))
    (which (length k) 16 24 32 t)

-- a key of one of the three lengths
pub key_lengths : (n : ℕ) → OneOf (16 ∷ 24 ∷ 32 ∷ []) n → key_length n ≡ true
unfolding key_length
key_lengths n (inl e) = listed n 16 24 32 (inl e)
key_lengths n (inr (inl e)) = listed n 16 24 32 (inr (inl e))
key_lengths n (inr (inr (inl e))) = listed n 16 24 32 (inr (inr e))
key_lengths n (inr (inr (inr e))) = absurd e

-- ---- the two ways out of the expansion

abbrev pub tail : List ℕ → List ℕ
tail k = replicate (240 - 16 * (rounds_for (words_of k) + 1)) 0

module _ (k : List ℕ) where
  pub expanded_fit : key_length (length k) ≡ true
      → expanded k ≡ record { bytes = schedule (words_of k) k ++ tail k; rounds = rounds_for (words_of k) }
  unfolding expanded
  expanded_fit t = rw t

  pub expanded_other : key_length (length k) ≡ false → expanded k ≡ record { bytes = replicate 240 0; rounds = 0 }
  unfolding expanded
  expanded_other t = rw t

-- ---- the zeros after an expanded key

round_key_front : (w z : List ℕ) (r : ℕ) → 16 * r + 16 ≤ length w → round_key (w ++ z) r ≡ round_key w r
unfolding round_key
round_key_front w z r h =
    rw (drop-append-le (16 * r) w z (omega arith)) (take-append-le 16 (drop (16 * r) w) z (simp length-drop (omega arith)))

-- ---- both directions: a block by the cipher f

-- under an expanded key
abbrev by : ((ℕ → List ℕ) → ℕ → List ℕ → List ℕ) → List ℕ → Expanded → BlockReply
by f s e = cond (round_count e.rounds) (done_block (f (round_key e.bytes) e.rounds s)) refused_block

module _ (f : (ℕ → List ℕ) → ℕ → List ℕ → List ℕ) (s : List ℕ) (e : Expanded) where
  pub answered : (r : List ℕ) → Listed e.rounds 10 12 14 → r ≡ f (round_key e.bytes) e.rounds s → done_block r ≡ by f s e
  unfolding round_count
  answered r l q = rw (q, listed e.rounds 10 12 14 l)

  pub unanswered : (r : BlockReply) → (Listed e.rounds 10 12 14 → ⊥) → r ≡ refused_block → r ≡ by f s e
  unfolding round_count
  unanswered r l q = rw (q, unlisted e.rounds 10 12 14 l)

module _ (f : (ℕ → List ℕ) → ℕ → List ℕ → List ℕ)
    (same : (key key' : ℕ → List ℕ) (n : ℕ) (s : List ℕ) → ((r : ℕ) → r ≤ n → key r ≡ key' r) → f key n s ≡ f key' n s) (k s : List ℕ) where
  -- a block by f under a key
  abbrev given : List ℕ
  given = f (round_key (schedule (words_of k) k)) (rounds_for (words_of k)) s

  -- a cipher reads only the keys of its rounds
  under : Suits k → f (round_key (schedule (words_of k) k ++ tail k)) (rounds_for (words_of k)) s ≡ given
  under h =
      let long = length_schedule (words_of k) k (omega (arith, h.few)) h.whole in
      same (round_key (schedule (words_of k) k ++ tail k)) (round_key (schedule (words_of k) k)) (rounds_for (words_of k)) s
      (λ r l. round_key_front (schedule (words_of k) k) (tail k) r (omega arith))

  by_expanded : key_length (length k) ≡ true → f (round_key (expanded k).bytes) (expanded k).rounds s ≡ given
  by_expanded t = ap (λ (e : Expanded). f (round_key e.bytes) e.rounds s) (expanded_fit k t) ∙ under (fits k t)

  by_fit : key_length (length k) ≡ true → by f s (expanded k) ≡ done_block given
  by_fit t =
      ap (by f s) (expanded_fit k t)
      ∙ ap (λ (b : Bool). cond b (done_block (f (round_key (schedule (words_of k) k ++ tail k)) (rounds_for (words_of k)) s)) refused_block) (fits k t).counted
      ∙ ap done_block (under (fits k t))

  by_other : key_length (length k) ≡ false → by f s (expanded k) ≡ refused_block
  unfolding round_count
  by_other t = ap (by f s) (expanded_other k t)

  -- a key that is expanded first
  by_key : by f s (expanded k) ≡ cond (key_length (length k)) (done_block given) refused_block
  by_key = ⊎_elim (λ t. rw t (by_fit t)) (λ t. rw t (by_other t)) (either (key_length (length k)))

pub encrypted_expanded : (k s : List ℕ) → encrypted_by (expanded k) s ≡ encrypted k s
unfolding encrypted_by encrypted encryption
encrypted_expanded = by_key cipher cipher_same

pub decrypted_expanded : (k s : List ℕ) → decrypted_by (expanded k) s ≡ decrypted k s
unfolding decrypted_by decrypted decryption
decrypted_expanded = by_key inv_cipher inv_cipher_same

-- ---- what the crates above rest on

module _ (k : List ℕ) where
  long_fit : Suits k → length (schedule (words_of k) k ++ tail k) ≡ 240
  unfolding rounds_for
  long_fit h =
      let long = length_schedule (words_of k) k (omega (arith, h.few)) h.whole in
      simp (length-append, length-replicate) (omega (arith, h.most))

  pub length_expanded : length (expanded k).bytes ≡ 240
  length_expanded =
      ⊎_elim (λ t. ap (λ (e : Expanded). length e.bytes) (expanded_fit k t) ∙ long_fit (fits k t))
      (λ t. ap (λ (e : Expanded). length e.bytes) (expanded_other k t)) (either (key_length (length k)))

  pub rounds_within : key_length (length k) ≡ true → (0 < (expanded k).rounds) × ((expanded k).rounds ≤ 14)
  unfolding rounds_for
  rounds_within t =
      let h = fits k t in
      subst⁻¹ (λ (e : Expanded). (0 < e.rounds) × (e.rounds ≤ 14)) (expanded_fit k t) (omega (arith, h.few), omega (arith, h.most))

  pub expanded_bytes : Bytes k → Bytes (expanded k).bytes
  expanded_bytes b =
      ⊎_elim
      (λ t. subst⁻¹ (λ (e : Expanded). Bytes e.bytes) (expanded_fit k t)
      (append_below (schedule (words_of k) k) (tail k) (schedule_bytes (words_of k) k b) (replicate_below (240 - 16 * (rounds_for (words_of k) + 1)) 0 (omega arith))))
      (λ t. subst⁻¹ (λ (e : Expanded). Bytes e.bytes) (expanded_other k t) (replicate_below 240 0 (omega arith)))
      (either (key_length (length k)))

  module _ (s : List ℕ) where
    -- the ciphers under the expanded key of k
    pub cipher_expanded : key_length (length k) ≡ true → cipher (round_key (expanded k).bytes) (expanded k).rounds s ≡ encryption k s
    unfolding encryption
    cipher_expanded = by_expanded cipher cipher_same k s

    pub inv_cipher_expanded : key_length (length k) ≡ true → inv_cipher (round_key (expanded k).bytes) (expanded k).rounds s ≡ decryption k s
    unfolding decryption
    inv_cipher_expanded = by_expanded inv_cipher inv_cipher_same k s

    -- each undoes the other
    pub decryption_encryption : length s ≡ 16 → decryption k (encryption k s) ≡ s
    unfolding encryption decryption
    decryption_encryption = inv_cipher_cipher (round_key (schedule (words_of k) k)) (rounds_for (words_of k)) s

    pub encryption_decryption : length s ≡ 16 → encryption k (decryption k s) ≡ s
    unfolding encryption decryption
    encryption_decryption = cipher_inv_cipher (round_key (schedule (words_of k) k)) (rounds_for (words_of k)) s

    -- sixteen bytes come out
    pub length_encryption : length (encryption k s) ≡ 16
    unfolding encryption
    length_encryption = length_cipher (round_key (schedule (words_of k) k)) (rounds_for (words_of k)) s

    pub length_decryption : length (decryption k s) ≡ 16
    unfolding decryption
    length_decryption = length_inv_cipher (round_key (schedule (words_of k) k)) (rounds_for (words_of k)) s

    key_bytes_lem : Bytes k → (r : ℕ) → Bytes (round_key (schedule (words_of k) k) r)
    key_bytes_lem b = round_key_bytes (schedule (words_of k) k) (schedule_bytes (words_of k) k b)

    pub encryption_bytes : Bytes k → Bytes s → Bytes (encryption k s)
    unfolding encryption
    encryption_bytes b = cipher_bytes (round_key (schedule (words_of k) k)) (key_bytes_lem b) (rounds_for (words_of k)) s

    pub decryption_bytes : Bytes k → Bytes s → Bytes (decryption k s)
    unfolding decryption
    decryption_bytes b = inv_cipher_bytes (round_key (schedule (words_of k) k)) (key_bytes_lem b) (rounds_for (words_of k)) s

    -- the two ways out of the entries
    module _ (t : key_length (length k) ≡ true) where
      pub encrypted_fit : encrypted k s ≡ done_block (encryption k s)
      unfolding encrypted
      encrypted_fit = rw t

      pub decrypted_fit : decrypted k s ≡ done_block (decryption k s)
      unfolding decrypted
      decrypted_fit = rw t

      -- and of those under the expanded key
      pub encrypted_block : (encrypted_by (expanded k) s).block ≡ encryption k s
      unfolding done_block
      encrypted_block = ap (λ (r : BlockReply). r.block) (encrypted_expanded k s ∙ encrypted_fit)

      pub decrypted_block : (decrypted_by (expanded k) s).block ≡ decryption k s
      unfolding done_block
      decrypted_block = ap (λ (r : BlockReply). r.block) (decrypted_expanded k s ∙ decrypted_fit)

    module _ (t : key_length (length k) ≡ false) where
      pub encrypted_other : encrypted k s ≡ refused_block
      unfolding encrypted
      encrypted_other = rw t

      pub decrypted_other : decrypted k s ≡ refused_block
      unfolding decrypted
      decrypted_other = rw t

-- the entries, one after the other
module _ (k s : List ℕ) (t : key_length (length k) ≡ true) (h : length s ≡ 16) where
  pub decrypted_encrypted : decrypted k (encrypted k s).block ≡ done_block s
  unfolding done_block
  decrypted_encrypted =
      ap (λ (r : BlockReply). decrypted k r.block) (encrypted_fit k s t) ∙ decrypted_fit k (encryption k s) t ∙ ap done_block (decryption_encryption k s h)

  pub encrypted_decrypted : encrypted k (decrypted k s).block ≡ done_block s
  unfolding done_block
  encrypted_decrypted =
      ap (λ (r : BlockReply). encrypted k r.block) (decrypted_fit k s t) ∙ encrypted_fit k (decryption k s) t ∙ ap done_block (encryption_decryption k s h)
