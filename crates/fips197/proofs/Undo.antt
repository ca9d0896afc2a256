-- Each cipher undoes the other under any round keys and for any number of rounds: each step of a round is taken back by its
-- inverse, so the rounds are, by one induction each way. Assumes nothing.
use mathlib.Core.Path.{◌≡◌, refl, ap, ap₂, ◌∙◌}
use mathlib.Core.List.{List}
use Prim.Native.Nat.{ℕ, zero, suc, ◌-◌, ◌≤◌, zero-le}
use native.Mathlib.Nat.{le_refl}
use native.Mathlib.Omega.{arith}
use lib.ListN.{length}
use Rattle.octets.specs.Octets.{Bytes}
use Rattle.fips197.specs.Cipher.{sub_bytes, inv_sub_bytes, shift_rows, inv_shift_rows, mix_columns, inv_mix_columns, add_round_key, round, inv_round, rounds, inv_rounds, cipher, inv_cipher}
use Rattle.fips197.proofs.Columns.{unmix_columns, remix_columns, length_mix_columns, length_inv_mix_columns, mix_columns_bytes, inv_mix_columns_bytes}
use Rattle.fips197.proofs.States.{unsub_bytes, resub_bytes, unshift, reshift, unadd, sub_bytes_bytes, inv_sub_bytes_bytes, shift_rows_bytes, inv_shift_rows_bytes, add_round_key_bytes, length_sub_bytes, length_inv_sub_bytes, length_shift_rows, length_inv_shift_rows, length_add_round_key}

-- ---- substituted and shifted, and back

unturn : (s : List ℕ) → length s ≡ 16 → inv_sub_bytes (inv_shift_rows (shift_rows (sub_bytes s))) ≡ s
unturn s h = ap inv_sub_bytes (unshift (sub_bytes s) (length_sub_bytes s ∙ h)) ∙ unsub_bytes s

returned : (s : List ℕ) → length s ≡ 16 → shift_rows (sub_bytes (inv_sub_bytes (inv_shift_rows s))) ≡ s
returned s h = ap shift_rows (resub_bytes (inv_shift_rows s)) ∙ reshift s h

module _ (key : ℕ → List ℕ) where
  length_round : (r : ℕ) (s : List ℕ) → length (round key r s) ≡ 16
  unfolding round
  length_round r s =
      length_add_round_key (mix_columns (shift_rows (sub_bytes s))) (key r) ∙ length_mix_columns (shift_rows (sub_bytes s)) ∙ length_shift_rows (sub_bytes s)

  length_inv_round : (r : ℕ) (s : List ℕ) → length (inv_round key r s) ≡ 16
  unfolding inv_round
  length_inv_round r s =
      length_inv_mix_columns (add_round_key (inv_sub_bytes (inv_shift_rows s)) (key r)) ∙ length_add_round_key (inv_sub_bytes (inv_shift_rows s)) (key r)
      ∙ length_inv_sub_bytes (inv_shift_rows s) ∙ length_inv_shift_rows s

  -- a round, taken back from where the next substitution left it
  round_back : (r : ℕ) (s : List ℕ) → inv_round key r (shift_rows (sub_bytes (round key r s))) ≡ shift_rows (sub_bytes s)
  unfolding inv_round round
  round_back r s =
      ap (λ (t : List ℕ). inv_mix_columns (add_round_key t (key r))) (unturn (round key r s) (length_round r s))
      ∙ ap inv_mix_columns (unadd (mix_columns (shift_rows (sub_bytes s))) (key r)) ∙ unmix_columns (shift_rows (sub_bytes s))

  -- a round, from where the inverse round left it
  round_forth : (r : ℕ) (s t : List ℕ) → length s ≡ 16 → shift_rows (sub_bytes t) ≡ inv_round key r s → shift_rows (sub_bytes (round key r t)) ≡ s
  unfolding inv_round round
  round_forth r s t h e =
      ap (λ (u : List ℕ). shift_rows (sub_bytes (add_round_key (mix_columns u) (key r)))) e
      ∙ ap (λ (u : List ℕ). shift_rows (sub_bytes (add_round_key u (key r)))) (remix_columns (add_round_key (inv_sub_bytes (inv_shift_rows s)) (key r)))
      ∙ ap (λ (u : List ℕ). shift_rows (sub_bytes u)) (unadd (inv_sub_bytes (inv_shift_rows s)) (key r)) ∙ returned s h

  back : (n : ℕ) (s : List ℕ) → inv_rounds key n (shift_rows (sub_bytes (rounds key n s))) ≡ shift_rows (sub_bytes s)
  unfolding rounds inv_rounds
  back zero s = refl
  back (suc n) s = ap (inv_rounds key n) (round_back (suc n) (rounds key n s)) ∙ back n s

  forth : (n : ℕ) (s : List ℕ) → length s ≡ 16 → shift_rows (sub_bytes (rounds key n (inv_sub_bytes (inv_shift_rows (inv_rounds key n s))))) ≡ s
  unfolding rounds inv_rounds
  forth zero s h = returned s h
  forth (suc n) s h =
      round_forth (suc n) s (rounds key n (inv_sub_bytes (inv_shift_rows (inv_rounds key n (inv_round key (suc n) s))))) h
      (forth n (inv_round key (suc n) s) (length_inv_round (suc n) s))

  module _ (n : ℕ) (s : List ℕ) where
    -- decryption undoes encryption
    pub inv_cipher_cipher : length s ≡ 16 → inv_cipher key n (cipher key n s) ≡ s
    unfolding cipher inv_cipher
    inv_cipher_cipher h =
        let t = add_round_key s (key 0) in
        ap (λ (u : List ℕ). add_round_key (inv_sub_bytes (inv_shift_rows (inv_rounds key (n - 1) u))) (key 0))
        (unadd (shift_rows (sub_bytes (rounds key (n - 1) t))) (key n))
        ∙ ap (λ (u : List ℕ). add_round_key (inv_sub_bytes (inv_shift_rows u)) (key 0)) (back (n - 1) t)
        ∙ ap (λ (u : List ℕ). add_round_key u (key 0)) (unturn t (length_add_round_key s (key 0) ∙ h)) ∙ unadd s (key 0)

    -- encryption undoes decryption
    pub cipher_inv_cipher : length s ≡ 16 → cipher key n (inv_cipher key n s) ≡ s
    unfolding cipher inv_cipher
    cipher_inv_cipher h =
        let t = add_round_key s (key n) in
        ap (λ (u : List ℕ). add_round_key (shift_rows (sub_bytes (rounds key (n - 1) u))) (key n))
        (unadd (inv_sub_bytes (inv_shift_rows (inv_rounds key (n - 1) t))) (key 0))
        ∙ ap (λ (u : List ℕ). add_round_key u (key n)) (forth (n - 1) t (length_add_round_key s (key n) ∙ h)) ∙ unadd s (key n)

    -- sixteen come out, whatever goes in
    pub length_cipher : length (cipher key n s) ≡ 16
    unfolding cipher
    length_cipher =
        let t = sub_bytes (rounds key (n - 1) (add_round_key s (key 0))) in
        length_add_round_key (shift_rows t) (key n) ∙ length_shift_rows t

    pub length_inv_cipher : length (inv_cipher key n s) ≡ 16
    unfolding inv_cipher
    length_inv_cipher =
        let t = inv_rounds key (n - 1) (add_round_key s (key n)) in
        length_add_round_key (inv_sub_bytes (inv_shift_rows t)) (key 0) ∙ length_inv_sub_bytes (inv_shift_rows t) ∙ length_inv_shift_rows t

  -- ---- bytes under keys of bytes

  module _ (bytes : (r : ℕ) → Bytes (key r)) where
    turn_bytes : (s : List ℕ) → Bytes s → Bytes (shift_rows (sub_bytes s))
    turn_bytes s b = shift_rows_bytes (sub_bytes s) (sub_bytes_bytes s b)

    inv_turn_bytes : (s : List ℕ) → Bytes s → Bytes (inv_sub_bytes (inv_shift_rows s))
    inv_turn_bytes s b = inv_sub_bytes_bytes (inv_shift_rows s) (inv_shift_rows_bytes s b)

    add_bytes : (s : List ℕ) (r : ℕ) → Bytes s → Bytes (add_round_key s (key r))
    add_bytes s r b = add_round_key_bytes s (key r) b (bytes r)

    rounds_bytes : (n : ℕ) (s : List ℕ) → Bytes s → Bytes (rounds key n s)
    unfolding rounds round
    rounds_bytes zero s b = b
    rounds_bytes (suc n) s b =
        let t = rounds key n s in
        add_bytes (mix_columns (shift_rows (sub_bytes t))) (suc n) (mix_columns_bytes (shift_rows (sub_bytes t)) (turn_bytes t (rounds_bytes n s b)))

    inv_rounds_bytes : (n : ℕ) (s : List ℕ) → Bytes s → Bytes (inv_rounds key n s)
    unfolding inv_rounds inv_round
    inv_rounds_bytes zero s b = b
    inv_rounds_bytes (suc n) s b =
        let t = add_round_key (inv_sub_bytes (inv_shift_rows s)) (key (suc n)) in
        inv_rounds_bytes n (inv_mix_columns t) (inv_mix_columns_bytes t (add_bytes (inv_sub_bytes (inv_shift_rows s)) (suc n) (inv_turn_bytes s b)))

    pub cipher_bytes : (n : ℕ) (s : List ℕ) → Bytes s → Bytes (cipher key n s)
    unfolding cipher
    cipher_bytes n s b =
        let t = rounds key (n - 1) (add_round_key s (key 0)) in
        add_bytes (shift_rows (sub_bytes t)) n (turn_bytes t (rounds_bytes (n - 1) (add_round_key s (key 0)) (add_bytes s 0 b)))

    pub inv_cipher_bytes : (n : ℕ) (s : List ℕ) → Bytes s → Bytes (inv_cipher key n s)
    unfolding inv_cipher
    inv_cipher_bytes n s b =
        let t = inv_rounds key (n - 1) (add_round_key s (key n)) in
        add_bytes (inv_sub_bytes (inv_shift_rows t)) 0 (inv_turn_bytes t (inv_rounds_bytes (n - 1) (add_round_key s (key n)) (add_bytes s n b)))

-- ---- only the keys of the rounds count

module _ (key key' : ℕ → List ℕ) where
  rounds_same : (n : ℕ) (s : List ℕ) → ((r : ℕ) → r ≤ n → key r ≡ key' r) → rounds key n s ≡ rounds key' n s
  unfolding rounds round
  rounds_same zero s e = refl
  rounds_same (suc n) s e =
      ap₂ (λ (t k : List ℕ). add_round_key (mix_columns (shift_rows (sub_bytes t))) k) (rounds_same n s (λ r h. e r (omega arith))) (e (suc n) (le_refl (suc n)))

  inv_rounds_same : (n : ℕ) (s : List ℕ) → ((r : ℕ) → r ≤ n → key r ≡ key' r) → inv_rounds key n s ≡ inv_rounds key' n s
  unfolding inv_rounds inv_round
  inv_rounds_same zero s e = refl
  inv_rounds_same (suc n) s e =
      inv_rounds_same n (inv_round key (suc n) s) (λ r h. e r (omega arith))
      ∙ ap (λ (k : List ℕ). inv_rounds key' n (inv_mix_columns (add_round_key (inv_sub_bytes (inv_shift_rows s)) k))) (e (suc n) (le_refl (suc n)))

  module _ (n : ℕ) (s : List ℕ) (e : (r : ℕ) → r ≤ n → key r ≡ key' r) where
    pub cipher_same : cipher key n s ≡ cipher key' n s
    unfolding cipher
    cipher_same =
        rw (e 0 zero-le, e n (le_refl n), rounds_same (n - 1) (add_round_key s (key' 0)) (λ r h. e r (omega arith)))

    pub inv_cipher_same : inv_cipher key n s ≡ inv_cipher key' n s
    unfolding inv_cipher
    inv_cipher_same =
        rw (e 0 zero-le, e n (le_refl n), inv_rounds_same (n - 1) (add_round_key s (key' n)) (λ r h. e r (omega arith)))
