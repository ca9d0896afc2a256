-- Opening undoes sealing on 48 bytes, so the fields made of a verifier match; and of what fields open to, 36 bytes are compared. Assumes
-- nothing.
use mathlib.Core.Path.{◌≡◌, ◌∙◌}
use mathlib.Core.Bool.{true}
use mathlib.Core.List.{List, ◌++◌}
use Prim.Native.Nat.{ℕ}
use native.Mathlib.Omega.{arith}
use lib.ListN.{length, take, drop, length-append, length-drop, take-append-drop}
use lib.Seq.{take_at, drop_at, length-take-le}
use Rattle.octets.specs.Octets.{Bytes, same}
use Rattle.octets.proofs.Below.{append_below, take_below, drop_below}
use Rattle.octets.proofs.Equal.{same_self}
use Rattle.sha1_digest.specs.Sha1.{sha1}
use Rattle.sha1_digest.proofs.Laws.{length_sha1, sha1_bytes}
use Rattle.steps.specs.Steps.{whole}
use Rattle.steps.proofs.Made.{length_seal_all}
use Rattle.steps.proofs.Inverse.{opened_sealed, sealed_bytes}
use Rattle.blocks.specs.Blocks.{ecb_under}
use Rattle.blocks.proofs.Aes.{under_width, under_sized, under_reverses}
use Rattle.password.specs.Verifier.{verifier_sealing, verifier_opening, verifier_plain, verifier_field, hash_field, matches}

-- ---- the fields of a verifier, under a key

module _ (verifier filling : List ℕ) (v : length verifier ≡ 16) (f : length filling ≡ 12) where
  pub length_plain : length (verifier_plain verifier filling) ≡ 48
  unfolding verifier_plain
  length_plain = simp (length-append, length_sha1, v, f)

  -- opened, they are the verifier and its hash
  compared : let plain = verifier_plain verifier filling in same (sha1 (take 16 plain)) (take 20 (drop 16 plain)) ≡ true
  unfolding verifier_plain
  compared =
      rw (take_at verifier (sha1 verifier ++ filling) 16 v, drop_at verifier (sha1 verifier ++ filling) 16 v, take_at (sha1 verifier) filling 20 (length_sha1 verifier))
      (same_self (sha1 verifier))

  module _ (key : List ℕ) where
    abbrev fields : List ℕ
    fields = verifier_sealing key (verifier_plain verifier filling)

    length_both : length fields ≡ 48
    unfolding verifier_sealing
    length_both = length_seal_all (ecb_under key) (under_sized key) (verifier_plain verifier filling) ∙ rw (under_width key, length_plain)

    pub length_fields : (length (verifier_field (verifier_sealing key) verifier filling) ≡ 16) × (length (hash_field (verifier_sealing key) verifier filling) ≡ 32)
    unfolding verifier_field hash_field
    length_fields = (length-take-le 16 fields (omega (arith, length_both)), simp length-drop (omega (arith, length_both)))

    whole_blocks : whole (ecb_under key).width (length (verifier_plain verifier filling)) ≡ true
    unfolding whole
    whole_blocks = rw (under_width key, length_plain)

    module _ (b : Bytes key) where
      pub fields_match : matches (verifier_opening key) (verifier_field (verifier_sealing key) verifier filling) (hash_field (verifier_sealing key) verifier filling) ≡ true
      unfolding matches verifier_field hash_field verifier_opening verifier_sealing
      fields_match =
          rw (take-append-drop 16 fields, opened_sealed (ecb_under key) (under_reverses key b) (verifier_plain verifier filling) whole_blocks) compared

      pub fields_bytes : Bytes verifier → Bytes filling
          → Bytes (verifier_field (verifier_sealing key) verifier filling) × Bytes (hash_field (verifier_sealing key) verifier filling)
      unfolding verifier_field hash_field verifier_sealing verifier_plain
      fields_bytes c d =
          let all = sealed_bytes (ecb_under key) (under_reverses key b) (verifier ++ (sha1 verifier ++ filling)) (append_below verifier _ c (append_below (sha1 verifier) filling (sha1_bytes verifier) d)) in
          (take_below 16 _ all, drop_below 16 _ all)

-- ---- what is compared

-- two pairs of fields that open to the same first 36 bytes match or do not match alike
pub first_thirty_six : (op : List ℕ → List ℕ) (v h w i : List ℕ) → take 16 (op (v ++ h)) ≡ take 16 (op (w ++ i))
    → take 20 (drop 16 (op (v ++ h))) ≡ take 20 (drop 16 (op (w ++ i))) → matches op v h ≡ matches op w i
unfolding matches
first_thirty_six op v h w i e f = rw (e, f)
