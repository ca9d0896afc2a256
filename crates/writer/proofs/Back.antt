-- A stream written here gives back its fields and its name, and its password is accepted: what was sealed of the verifier opens again.
-- Assumes nothing.
use mathlib.Core.Path.{◌≡◌, refl, sym, ap, ◌∙◌}
use mathlib.Core.Logic.{inl, inr}
use mathlib.Core.List.{List}
use Prim.Native.Nat.{ℕ, ◌+◌, ◌/◌}
use native.Mathlib.Omega.{arith}
use lib.Dec.{lit<}
use lib.ListN.{length, take, drop}
use Rattle.octets.specs.Octets.{Bytes}
use Rattle.octets.proofs.Below.{nil_bytes}
use Rattle.descriptor.specs.Info.{Suite, key_size, alg_id_of, described}
use Rattle.descriptor.specs.LaidOut.{Fields}
use Rattle.descriptor.specs.declared.Descriptor.{Descriptor}
use Rattle.descriptor.proofs.Algorithms.{key_row}
use Rattle.descriptor.proofs.Laws.{Admitted, KnownScheme}
use Rattle.descriptor.proofs.LaidOut.{Held, Measured, Good, reads, laid_bytes, laid_admitted, laid_described, laid_name, length_laid}
use Rattle.derivation.proofs.Laws.{key_bytes_bytes}
use Rattle.password.specs.Lock.{lock_of}
use Rattle.password.specs.Verifier.{verifier_sealing, verifier_opening, verifier_field, hash_field, matches}
use Rattle.password.specs.Verdict.{judged}
use Rattle.password.proofs.Fields.{length_fields, fields_match, fields_bytes}
use Rattle.password.proofs.Laws.{Matched, key_of_is, accepted}
use Rattle.writer.specs.Written.{new_fields, info_of}
use Rattle.writer.proofs.Laws.{Writable, new_key}

module _ (bits : ℕ) (password name salt verifier filling : List ℕ) where
  abbrev info : List ℕ
  info = info_of bits password name salt verifier filling

  -- salt, verifier and filling are of their types, and in some room nothing is refused
  pub record Given : Type 0 where
    pub salt_long : length salt ≡ 16
    pub verifier_long : length verifier ≡ 16
    pub filling_long : length filling ≡ 12
    pub room : ℕ
    pub fits : Writable bits password (length name) room

  abbrev key : List ℕ
  key = new_key bits salt password

  abbrev fields : Fields
  fields = new_fields bits key name salt verifier filling

  -- what the descriptor of it says
  abbrev pub new_descriptor : (scheme : ℕ) → Descriptor
  new_descriptor scheme =
      record {
        major = 3;
        minor = 2;
        alg_id = alg_id_of bits;
        key_size = record { 0 = bits / 8 };
        name_place = 44;
        name_length = length name;
        salt = salt;
        encrypted_verifier = verifier_field (verifier_sealing key) verifier filling;
        encrypted_verifier_hash = hash_field (verifier_sealing key) verifier filling;
        scheme = scheme;
      }

  module _ (g : Given) where
    held : Held fields
    unfolding new_fields
    held =
        record {
          major = lit< tt;
          minor = lit< tt;
          header = omega (arith, g.fits.short);
          extra = lit< tt;
          alg = omega (arith, (key_row bits g.fits.key).low);
          hash = lit< tt;
          key = omega (arith, (key_row bits g.fits.key).few);
          salt = lit< tt;
          verifier = lit< tt;
        }

    lengths : (length (verifier_field (verifier_sealing key) verifier filling) ≡ 16) × (length (hash_field (verifier_sealing key) verifier filling) ≡ 32)
    lengths = length_fields verifier filling g.verifier_long g.filling_long key

    sized : Measured fields
    unfolding new_fields
    sized =
        record {
          header = omega arith;
          extra = refl;
          salt = g.salt_long;
          verifier = lengths.0;
          hash = lengths.1;
        }

    good : Good fields
    unfolding new_fields
    good =
        record {
          minor = refl;
          major = inr (inl refl);
          header = omega (arith, g.fits.short);
          even = g.fits.even;
          alg = ap (λ (x : Suite). x.answer) (key_row bits g.fits.key).suite_is;
          hash = refl;
          key = sym (ap (λ (x : Suite). x.bits.0) (key_row bits g.fits.key).suite_is);
          salt = refl;
          verifier = refl;
        }

    -- the stream breaks no rule
    pub info_admitted : Admitted info
    unfolding info_of
    info_admitted = laid_admitted fields sized held good

    pub info_described : (scheme : ℕ) → described info scheme ≡ new_descriptor scheme
    unfolding info_of new_fields
    info_described = laid_described fields sized held

    pub info_name : take (length name) (drop 44 info) ≡ name
    unfolding info_of new_fields
    info_name = laid_name fields

    pub length_info : length info ≡ 116 + length name
    unfolding info_of new_fields
    length_info = length_laid fields sized ∙ (omega arith)

    pub info_bits : key_size info ≡ bits
    unfolding info_of new_fields
    info_bits = (reads fields held).key

    pub info_bytes : Bytes name → Bytes salt → Bytes verifier → Bytes filling → Bytes info
    unfolding info_of new_fields
    info_bytes n b v r =
        let f = fields_bytes verifier filling g.verifier_long g.filling_long key (key_bytes_bytes (bits / 8) salt password) v r in
        laid_bytes fields n nil_bytes b f.0 f.1

    -- the fields open to what was sealed, so the password is accepted, under every scheme
    pub info_accepted : (scheme : ℕ) → KnownScheme scheme → judged (lock_of info password scheme) ≡ 0
    info_accepted scheme o =
        accepted (lock_of info password scheme) info_admitted o g.fits.typed
        (ap (λ (d : Descriptor). Matched d password) (info_described scheme)
        ∙ ap (λ (k : List ℕ). matches (verifier_opening k) (verifier_field (verifier_sealing key) verifier filling) (hash_field (verifier_sealing key) verifier filling)) (key_of_is (new_descriptor scheme) password)
        ∙ fields_match verifier filling g.verifier_long g.filling_long key (key_bytes_bytes (bits / 8) salt password))
