-- EncryptionInfo laid out from its fields (01, "EncryptionInfo, byte for byte"; 004 2.3.2, 2.3.3 and 2.3.4.5, 000 section 2): `Info`
-- read the other way. Assumes nothing.
use mathlib.Core.List.{List, [], ◌∷◌, ◌++◌, flat_map}
use Rattle.std.specs.Prelude.{ℕ, ◌/◌, length}
use Rattle.octets.specs.Octets.{le_bytes}
use Rattle.descriptor.specs.declared.Descriptor.{Descriptor}

-- every field of the stream, in its order
pub record Fields : Type 0 where
  -- EncryptionVersionInfo, Flags and the size of EncryptionHeader
  pub major : ℕ
  pub minor : ℕ
  pub flags : ℕ
  pub header_size : ℕ
  -- EncryptionHeader: its numbers, the provider name and the opaque bytes behind it
  pub header_flags : ℕ
  pub size_extra : ℕ
  pub alg_id : ℕ
  pub alg_id_hash : ℕ
  pub key_size : ℕ
  pub provider_type : ℕ
  pub reserved1 : ℕ
  pub reserved2 : ℕ
  pub name : List ℕ
  pub opaque : List ℕ
  -- EncryptionVerifier
  pub salt_size : ℕ
  pub salt : List ℕ
  pub encrypted_verifier : List ℕ
  pub verifier_hash_size : ℕ
  pub encrypted_verifier_hash : List ℕ

-- the 44 bytes before the name: two numbers in two bytes each, then ten in four
unfoldable pub front : Fields → List ℕ
front f =
    le_bytes 2 f.major
    ++ le_bytes 2 f.minor
    ++ flat_map (le_bytes 4) (f.flags ∷ f.header_size
    ∷ f.header_flags ∷ f.size_extra ∷ f.alg_id ∷ f.alg_id_hash ∷ f.key_size ∷ f.provider_type ∷ f.reserved1 ∷ f.reserved2 ∷ [])

-- EncryptionVerifier, the bytes after EncryptionHeader
unfoldable pub verifier : Fields → List ℕ
verifier f =
    le_bytes 4 f.salt_size ++ f.salt ++ f.encrypted_verifier ++ le_bytes 4 f.verifier_hash_size ++ f.encrypted_verifier_hash

-- the whole stream
unfoldable pub laid_out : Fields → List ℕ
laid_out f = front f ++ f.name ++ f.opaque ++ verifier f

-- the descriptor that it describes, with the scheme; KeySize counts bits in the file and bytes from here on
abbrev pub says : Fields → (scheme : ℕ) → Descriptor
says f scheme =
    record {
      major = f.major;
      minor = f.minor;
      alg_id = f.alg_id;
      key_size = record { 0 = f.key_size / 8 };
      name_place = 44;
      name_length = length f.name;
      salt = f.salt;
      encrypted_verifier = f.encrypted_verifier;
      encrypted_verifier_hash = f.encrypted_verifier_hash;
      scheme = scheme;
    }
