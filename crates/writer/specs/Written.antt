-- A new EncryptionInfo stream: the answer, the size and every byte of the output, for every input (request 2026-01; 004 2.3.1 for its
-- Flags, 2.3.4.5 for its fields, 2.3.4.8 for its EncryptionVerifier). Assumes nothing.
use Rattle.std.specs.Prelude.{not, List, [], ◌∷◌, ◌++◌, ℕ, ◌+◌, ◌/◌, ◌%◌, ltb, eqb, length}
use Rattle.answers.specs.Rules.{Rule, rule, first_of, room_rules}
use Rattle.answers.specs.Ended.{Left, ended}
use Rattle.descriptor.specs.Info.{alg_id_of}
use Rattle.descriptor.specs.LaidOut.{Fields, laid_out}
use Rattle.derivation.specs.Key.{key_bytes}
use Rattle.password.specs.Verifier.{verifier_sealing, verifier_field, hash_field}
use Rattle.password.specs.Verdict.{text_rules}

-- ---- what is refused

-- the most bytes of a name: HeaderSize is 32 and they, and at most 4,096 (no. 3)
unfoldable pub name_limit : ℕ
name_limit = 4064

-- how long the stream with a name of so many bytes is
unfoldable pub info_size : ℕ → ℕ
info_size name = 116 + name

-- the rules on what is laid out: the name's length and the key size in bits, which has to be that of an AlgID
unfoldable pub field_rules : (bits name : ℕ) → List Rule
field_rules bits name =
    rule 3 (ltb name_limit name)
    ∷ rule 5 (not (eqb (name % 2) 0))
    ∷ rule 8 (eqb (alg_id_of bits) 0)
    ∷ []

-- all of them, in the request's order, for the key size in bits, the password, the bytes of the name and the room
unfoldable pub write_rules : (bits : ℕ) (password : List ℕ) (name room : ℕ) → List Rule
write_rules bits password name room = field_rules bits name ++ text_rules password ++ room_rules room (info_size name)

-- ---- what is written

-- every field of the stream; fCryptoAPI and fAES are the bits 0x04 and 0x20 of Flags (004 2.3.1)
unfoldable pub new_fields : (bits : ℕ) (key name salt verifier filling : List ℕ) → Fields
new_fields bits key name salt verifier filling =
    record {
      major = 3;
      minor = 2;
      flags = 0x24;
      header_size = 32 + length name;
      header_flags = 0x24;
      size_extra = 0;
      alg_id = alg_id_of bits;
      alg_id_hash = 0x8004;
      key_size = bits;
      provider_type = 24;
      reserved1 = 0;
      reserved2 = 0;
      name = name;
      opaque = [];
      salt_size = 16;
      salt = salt;
      encrypted_verifier = verifier_field (verifier_sealing key) verifier filling;
      verifier_hash_size = 20;
      encrypted_verifier_hash = hash_field (verifier_sealing key) verifier filling;
    }

-- the stream, under the key of the salt and the password
unfoldable pub info_of : (bits : ℕ) (password name salt verifier filling : List ℕ) → List ℕ
info_of bits password name salt verifier filling = laid_out (new_fields bits (key_bytes (bits / 8) salt password) name salt verifier filling)

-- `write_info`
unfoldable pub written : (bits : ℕ) (password name salt verifier filling out : List ℕ) → Left
written bits password name salt verifier filling out =
    ended (first_of (write_rules bits password (length name) (length out))) (info_size (length name))
    (info_of bits password name salt verifier filling) out
