-- How values cross to C and back (01, "What the product does" and "The numbered replies"): an answer beside a size, sixteen bytes, a
-- choice, a descriptor. Assumes nothing.
use Rattle.std.specs.Prelude.{◌≡◌, Bool, cond, not, List, ◌++◌, ℕ, ◌+◌, ◌*◌, ◌/◌, ◌%◌, ◌^◌, ◌<◌, ltb, eqb, length, take}
use Rattle.octets.specs.Octets.{le_bytes}
use Rattle.answers.specs.Ended.{Reply, reply}
use Rattle.descriptor.specs.declared.BitCount.{BitCount}
use Rattle.descriptor.specs.declared.Descriptor.{Descriptor}

-- an answer and a size in one number
unfoldable pub reply_word : ℕ → ℕ → ℕ
reply_word answer size = answer + 65536 * size

-- and what it tells again: ROPESHADOW_ANSWER and ROPESHADOW_SIZE of the header
unfoldable pub told : ℕ → Reply
told w = reply (w % 65536) (w / 65536)

-- sixteen bytes of two numbers: the first eight, then the last, each low byte first
unfoldable pub sixteen : ℕ → ℕ → List ℕ
sixteen low high = le_bytes 8 low ++ le_bytes 8 high

-- the first twelve of them
unfoldable pub twelve : ℕ → ℕ → List ℕ
twelve low high = take 12 (sixteen low high)

-- a number of bits as KeySize holds it in four bytes: a larger one counts as 0, which is no key's
unfoldable pub bit_count : ℕ → BitCount
bit_count bits = record { 0 = cond (ltb 4294967295 bits) 0 bits }

-- a choice in a number: 0 for no, any other for yes
unfoldable pub chosen : ℕ → Bool
chosen n = not (eqb n 0)

-- a descriptor's numbers in 20 bytes, low byte first: both versions, AlgID, the key's size in bytes, the name's place and its length
unfoldable pub number_bytes : Descriptor → List ℕ
number_bytes d =
    le_bytes 2 d.major
    ++ le_bytes 2 d.minor
    ++ le_bytes 4 d.alg_id
    ++ le_bytes 4 d.key_size.0
    ++ le_bytes 4 d.name_place
    ++ le_bytes 4 d.name_length

-- a descriptor in 88 bytes: its numbers, the salt, EncryptedVerifier, EncryptedVerifierHash, and the scheme in four bytes
unfoldable pub descriptor_bytes : Descriptor → List ℕ
descriptor_bytes d = number_bytes d ++ d.salt ++ d.encrypted_verifier ++ d.encrypted_verifier_hash ++ le_bytes 4 d.scheme

-- a descriptor that these bytes hold: no field is too long
pub record Crosses (d : Descriptor) : Type 0 where
  pub major : d.major < 2 ^ 16
  pub minor : d.minor < 2 ^ 16
  pub alg : d.alg_id < 2 ^ 32
  pub key : d.key_size.0 < 2 ^ 32
  pub place : d.name_place < 2 ^ 32
  pub name : d.name_length < 2 ^ 32
  pub salt : length d.salt ≡ 16
  pub verifier : length d.encrypted_verifier ≡ 16
  pub hash : length d.encrypted_verifier_hash ≡ 32
  pub scheme : d.scheme < 2 ^ 32
