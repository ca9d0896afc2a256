-- EncryptionInfo of Standard encryption (01, "EncryptionInfo, byte for byte"; 004 2.3.2, 2.3.3 and 2.3.4.5, 000 section 2): its
-- fields at their places, the rules 1 to 10 and 19, and what a parse gives. Assumes nothing.
use Rattle.std.specs.Prelude.{Result, Ok, Err, Option, Some, None, Bool, cond, not, ◌&&◌, ◌||◌, List, [], ◌∷◌, ◌++◌, ℕ, ◌+◌, ◌-◌, ◌/◌, ◌%◌, ltb, eqb, length, take, drop, replicate}
use Rattle.octets.specs.Octets.{le_at}
use Rattle.answers.specs.Refusals.{number}
use Rattle.answers.specs.Rules.{Rule, rule, first_of}
use Rattle.answers.specs.declared.Refusal.{Refusal}
use Rattle.descriptor.specs.declared.Numbers.{Numbers}
use Rattle.descriptor.specs.declared.BitCount.{BitCount}
use Rattle.descriptor.specs.declared.Suite as Found
use Rattle.descriptor.specs.declared.Descriptor.{Descriptor}

-- ---- the fields; bytes past the end count as 0

-- EncryptionVersionInfo (004 2.3.4.5)
unfoldable pub major : List ℕ → ℕ
major s = le_at 2 0 s

unfoldable pub minor : List ℕ → ℕ
minor s = le_at 2 2 s

-- the size of EncryptionHeader, which begins at 12
unfoldable pub header_size : List ℕ → ℕ
header_size s = le_at 4 8 s

-- EncryptionHeader (004 2.3.2)
unfoldable pub size_extra : List ℕ → ℕ
size_extra s = le_at 4 16 s

unfoldable pub alg_id : List ℕ → ℕ
alg_id s = le_at 4 20 s

unfoldable pub alg_id_hash : List ℕ → ℕ
alg_id_hash s = le_at 4 24 s

unfoldable pub key_size : List ℕ → ℕ
key_size s = le_at 4 28 s

-- EncryptionVerifier (004 2.3.3), right after EncryptionHeader
unfoldable pub salt_size : List ℕ → ℕ
salt_size s = le_at 4 (12 + header_size s) s

unfoldable pub salt_of : List ℕ → List ℕ
salt_of s = take 16 (drop (16 + header_size s) s)

unfoldable pub encrypted_verifier : List ℕ → List ℕ
encrypted_verifier s = take 16 (drop (32 + header_size s) s)

unfoldable pub verifier_hash_size : List ℕ → ℕ
verifier_hash_size s = le_at 4 (48 + header_size s) s

unfoldable pub encrypted_verifier_hash : List ℕ → List ℕ
encrypted_verifier_hash s = take 32 (drop (52 + header_size s) s)

-- the numbers that are judged
unfoldable pub numbers_of : List ℕ → Numbers
numbers_of s =
    record {
      length = length s;
      major = major s;
      minor = minor s;
      header_size = header_size s;
      size_extra = size_extra s;
      alg_id = alg_id s;
      alg_id_hash = alg_id_hash s;
      key_size = record { 0 = key_size s };
      salt_size = salt_size s;
      verifier_hash_size = verifier_hash_size s;
    }

-- ---- the algorithms

-- a row of 01's table: AlgID, KeySize in bits, rounds
pub record Algorithm : Type 0 where
  pub alg_id : ℕ
  pub bits : ℕ
  pub rounds : ℕ

abbrev algorithm : ℕ → ℕ → ℕ → Algorithm
algorithm alg_id bits rounds = record { alg_id = alg_id; bits = bits; rounds = rounds }

-- the table (01, "EncryptionInfo, byte for byte"; 000 3.1)
unfoldable pub algorithms : List Algorithm
algorithms =
    algorithm 0x660e 128 10
    ∷ algorithm 0x660f 192 12
    ∷ algorithm 0x6610 256 14
    ∷ []

-- what the first row gives whose number in a column is n, or what there is for none
unfoldable pub look_up : {A : Type 0} → List Algorithm → (column : Algorithm → ℕ) (n : ℕ) (gives : Algorithm → A) (none : A) → A
look_up [] column n gives none = none
look_up (x ∷ xs) column n gives none = cond (eqb n (column x)) (gives x) (look_up xs column n gives none)

-- what an AlgID stands for: 0 beside its key size and rounds, or a refusal's number beside zeros
pub record Suite : Type 0 where
  pub answer : ℕ
  pub bits : BitCount
  pub rounds : ℕ

abbrev pub suite : ℕ → ℕ → ℕ → Suite
suite answer bits rounds = record { answer = answer; bits = record { 0 = bits }; rounds = rounds }

abbrev pub suite_reply : Result Found.Suite Refusal → Suite
suite_reply (Ok found) = suite 0 found.bits.0 found.rounds
suite_reply (Err r) = suite (number r) 0 0

-- key size in bits and rounds for an AlgID, or 6
unfoldable pub suite_of : ℕ → Suite
suite_of alg_id = look_up algorithms (λ x. x.alg_id) alg_id (λ x. suite 0 x.bits x.rounds) (suite 6 0 0)

-- the AlgID whose key has so many bits, 0 where there is none
unfoldable pub alg_id_of : ℕ → ℕ
alg_id_of bits = look_up algorithms (λ x. x.bits) bits (λ x. x.alg_id) 0

-- a number where 0 stands for none
abbrev pub unless_zero : ℕ → Option ℕ
unless_zero n = cond (eqb n 0) None (Some n)

-- ---- what each rule tests (01, "The numbered replies")

unfoldable pub bad_version : ℕ → ℕ → Bool
bad_version major minor = not (eqb minor 2) || (ltb major 2 || ltb 4 major)

unfoldable pub bad_header_size : ℕ → Bool
bad_header_size h = ltb h 32 || ltb 4096 h

-- SizeExtra exceeds what is left of the header, or leaves the name an odd number of bytes
unfoldable pub bad_name : ℕ → ℕ → Bool
bad_name h x = ltb h (32 + x) || not (eqb ((h - 32 - x) % 2) 0)

-- the rules 1 to 10, in order, on the numbers of EncryptionInfo
abbrev pub number_rules : Numbers → List Rule
number_rules n =
    rule 1 (ltb n.length 12)
    ∷ rule 2 (bad_version n.major n.minor)
    ∷ rule 3 (bad_header_size n.header_size)
    ∷ rule 4 (not (eqb n.length (n.header_size + 84)))
    ∷ rule 5 (bad_name n.header_size n.size_extra)
    ∷ rule 6 (not (eqb (suite_of n.alg_id).answer 0))
    ∷ rule 7 (not (eqb n.alg_id_hash 0x8004))
    ∷ rule 8 (not (eqb n.key_size.0 (suite_of n.alg_id).bits.0))
    ∷ rule 9 (not (eqb n.salt_size 16))
    ∷ rule 10 (not (eqb n.verifier_hash_size 20))
    ∷ []

-- and on EncryptionInfo itself
unfoldable pub info_rules : List ℕ → List Rule
info_rules s = number_rules (numbers_of s)

-- the schemes by which a package's blocks go together (request 2026-04): 1, each by itself (000 section 7), and 2, chained (001, 003)
unfoldable pub bad_scheme : ℕ → Bool
bad_scheme scheme = not (eqb scheme 1) && not (eqb scheme 2)

-- the rule on the scheme, which no field of EncryptionInfo names: 19, after all of EncryptionInfo's
unfoldable pub scheme_rules : (scheme : ℕ) → List Rule
scheme_rules scheme = rule 19 (bad_scheme scheme) ∷ []

-- those of a parse
unfoldable pub parse_rules : List ℕ → (scheme : ℕ) → List Rule
parse_rules s scheme = info_rules s ++ scheme_rules scheme

-- ---- the parse

-- what a stream that breaks no rule says, with the scheme; KeySize counts bits in the file and bytes from here on
unfoldable pub described : List ℕ → (scheme : ℕ) → Descriptor
described s scheme =
    record {
      major = major s;
      minor = minor s;
      alg_id = alg_id s;
      key_size = record { 0 = key_size s / 8 };
      name_place = 44;
      name_length = header_size s - 32 - size_extra s;
      salt = salt_of s;
      encrypted_verifier = encrypted_verifier s;
      encrypted_verifier_hash = encrypted_verifier_hash s;
      scheme = scheme;
    }

-- zeros in every field, the place too
unfoldable pub zeroed : Descriptor
zeroed =
    record {
      major = 0;
      minor = 0;
      alg_id = 0;
      key_size = record { 0 = 0 };
      name_place = 0;
      name_length = 0;
      salt = replicate 16 0;
      encrypted_verifier = replicate 16 0;
      encrypted_verifier_hash = replicate 32 0;
      scheme = 0;
    }

-- what `parse` replies: 0 beside the descriptor, or a refusal's number beside zeros
pub record Parsed : Type 0 where
  pub answer : ℕ
  pub fields : Descriptor

abbrev pub parsed_of : Result Descriptor Refusal → Parsed
parsed_of (Ok d) = record { answer = 0; fields = d }
parsed_of (Err r) = record { answer = number r; fields = zeroed }

-- what `parse` gives for every stream and scheme
unfoldable pub parsed : List ℕ → (scheme : ℕ) → Parsed
parsed s scheme =
    let answer : ℕ = first_of (parse_rules s scheme) in
    record { answer = answer; fields = cond (eqb answer 0) (described s scheme) zeroed }
