-- New descriptors (request 2026-01). A writer answers by its rules, touches nothing on a refusal, and on acceptance leaves the stream and
-- zeros. From every stream that it writes the parser gives back each field, the name stands at its place, and the password is accepted;
-- so a sheet sealed under it opens. Assumes nothing.
use Rattle.std.specs.Prelude.{◌≡◌, ◌↔◌, List, [], ◌∷◌, ◌++◌, ℕ, ◌+◌, ◌/◌, ◌%◌, ◌≤◌, length, take, drop}
use Rattle.answers.specs.Rules.{Rule, OneOf}
use Rattle.answers.specs.Ended.{Left}
use Rattle.sha1_digest.specs.Sha1.{sha1}
use Rattle.steps.specs.Steps.{seal_all}
use Rattle.descriptor.specs.Info.{alg_id_of}
use Rattle.derivation.specs.Key.{key_bytes}
use Rattle.password.specs.Lock.{lock_of}
use Rattle.sheet.specs.Frame.{Pair, Lawful}
use Rattle.sheet.specs.Sheet.{lengths}
use Rattle.writer.specs.Written.{write_rules, info_of}
use Rattle.promises.specs.Words.{Parser, Judge, Opener, Sealer, Scheme, Accepted, Answers, written_part}
use Rattle.promises.specs.Demand1.{Call}
use Rattle.promises.specs.Demand2.{block_by_block}
use Rattle.promises.specs.Demand3.{RoundTrip}

-- ---- what comes in

-- a key size in bits, a password, a provider name, and by value a salt, a verifier and a filling
pub record Input : Type 0 where
  pub bits : ℕ
  pub password : List ℕ
  pub name : List ℕ
  pub salt : List ℕ
  pub verifier : List ℕ
  pub filling : List ℕ

-- the values are as long as their types say
pub record Typed (i : Input) : Type 0 where
  pub salt : length i.salt ≡ 16
  pub verifier : length i.verifier ≡ 16
  pub filling : length i.filling ≡ 12

-- an input and the output as it was give an answer, a size and the output as it is left
abbrev pub Writer : Type 0
Writer = (i : Input) (out : List ℕ) → Left

abbrev pub rules_for : Input → (room : ℕ) → List Rule
rules_for i room = write_rules i.bits i.password (length i.name) room

abbrev pub info_for : Input → List ℕ
info_for i = info_of i.bits i.password i.name i.salt i.verifier i.filling

-- the key of the published derivation
abbrev pub key_for : Input → List ℕ
key_for i = key_bytes (i.bits / 8) i.salt i.password

-- the verifier, its hash and the filling, encrypted block by block under it: the two encrypted fields, one after the other
abbrev pub fields_for : Input → List ℕ
fields_for i = seal_all (block_by_block (key_for i)) (i.verifier ++ (sha1 i.verifier ++ i.filling))

abbrev pub write_numbers : List ℕ
write_numbers = 3 ∷ 5 ∷ 8 ∷ 11 ∷ 16 ∷ []

-- the input is within the limits, and its stream within the room
pub record Within (i : Input) (room : ℕ) : Type 0 where
  pub name : length i.name ≤ 4064
  pub even : length i.name % 2 ≡ 0
  pub bits : OneOf (128 ∷ 192 ∷ 256 ∷ []) i.bits
  pub password : length i.password ≤ 255
  pub fits : 116 + length i.name ≤ room

-- ---- what is given back

-- a stream from which a parser gives back each field, with the name at its place and the scheme, and on whose password a judge says 0
pub record GivesBack (parses : Parser) (judges : Judge) (i : Input) (info : List ℕ) (scheme : ℕ) : Type 0 where
  pub answer : (parses info scheme).answer ≡ 0
  pub major : (parses info scheme).fields.major ≡ 3
  pub minor : (parses info scheme).fields.minor ≡ 2
  pub alg : (parses info scheme).fields.alg_id ≡ alg_id_of i.bits
  pub key : (parses info scheme).fields.key_size.0 ≡ i.bits / 8
  pub place : (parses info scheme).fields.name_place ≡ 44
  pub name : (parses info scheme).fields.name_length ≡ length i.name
  pub salt : (parses info scheme).fields.salt ≡ i.salt
  pub verifier : (parses info scheme).fields.encrypted_verifier ≡ take 16 (fields_for i)
  pub hash : (parses info scheme).fields.encrypted_verifier_hash ≡ drop 16 (fields_for i)
  pub scheme_is : (parses info scheme).fields.scheme ≡ scheme
  pub named : take (length i.name) (drop 44 info) ≡ i.name
  pub verdict : judges (lock_of info i.password scheme) ≡ 0

pub record NewInfo (writes : Writer) (parses : Parser) (judges : Judge) (opens : Opener) (seals : Sealer) : Type 0 where
  -- something comes out exactly where the input is within the limits
  pub accepts : (i : Input) (out : List ℕ) → Typed i → Accepted (writes i out) ↔ Within i (length out)
  -- as demands 1 and 2 ask of the other entries
  pub answers : (i : Input) (out : List ℕ) → Typed i → Answers (rules_for i (length out)) (writes i out).reply.answer
  pub call : (i : Input) (out : List ℕ) → Typed i → Call write_numbers (info_for i) out (writes i out)
  pub size : (i : Input) (out : List ℕ) → Typed i → Accepted (writes i out) → (writes i out).reply.size ≡ 116 + length i.name
  -- everything can be read again, under every scheme
  pub back : (i : Input) (out : List ℕ) → Typed i → Accepted (writes i out) → (scheme : ℕ) → Scheme scheme
      → GivesBack parses judges i (written_part (writes i out)) scheme
  -- and every package, with every filling of an allowed length, seals under it into a stream that opens to that package
  pub opening : (i : Input) (out : List ℕ) → Typed i → Accepted (writes i out) → (scheme : ℕ) → Scheme scheme
      → (p : Pair) → Lawful lengths p → RoundTrip opens seals (lock_of (written_part (writes i out)) i.password scheme) p
