-- Demand 2. A descriptor, a verdict, an opened package and a sealed stream are exactly what the published Standard encryption gives, and
-- each comes out exactly where no rule of the fixed order objects. The rules are lists put end to end: `parse_rules` (1 to 10, then 19),
-- `verdict_rules` (then 11 and 12), `open_rules` (then 13 to 16) and `seal_rules` (then 14 and 16). Assumes nothing.
use Rattle.std.specs.Prelude.{◌≡◌, ◌↔◌, Bool, cond, List, ◌++◌, ℕ, ◌+◌, ◌-◌, ◌≤◌, eqb, length, take, drop, replicate}
use Rattle.octets.specs.Octets.{le_at, le_bytes}
use Rattle.answers.specs.Rules.{AllHold}
use Rattle.answers.specs.Ended.{Left, left, reply}
use Rattle.sha1_digest.specs.Sha1.{sha1}
use Rattle.aes.specs.Aes.{encryption, decryption}
use Rattle.steps.specs.Steps.{Step, open_all, seal_all}
use Rattle.steps.specs.Ecb.{ecb}
use Rattle.steps.specs.Chained.{chained}
use Rattle.segments.specs.Start.{start_of}
use Rattle.blocks.specs.Blocks.{xored}
use Rattle.descriptor.specs.Info.{salt_of, info_rules, parse_rules, described, encrypted_verifier, encrypted_verifier_hash}
use Rattle.password.specs.Verdict.{verdict_rules}
use Rattle.password.specs.Lock.{Lock}
use Rattle.lengths.specs.Lengths.{filling_for}
use Rattle.sheet.specs.Sheet.{open_rules, seal_rules}
use Rattle.promises.specs.Words.{Parser, Judge, Opener, Sealer, Scheme, Answers, published_key}

-- ---- what the published scheme gives

-- AES in ECB mode under a key (000 section 7)
abbrev pub block_by_block : (key : List ℕ) → Step
block_by_block key = ecb (encryption key) (decryption key)

-- AES chained in segments of a package of that size under a key, which start from vectors of the salt (001, 003)
abbrev pub in_segments : (key salt : List ℕ) (size : ℕ) → Step
in_segments key salt size = chained (encryption key) (decryption key) xored (start_of salt) size

-- the one that the scheme names, under the published key and the salt of EncryptionInfo
abbrev pub published_step : (lock : Lock) (size : ℕ) → Step
published_step lock size =
    cond (eqb lock.scheme 2) (in_segments (published_key lock) (salt_of lock.info) size) (block_by_block (published_key lock))

-- the two encrypted fields, decrypted block by block: the hash of the first 16 bytes is the 20 after them
abbrev pub Matches : (info key : List ℕ) → Type 0
Matches info key =
    let plain : List ℕ = open_all (block_by_block key) (encrypted_verifier info ++ encrypted_verifier_hash info) in
    sha1 (take 16 plain) ≡ take 20 (drop 16 plain)

-- the descriptor is admitted, the scheme is known, and the password, not too long, matches the verifier
abbrev pub Accepts : (lock : Lock) → Type 0
Accepts lock = AllHold (info_rules lock.info) × Scheme lock.scheme × (length lock.password ≤ 255) × Matches lock.info (published_key lock)

-- the package is the stream after its first eight bytes, decrypted and cut to the size that all eight tell
abbrev pub published_package : (lock : Lock) (stream out : List ℕ) → Left
published_package lock stream out =
    let size : ℕ = le_at 8 0 stream in
    let plain : List ℕ = open_all (published_step lock size) (drop 8 stream) in
    left (reply 0 size) (take size plain ++ replicate (length out - size) 0)

-- the sealed stream is the size in eight bytes, then package and filling encrypted
abbrev pub published_stream : (lock : Lock) («package» filling : List ℕ) (extra : Bool) (out : List ℕ) → Left
published_stream lock «package» filling extra out =
    let count : ℕ = filling_for extra (length «package») in
    let size : ℕ = 8 + (length «package» + count) in
    let stream : List ℕ = le_bytes 8 (length «package») ++ seal_all (published_step lock (length «package»)) («package» ++ take count filling) in
    left (reply 0 size) (stream ++ replicate (length out - size) 0)

-- ---- the demand

pub record Demand2 (parses : Parser) (judges : Judge) (opens : Opener) (seals : Sealer) : Type 0 where
  -- each answer is by the rules, so that something comes out exactly where none is broken
  pub parse_answer : (info : List ℕ) (scheme : ℕ) → Answers (parse_rules info scheme) (parses info scheme).answer
  pub verdict_answer : (lock : Lock) → Answers (verdict_rules lock) (judges lock)
  pub open_answer : (lock : Lock) (stream out : List ℕ)
      → Answers (open_rules lock stream (length out)) (opens lock stream out).reply.answer
  pub seal_answer : (lock : Lock) («package» filling : List ℕ) (extra : Bool) (out : List ℕ) → length filling ≡ 16
      → Answers (seal_rules lock extra (length «package») (length out)) (seals lock «package» filling extra out).reply.answer
  -- the descriptor is what the stream says, with the scheme
  pub descriptor : (info : List ℕ) (scheme : ℕ) → AllHold (parse_rules info scheme) → (parses info scheme).fields ≡ described info scheme
  pub verdict : (lock : Lock) → (judges lock ≡ 0) ↔ Accepts lock
  pub opening : (lock : Lock) (stream out : List ℕ) → AllHold (open_rules lock stream (length out))
      → opens lock stream out ≡ published_package lock stream out
  pub sealing : (lock : Lock) («package» filling : List ℕ) (extra : Bool) (out : List ℕ) → length filling ≡ 16
      → AllHold (seal_rules lock extra (length «package») (length out))
      → seals lock «package» filling extra out ≡ published_stream lock «package» filling extra out
