-- The demands about one call: all that came in, and all that this call gave or left. The contracts of src/ are these records, so they
-- speak of what the entries really do; who keeps them for every input keeps demands 1 and 2 (proofs/Calls.antt). Assumes nothing.
use Rattle.std.specs.Prelude.{◌≡◌, ◌↔◌, Bool, true, List, ◌++◌, ℕ, ◌+◌, ◌-◌, ◌≤◌, length, take, replicate}
use Rattle.std.proofs.Math.Seq.{slice}
use Rattle.answers.specs.Rules.{AllHold}
use Rattle.answers.specs.Ended.{Left, left, gives}
use Rattle.answers.specs.Ended.{Reply}
use Rattle.sha1_digest.specs.Sha1.{sha1, hash_rules}
use Rattle.sha1_digest.specs.Sha1.{Hashed}
use Rattle.aes.specs.Aes.{key_length}
use Rattle.aes.specs.Aes as Aes
use Rattle.descriptor.specs.Info.{parse_rules, described}
use Rattle.descriptor.specs.Info.{Parsed}
use Rattle.password.specs.Verdict.{verdict_rules}
use Rattle.password.specs.Lock.{Lock}
use Rattle.lengths.specs.Lengths.{stream_size, filling_for}
use Rattle.sheet.specs.Sheet.{open_rules, seal_rules, package_of, filled_with, sealing_of, opened, sealed}
use Rattle.stretch.specs.Stretch.{stretch_rules}
use Rattle.rescue.specs.Rescue.{Rescue, rescue, rescue_rules, remains}
use Rattle.rescue.specs.declared.Counts.{Counts}
use Rattle.crossing.specs.Crossing.{descriptor_bytes}
use Rattle.files.specs.Files.{File, file_lock, rules}
use Rattle.promises.specs.Words.{Scheme, Accepted, Answers, written_part}
use Rattle.promises.specs.Demand1.{OnOutput, Untouched, Call, Parse, Verdict, parse_numbers, open_numbers, seal_numbers}
use Rattle.promises.specs.Demand2.{Accepts, published_package, published_stream}
use Rattle.promises.specs.Demand3.{Begins, Only}
use Rattle.promises.specs.NewInfo.{Input, Within, rules_for, info_for, write_numbers, GivesBack}
use Rattle.promises.specs.Stretch.{stretch_numbers, PartOf}
use Rattle.promises.specs.Rescue.{rescue_numbers, AsOpening, all_of, recovered_part, Accounts, surplus_aside}
use Rattle.promises.specs.EveryCall.{Hash, Block, hash_numbers, block_numbers, file_numbers}

-- ---- one call of an entry

pub record Hashing (message : List ℕ) (h : Hashed) : Type 0 where
  pub ends : Hash h
  pub answers : Answers (hash_rules message) h.answer
  pub published : AllHold (hash_rules message) → h.bytes ≡ sha1 message

-- a block under a key, by encryption or decryption
pub record Enciphering (cipher : (key block : List ℕ) → List ℕ) (key block : List ℕ) (r : Aes.BlockReply) : Type 0 where
  pub ends : Block r
  pub accepts : (r.answer ≡ 0) ↔ (key_length (length key) ≡ true)
  pub published : r.answer ≡ 0 → r.block ≡ cipher key block

pub record Parsing (info : List ℕ) (scheme : ℕ) (p : Parsed) : Type 0 where
  pub ends : Parse p
  pub answers : Answers (parse_rules info scheme) p.answer
  pub published : AllHold (parse_rules info scheme) → p.fields ≡ described info scheme

pub record Judging (lock : Lock) (n : ℕ) : Type 0 where
  pub ends : Verdict n
  pub answers : Answers (verdict_rules lock) n
  pub published : (n ≡ 0) ↔ Accepts lock

pub record Opening (lock : Lock) (stream out : List ℕ) (l : Left) : Type 0 where
  pub call : Call open_numbers (package_of lock stream) out l
  pub answers : Answers (open_rules lock stream (length out)) l.reply.answer
  pub published : AllHold (open_rules lock stream (length out)) → l ≡ published_package lock stream out

-- a stretch beside an opening of the same stream into any output
pub record Stretching (lock : Lock) (stream : List ℕ) (from to : ℕ) (out : List ℕ) (l : Left) : Type 0 where
  pub call : Call stretch_numbers (slice from to (package_of lock stream)) out l
  pub answers : Answers (stretch_rules lock stream from to (length out)) l.reply.answer
  pub part_of : (whole : List ℕ) → PartOf (opened lock stream whole) from to out l

-- a rescue beside an opening of the same stream, and of any complete one that begins with it; `unset` is what the counts are on a refusal
pub record Rescuing (lock : Lock) (stream out : List ℕ) (unset : Counts) (r : Rescue) : Type 0 where
  pub call : Call rescue_numbers (remains lock stream) out r.left
  pub uncounted : (Accepted r.left → ⊥) → r.counts ≡ unset
  pub answers : Answers (rescue_rules lock stream (length out)) r.left.reply.answer
  pub as_opening : AsOpening (opened lock stream out) (stream_size stream) out r.left
  pub begins : (rest whole : List ℕ) → Accepted r.left → let l = opened lock (surplus_aside stream r ++ rest) whole in
      Accepted l → recovered_part r ≡ take r.counts.recovered (written_part l)
  pub of_whole : Accepted (opened lock stream out) → r ≡ rescue (opened lock stream out) (all_of (opened lock stream out).reply.size)
  pub accounts : Accepted r.left → Accounts stream out r

pub record Sealing (lock : Lock) («package» filling : List ℕ) (extra : Bool) (out : List ℕ) (l : Left) : Type 0 where
  pub call : Call seal_numbers (sealing_of lock (filled_with «package» filling extra)) out l
  pub answers : Answers (seal_rules lock extra (length «package») (length out)) l.reply.answer
  pub published : AllHold (seal_rules lock extra (length «package») (length out)) → l ≡ published_stream lock «package» filling extra out

-- what comes in to the writer
abbrev pub input : (bits : ℕ) (password name salt verifier filling : List ℕ) → Input
input bits password name salt verifier filling =
    record { bits = bits; password = password; name = name; salt = salt; verifier = verifier; filling = filling }

pub record Writing (i : Input) (out : List ℕ) (l : Left) : Type 0 where
  pub accepts : Accepted l ↔ Within i (length out)
  pub answers : Answers (rules_for i (length out)) l.reply.answer
  pub call : Call write_numbers (info_for i) out l
  pub size : Accepted l → l.reply.size ≡ 116 + length i.name

-- the program's three files, opened
pub record FilesOpening (info password stream : File) (out : List ℕ) (l : Left) : Type 0 where
  pub call : Call file_numbers (package_of (file_lock info password) stream.bytes) out l
  pub answers : Answers (rules info password stream (length out)) l.reply.answer

-- ---- one call from C, with the reply that its number tells; one that opens, seals or writes is as above

-- an out parameter of fixed length: there is no size, and on answer 0 it is the value
pub record Value (numbers value out : List ℕ) (l : Left) : Type 0 where
  pub ends : OnOutput numbers out l
  pub sizeless : l.reply.size ≡ 0
  pub accepted : Accepted l → l.out ≡ value

pub record HashOut (message out : List ℕ) (l : Left) : Type 0 where
  pub value : Value hash_numbers (sha1 message) out l
  pub answers : Answers (hash_rules message) l.reply.answer

pub record BlockOut (cipher : (key block : List ℕ) → List ℕ) (key block out : List ℕ) (l : Left) : Type 0 where
  pub value : Value block_numbers (cipher key block) out l
  pub accepts : Accepted l ↔ (key_length (length key) ≡ true)

pub record DescriptorOut (info : List ℕ) (scheme : ℕ) (out : List ℕ) (l : Left) : Type 0 where
  pub value : Value parse_numbers (descriptor_bytes (described info scheme)) out l
  pub answers : Answers (parse_rules info scheme) l.reply.answer

pub record VerdictOut (lock : Lock) (r : Reply) : Type 0 where
  pub judged : Judging lock r.answer
  pub sizeless : r.size ≡ 0

-- ---- two calls, one after the other

-- what it takes to seal a package into one output and to open it from there into another
pub record Roomy (lock : Lock) («package» : List ℕ) (extra : Bool) (stream out : List ℕ) : Type 0 where
  pub accepts : Accepts lock
  pub limited : length «package» ≤ 268435456
  pub seals : 8 + (length «package» + filling_for extra (length «package»)) ≤ length stream
  pub opens : length «package» ≤ length out

-- demand 3 (a): a package sealed into one output and opened from there into another, which is left so. Where there is room for both, and
-- the password is accepted, the second output holds the package that went in, and zeros
pub record Returned (lock : Lock) («package» : List ℕ) (extra : Bool) (stream out : List ℕ) (l : Left) : Type 0 where
  pub call : Call open_numbers «package» out l
  pub accepted : Accepted l ↔ Roomy lock «package» extra stream out

-- demand 3 (c): a stream that opens into an output, left as `now`, is the sealing of exactly one pair; its package sealed anew gives the
-- stream exactly where there is room, and the value and the choice are those of the pair's filling
pub record Again (lock : Lock) (stream filling : List ℕ) (extra : Bool) (out now again : List ℕ) (l : Left) : Type 0 where
  pub «package» : List ℕ
  pub came_out : now ≡ «package» ++ replicate (length out - length «package») 0
  pub only : Only sealed lock stream «package»
  pub anew : (l ≡ gives stream again) ↔ (Begins only.it filling extra × (length stream ≤ length again))

pub record Resealed (lock : Lock) (stream filling : List ℕ) (extra : Bool) (out now again : List ℕ) (l : Left) : Type 0 where
  pub opened : AllHold (open_rules lock stream (length out)) → Again lock stream filling extra out now again l
  pub refused : (AllHold (open_rules lock stream (length out)) → ⊥) → Untouched out (left l.reply now) × Untouched again l

-- an EncryptionInfo that was written, then parsed, and judged with its password, both under a scheme
pub record Reading (i : Input) (scheme : ℕ) (out : List ℕ) (l : Left) (p : Parsed) (n : ℕ) : Type 0 where
  pub wrote : Writing i out l
  pub back : Accepted l → Scheme scheme → GivesBack (λ _ _. p) (λ _. n) i (written_part l) scheme
