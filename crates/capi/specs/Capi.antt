-- What each outside function returns and leaves, for every input (01, "What the product does" and "The numbered replies"), by the
-- definitions of the crates below and by how values cross. Assumes nothing.
use Rattle.std.specs.Prelude.{Result, Ok, Err, List, [], ◌∷◌, ℕ, zero, suc, get_or}
use Rattle.answers.specs.Ended as Ended
use Rattle.answers.specs.Refusals.{number}
use Rattle.answers.specs.declared.Refusal.{Refusal}
use Rattle.sha1_digest.specs.Sha1 as Sha1
use Rattle.aes.specs.Aes as Aes
use Rattle.aes.specs.Aes.{BlockReply}
use Rattle.descriptor.specs.Info as Info
use Rattle.password.specs.Lock.{Lock}
use Rattle.password.specs.Verdict as Verdict
use Rattle.sheet.specs.Sheet as Sheet
use Rattle.stretch.specs.Stretch as Stretch
use Rattle.rescue.specs.Rescue as Rescue
use Rattle.rescue.specs.declared.Counts.{Counts}
use Rattle.writer.specs.Written as Written
use Rattle.crossing.specs.Crossing.{reply_word, told, sixteen, twelve, bit_count, chosen, descriptor_bytes}

-- ---- what a call leaves

-- the number that it returns, and its out parameter
pub record Outcome : Type 0 where
  pub word : ℕ
  pub out : List ℕ

abbrev pub outcome : ℕ → List ℕ → Outcome
outcome w o = record { word = w; out = o }

-- what its caller has then: the reply that the number tells, and the out parameter
abbrev pub read_back : Outcome → Ended.Left
read_back o = Ended.left (told o.word) o.out

-- by its answer: with 0 the size, and what is written; with any other size 0, and the out parameter as it was
unfoldable pub outcome_by : (answer size : ℕ) (value out : List ℕ) → Outcome
outcome_by zero size value out = outcome (reply_word 0 size) value
outcome_by (suc n) size value out = outcome (reply_word (suc n) 0) out

-- the same for what gives a value of fixed length, or a refusal
unfoldable pub value_outcome : Result (List ℕ) Refusal → List ℕ → Outcome
value_outcome (Ok value) out = outcome (reply_word 0 0) value
value_outcome (Err r) out = outcome (reply_word (number r) 0) out

-- the same for the reply of a block operation, and for what opening, sealing or writing left
unfoldable pub block_outcome : BlockReply → List ℕ → Outcome
block_outcome r out = outcome_by r.answer 0 r.block out

unfoldable pub sheet_outcome : Ended.Left → List ℕ → Outcome
sheet_outcome l out = outcome_by l.reply.answer l.reply.size l.out out

-- ---- what a rescue leaves

-- three numbers beside that: recovered, zeroed and surplus
pub record Beside : Type 0 where
  pub outcome : Outcome
  pub counts : List ℕ

abbrev pub beside : Outcome → List ℕ → Beside
beside o c = record { outcome = o; counts = c }

unfoldable pub three_numbers : Counts → List ℕ
three_numbers c = c.recovered ∷ c.zeroed ∷ c.surplus ∷ []

-- and what its caller has then
abbrev pub counts_in : List ℕ → Counts
counts_in l = record { recovered = get_or l 0 0; zeroed = get_or l 1 0; surplus = get_or l 2 0 }

abbrev pub read_rescue : Beside → Rescue.Rescue
read_rescue b = Rescue.rescue (read_back b.outcome) (counts_in b.counts)

-- ---- the functions

-- `ropeshadow_sha1`
unfoldable pub hash_outcome : (message out : List ℕ) → Outcome
hash_outcome message out = outcome_by (Sha1.hashed message).answer 0 (Sha1.hashed message).bytes out

-- `ropeshadow_aes_encrypt` and `ropeshadow_aes_decrypt`
unfoldable pub encrypt_outcome : (key : List ℕ) (low high : ℕ) (out : List ℕ) → Outcome
encrypt_outcome key low high out = block_outcome (Aes.encrypted key (sixteen low high)) out

unfoldable pub decrypt_outcome : (key : List ℕ) (low high : ℕ) (out : List ℕ) → Outcome
decrypt_outcome key low high out = block_outcome (Aes.decrypted key (sixteen low high)) out

-- `ropeshadow_parse`
unfoldable pub parse_outcome : (info : List ℕ) (scheme : ℕ) (out : List ℕ) → Outcome
parse_outcome info scheme out = outcome_by (Info.parsed info scheme).answer 0 (descriptor_bytes (Info.parsed info scheme).fields) out

-- `ropeshadow_verdict`
unfoldable pub verdict_word : (lock : Lock) → ℕ
verdict_word lock = reply_word (Verdict.judged lock) 0

-- `ropeshadow_open`
unfoldable pub open_outcome : (lock : Lock) (stream out : List ℕ) → Outcome
open_outcome lock stream out = sheet_outcome (Sheet.opened lock stream out) out

-- `ropeshadow_stretch`
unfoldable pub stretch_outcome : (lock : Lock) (stream : List ℕ) (from to : ℕ) (out : List ℕ) → Outcome
stretch_outcome lock stream from to out = sheet_outcome (Stretch.stretched lock stream from to out) out

-- `ropeshadow_rescue`, and the counts in three numbers, or on a refusal those that were there
unfoldable pub rescue_outcome : (lock : Lock) (stream out counts : List ℕ) → Beside
rescue_outcome lock stream out counts =
    let r : Rescue.Rescue = Rescue.rescued lock stream out in
    beside (sheet_outcome r.left out) (Rescue.if_done r.left.reply.answer (three_numbers r.counts) counts)

-- `ropeshadow_seal`, the filling in two numbers, the choice of an extra block in one
unfoldable pub seal_outcome : (lock : Lock) («package» : List ℕ) (low high extra : ℕ) (out : List ℕ) → Outcome
seal_outcome lock «package» low high extra out = sheet_outcome (Sheet.sealed lock «package» (sixteen low high) (chosen extra) out) out

-- `ropeshadow_write_info`, salt, verifier and filling in two numbers each
unfoldable pub write_outcome : (bits : ℕ) (password name : List ℕ) (salt_low salt_high verifier_low verifier_high filling_low filling_high : ℕ) (out : List ℕ) → Outcome
write_outcome bits password name salt_low salt_high verifier_low verifier_high filling_low filling_high out =
    sheet_outcome (Written.written (bit_count bits).0 password name (sixteen salt_low salt_high) (sixteen verifier_low verifier_high) (twelve filling_low filling_high) out)
    out
