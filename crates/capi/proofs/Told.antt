-- What C reads from the number and the out parameter is what the call gave: nothing is lost where they cross. Assumes nothing.
use mathlib.Core.Path.{◌≡◌, refl, ap, ap₂, ◌∙◌}
use mathlib.Core.Bool.{Bool, true, false, cond}
use mathlib.Core.List.{List, [], ◌∷◌, ◌++◌}
use Prim.Native.Nat.{ℕ, zero, suc, ◌-◌, ◌<◌}
use native.Mathlib.Omega.{arith}
use lib.ListN.{length, replicate}
use Rattle.answers.specs.Ended as Ended
use Rattle.answers.specs.Ended.{Reply}
use Rattle.sha1_digest.specs.Sha1 as Sha1
use Rattle.aes.specs.Aes as Aes
use Rattle.descriptor.specs.Info as Info
use Rattle.descriptor.proofs.Laws.{Parses, parse_numbers_lem, parsed_answer, parsed_fields}
use Rattle.password.specs.Lock.{Lock}
use Rattle.password.specs.Verdict as Verdict
use Rattle.password.proofs.Laws.{verdict_numbers_lem}
use Rattle.sheet.specs.Sheet as Sheet
use Rattle.sheet.proofs.Laws.{open_numbers_lem, seal_numbers_lem}
use Rattle.stretch.specs.Stretch as Stretch
use Rattle.stretch.proofs.Laws.{stretch_numbers_lem}
use Rattle.rescue.specs.Rescue as Rescue
use Rattle.rescue.specs.declared.Counts.{Counts}
use Rattle.rescue.proofs.Laws.{rescue_numbers_lem, if_refused}
use Rattle.writer.specs.Written as Written
use Rattle.writer.proofs.Laws.{write_numbers_lem}
use Rattle.crossing.specs.Crossing.{told, sixteen, twelve, bit_count, chosen}
use Rattle.crossing.proofs.Bounds.{small, described_fits}
use Rattle.crossing.proofs.Lossless.{word_told, Shows, bytes_show}
use Rattle.capi.specs.Capi as Capi

-- ---- a value of fixed length: the word tells the answer and no size

value_told : (answer : ℕ) (value out : List ℕ) → answer < 65536 → told (Capi.outcome_by answer 0 value out).word ≡ Ended.reply answer 0
unfolding Capi.outcome_by
value_told zero value out h = word_told 0 0 h
value_told (suc n) value out h = word_told (suc n) 0 h

pub hash_told : (message out : List ℕ) → told (Capi.hash_outcome message out).word ≡ Ended.reply (Sha1.hashed message).answer 0
unfolding Capi.hash_outcome Sha1.hashed Sha1.hash_rules
hash_told message out = value_told _ _ out (small (Sha1.hash_rules message) (omega arith))

-- a block operation answers 0 or 8
block_told : (b : Bool) (s out : List ℕ) → let r = cond b (Aes.done_block s) Aes.refused_block in told (Capi.block_outcome r out).word ≡ Ended.reply r.answer 0
unfolding Capi.block_outcome Aes.done_block Aes.refused_block
block_told true s out = value_told 0 s out (omega arith)
block_told false s out = value_told 8 _ out (omega arith)

module _ (key : List ℕ) (low high : ℕ) (out : List ℕ) where
  pub encrypt_told : told (Capi.encrypt_outcome key low high out).word ≡ Ended.reply (Aes.encrypted key (sixteen low high)).answer 0
  unfolding Capi.encrypt_outcome Aes.encrypted
  encrypt_told = block_told (Aes.key_length (length key)) _ out

  pub decrypt_told : told (Capi.decrypt_outcome key low high out).word ≡ Ended.reply (Aes.decrypted key (sixteen low high)).answer 0
  unfolding Capi.decrypt_outcome Aes.decrypted
  decrypt_told = block_told (Aes.key_length (length key)) _ out

pub parse_told : (info : List ℕ) (scheme : ℕ) (out : List ℕ) → told (Capi.parse_outcome info scheme out).word ≡ Ended.reply (Info.parsed info scheme).answer 0
unfolding Capi.parse_outcome Info.parsed
parse_told info scheme out = value_told _ _ out (small (Info.parse_rules info scheme) (rw (parse_numbers_lem info scheme) (omega arith)))

pub verdict_told : (lock : Lock) → told (Capi.verdict_word lock) ≡ Ended.reply (Verdict.judged lock) 0
unfolding Capi.verdict_word Verdict.judged
verdict_told lock = word_told _ 0 (small (Verdict.verdict_rules lock) (rw (verdict_numbers_lem lock) (omega arith)))

-- ---- opening, sealing and writing: what C has is what the call left

sheet_told : (answer size : ℕ) (content out : List ℕ) → answer < 65536
    → let l = Ended.ended answer size content out in Capi.read_back (Capi.sheet_outcome l out) ≡ l
unfolding Capi.sheet_outcome Capi.outcome_by Ended.ended
sheet_told zero size content out h = ap (λ (r : Reply). Ended.left r (content ++ replicate (length out - size) 0)) (word_told 0 size h)
sheet_told (suc n) size content out h = ap (λ (r : Reply). Ended.left r out) (word_told (suc n) 0 h)

-- three numbers tell the counts
counts_told : (answer : ℕ) (c : Counts) (counts : List ℕ)
    → Capi.counts_in (Rescue.if_done answer (Capi.three_numbers c) counts) ≡ Rescue.if_done answer c (Capi.counts_in counts)
unfolding Rescue.if_done Capi.three_numbers
counts_told zero c counts = refl
counts_told (suc n) c counts = refl

-- and are told by them
pub three_again : (l : List ℕ) → length l ≡ 3 → l ≡ Capi.three_numbers (Capi.counts_in l)
unfolding Capi.three_numbers
three_again [] h = absurd (omega (arith, h))
three_again (a ∷ []) h = absurd (omega (arith, h))
three_again (a ∷ b ∷ []) h = absurd (omega (arith, h))
three_again (a ∷ b ∷ c ∷ []) h = refl
three_again (a ∷ b ∷ c ∷ d ∷ l) h = absurd (omega (arith, h))

length_three : (answer : ℕ) (c : Counts) (counts : List ℕ) → length counts ≡ 3 → length (Rescue.if_done answer (Capi.three_numbers c) counts) ≡ 3
unfolding Rescue.if_done Capi.three_numbers
length_three zero c counts h = refl
length_three (suc n) c counts h = h

module _ (lock : Lock) where
  pub open_told : (stream out : List ℕ) → Capi.read_back (Capi.open_outcome lock stream out) ≡ Sheet.opened lock stream out
  unfolding Capi.open_outcome Sheet.opened
  open_told stream out = sheet_told _ _ _ out (small (Sheet.open_rules lock stream (length out)) (rw (open_numbers_lem lock stream out) (omega arith)))

  pub stretch_told : (stream : List ℕ) (from to : ℕ) (out : List ℕ)
      → Capi.read_back (Capi.stretch_outcome lock stream from to out) ≡ Stretch.stretched lock stream from to out
  unfolding Capi.stretch_outcome Stretch.stretched
  stretch_told stream from to out =
      sheet_told _ _ _ out (small (Stretch.stretch_rules lock stream from to (length out)) (rw (stretch_numbers_lem lock stream from to out) (omega arith)))

  -- on a refusal the counts are those that were there
  pub rescue_told : (stream out counts : List ℕ) → let r = Rescue.rescued lock stream out in
      Capi.read_rescue (Capi.rescue_outcome lock stream out counts) ≡ Rescue.rescue r.left (Rescue.if_done r.left.reply.answer r.counts (Capi.counts_in counts))
  unfolding Capi.rescue_outcome Rescue.rescued
  rescue_told stream out counts =
      ap₂ Rescue.rescue (sheet_told _ _ _ out (small (Rescue.rescue_rules lock stream (length out)) (rw (rescue_numbers_lem lock stream out) (omega arith))))
      (counts_told _ _ counts)

  pub counts_kept : (stream out counts : List ℕ) → ((Rescue.rescued lock stream out).left.reply.answer ≡ 0 → ⊥)
      → (Capi.rescue_outcome lock stream out counts).counts ≡ counts
  unfolding Capi.rescue_outcome
  counts_kept stream out counts h = if_refused _ _ counts h

  pub three_numbers_lem : (stream out counts : List ℕ) → length counts ≡ 3 → length (Capi.rescue_outcome lock stream out counts).counts ≡ 3
  unfolding Capi.rescue_outcome
  three_numbers_lem stream out counts h = length_three _ _ counts h

  pub seal_told : («package» : List ℕ) (low high extra : ℕ) (out : List ℕ)
      → Capi.read_back (Capi.seal_outcome lock «package» low high extra out)
      ≡ Sheet.sealed lock «package» (sixteen low high) (chosen extra) out
  unfolding Capi.seal_outcome Sheet.sealed
  seal_told «package» low high extra out =
      sheet_told _ _ _ out
      (small (Sheet.seal_rules lock (chosen extra) (length «package») (length out))
      (rw (seal_numbers_lem lock «package» (sixteen low high) (chosen extra) out) (omega arith)))

pub write_told : (bits : ℕ) (password name : List ℕ) (salt_low salt_high verifier_low verifier_high filling_low filling_high : ℕ) (out : List ℕ)
    → Capi.read_back (Capi.write_outcome bits password name salt_low salt_high verifier_low verifier_high filling_low filling_high out)
    ≡ Written.written (bit_count bits).0 password name (sixteen salt_low salt_high) (sixteen verifier_low verifier_high)
    (twelve filling_low filling_high) out
unfolding Capi.write_outcome Written.written
write_told bits password name salt_low salt_high verifier_low verifier_high filling_low filling_high out =
    sheet_told _ _ _ out
    (small (Written.write_rules (bit_count bits).0 password (length name) (length out))
    (rw (write_numbers_lem (bit_count bits).0 password (length name) (length out)) (omega arith)))

-- what an accepted parse leaves shows the descriptor
pub parse_shows : (info : List ℕ) (scheme : ℕ) (out : List ℕ) → Parses info scheme → Shows (Capi.parse_outcome info scheme out).out (Info.described info scheme)
unfolding Capi.parse_outcome Capi.outcome_by
parse_shows info scheme out h =
    rw (parsed_answer info scheme ∙ h, parsed_fields info scheme h) (bytes_show (Info.described info scheme) (described_fits info scheme h))
