-- A call ends by its answer: what is written on 0, and the out parameter as it was on any other. Assumes nothing.
use mathlib.Core.Path.{◌≡◌, refl, sym, ap, ap₂, ◌∙◌}
use mathlib.Core.List.{List}
use Prim.Native.Nat.{ℕ, zero, suc}
use lib.ListN.{replicate}
use Rattle.std.specs.Prelude.{Result, Ok, Err}
use Rattle.answers.specs.Ended as Ended
use Rattle.answers.specs.Ended.{Reply}
use Rattle.answers.specs.Refusals.{number}
use Rattle.answers.specs.declared.Refusal.{Refusal}
use Rattle.answers.proofs.Refusals.{never_zero}
use Rattle.sha1_digest.specs.Sha1 as Sha1
use Rattle.aes.specs.Aes as Aes
use Rattle.descriptor.specs.Info as Info
use Rattle.descriptor.specs.declared.Descriptor.{Descriptor}
use Rattle.password.specs.Lock.{Lock}
use Rattle.sheet.specs.Sheet as Sheet
use Rattle.stretch.specs.Stretch as Stretch
use Rattle.rescue.specs.Rescue as Rescue
use Rattle.rescue.specs.declared.Counts.{Counts}
use Rattle.rescue.specs.declared.Rescued.{Rescued}
use Rattle.rescue.proofs.Laws.{if_done_lem, if_refused}
use Rattle.writer.specs.Written as Written
use Rattle.crossing.specs.Crossing.{reply_word, sixteen, chosen, descriptor_bytes}
use Rattle.capi.specs.Capi.{Outcome, outcome, outcome_by, value_outcome, hash_outcome, block_outcome, parse_outcome, sheet_outcome, open_outcome, stretch_outcome, seal_outcome, beside, three_numbers, rescue_outcome}

-- a refusal leaves the out parameter as it was
by_number : (n size : ℕ) (value out : List ℕ) → (n ≡ 0 → ⊥) → outcome_by n size value out ≡ outcome (reply_word n 0) out
unfolding outcome_by
by_number zero size value out h = absurd (h refl)
by_number (suc n) size value out h = refl

refused_by : (r : Refusal) (size : ℕ) (value out : List ℕ) → outcome_by (number r) size value out ≡ outcome (reply_word (number r) 0) out
refused_by r size value out = by_number (number r) size value out (never_zero r)

-- a value of fixed length is written where it is given: a hash, a block, a descriptor
module _ (out : List ℕ) where
  pub hash_written : (given : Result (List ℕ) Refusal) (message : List ℕ) → Sha1.hashed_of given ≡ Sha1.hashed message
      → value_outcome given out ≡ hash_outcome message out
  unfolding hash_outcome value_outcome outcome_by
  hash_written (Ok hash) message e = ap (λ (h : Sha1.Hashed). outcome_by h.answer 0 h.bytes out) e
  hash_written (Err r) message e = sym (refused_by r 0 (replicate 20 0) out) ∙ ap (λ (h : Sha1.Hashed). outcome_by h.answer 0 h.bytes out) e

  pub block_written : (given : Result (List ℕ) Refusal) → value_outcome given out ≡ block_outcome (Aes.block_reply given) out
  unfolding block_outcome value_outcome outcome_by
  block_written (Ok block) = refl
  block_written (Err r) = sym (refused_by r 0 (replicate 16 0) out)

  module _ (info : List ℕ) (scheme : ℕ) where
    pub parse_written : (d : Descriptor) → Info.parsed_of (Ok d) ≡ Info.parsed info scheme → outcome (reply_word 0 0) (descriptor_bytes d) ≡ parse_outcome info scheme out
    unfolding parse_outcome outcome_by
    parse_written d e = ap (λ (p : Info.Parsed). outcome_by p.answer 0 (descriptor_bytes p.fields) out) e

    pub parse_refused : (r : Refusal) → Info.parsed_of (Err r) ≡ Info.parsed info scheme → outcome (reply_word (number r) 0) out ≡ parse_outcome info scheme out
    unfolding parse_outcome
    parse_refused r e =
        sym (refused_by r 0 (descriptor_bytes Info.zeroed) out) ∙ ap (λ (p : Info.Parsed). outcome_by p.answer 0 (descriptor_bytes p.fields) out) e

-- opening, sealing and writing write by themselves on answer 0 only, so their reply crosses as it is
abbrev crossed : Ended.Left → Outcome
crossed l = outcome (reply_word l.reply.answer l.reply.size) l.out

sheet_ended : (answer size : ℕ) (content out : List ℕ) → let l = Ended.ended answer size content out in crossed l ≡ sheet_outcome l out
unfolding sheet_outcome outcome_by Ended.ended
sheet_ended zero size content out = refl
sheet_ended (suc n) size content out = refl

-- a new EncryptionInfo likewise
pub write_crossed : (bits : ℕ) (password name salt verifier filling : List ℕ) (w : ℕ) (r : Reply) (old out : List ℕ)
    → w ≡ reply_word r.answer r.size → let l = Written.written bits password name salt verifier filling old in Ended.left r out ≡ l → outcome w out ≡ sheet_outcome l old
unfolding Written.written
write_crossed bits password name salt verifier filling w r old out e l = ap (λ (n : ℕ). outcome n out) e ∙ ap crossed l ∙ sheet_ended _ _ _ old

module _ (lock : Lock) (w : ℕ) (r : Reply) (old out : List ℕ) (e : w ≡ reply_word r.answer r.size) where
  pub open_crossed : (stream : List ℕ) → Ended.left r out ≡ Sheet.opened lock stream old
      → outcome w out ≡ open_outcome lock stream old
  unfolding open_outcome Sheet.opened
  open_crossed stream l = ap (λ (n : ℕ). outcome n out) e ∙ ap crossed l ∙ sheet_ended _ _ _ old

  pub stretch_crossed : (stream : List ℕ) (from to : ℕ) → Ended.left r out ≡ Stretch.stretched lock stream from to old
      → outcome w out ≡ stretch_outcome lock stream from to old
  unfolding stretch_outcome Stretch.stretched
  stretch_crossed stream from to l = ap (λ (n : ℕ). outcome n out) e ∙ ap crossed l ∙ sheet_ended _ _ _ old

  pub seal_crossed : («package» filling : List ℕ) (low high extra : ℕ) → filling ≡ sixteen low high
      → Ended.left r out ≡ Sheet.sealed lock «package» filling (chosen extra) old → outcome w out ≡ seal_outcome lock «package» low high extra old
  unfolding seal_outcome Sheet.sealed
  seal_crossed «package» filling low high extra q l = rw (← q) (ap (λ (n : ℕ). outcome n out) e ∙ ap crossed l ∙ sheet_ended _ _ _ old)

-- what is there of a stream likewise; its counts are written where it gives them
module _ (lock : Lock) (old out was stream : List ℕ) where
  rescue_crossed : (r : Reply) (c : Counts) → Rescue.rescue (Ended.left r out) c ≡ Rescue.rescued lock stream old
      → beside (outcome (reply_word r.answer r.size) out) (Rescue.if_done r.answer (three_numbers c) was) ≡ rescue_outcome lock stream old was
  unfolding rescue_outcome Rescue.rescued
  rescue_crossed r c l =
      ap₂ beside (ap (λ (x : Rescue.Rescue). crossed x.left) l ∙ sheet_ended _ _ _ old)
      (ap (λ (x : Rescue.Rescue). Rescue.if_done x.left.reply.answer (three_numbers x.counts) was) l)

  pub rescue_done : (r : Rescued) → Rescue.rescued_of (Ok r) out ≡ Rescue.rescued lock stream old
      → beside (outcome (reply_word 0 r.size) out) (three_numbers r.counts) ≡ rescue_outcome lock stream old was
  rescue_done r l = ap (beside (outcome (reply_word 0 r.size) out)) (sym (if_done_lem 0 _ was refl)) ∙ rescue_crossed (Ended.reply 0 r.size) r.counts l

  pub rescue_refused : (r : Refusal) → Rescue.rescued_of (Err r) out ≡ Rescue.rescued lock stream old
      → beside (outcome (reply_word (number r) 0) out) was ≡ rescue_outcome lock stream old was
  rescue_refused r l =
      ap (beside (outcome (reply_word (number r) 0) out)) (sym (if_refused (number r) _ was (never_zero r))) ∙ rescue_crossed (Ended.reply (number r) 0) Rescue.none l
