-- What a C function returns and leaves keeps the demands on the call that it makes: its number loses nothing, and a refusal leaves the out
-- parameter. Assumes nothing.
use mathlib.Core.Path.{◌≡◌, refl, ap, subst⁻¹}
use mathlib.Core.Logic.{◌↔◌}
use mathlib.Core.Bool.{true}
use mathlib.Core.List.{List, ◌∷◌}
use Prim.Native.Nat.{ℕ, zero, suc}
use native.Mathlib.Omega.{arith}
use lib.ListN.{length}
use Rattle.answers.specs.Rules.{OneOf}
use Rattle.answers.specs.Ended.{Left, left, reply}
use Rattle.answers.specs.Ended.{Reply}
use Rattle.sha1_digest.specs.Sha1.{sha1, hash_rules, hashed}
use Rattle.aes.specs.Aes.{key_length, encryption, decryption, encrypted, decrypted}
use Rattle.aes.specs.Aes as Aes
use Rattle.descriptor.specs.Info.{parse_rules, described, parsed}
use Rattle.password.specs.Lock.{Lock}
use Rattle.rescue.specs.Rescue.{Rescue, rescue, if_done, rescued}
use Rattle.rescue.proofs.Laws.{if_done_lem, if_refused}
use Rattle.crossing.specs.Crossing.{told, sixteen, twelve, bit_count, chosen, descriptor_bytes}
use Rattle.crossing.proofs.Lossless.{length_sixteen, length_twelve}
use Rattle.capi.specs.Capi as Capi
use Rattle.capi.proofs.Told.{hash_told, encrypt_told, decrypt_told, parse_told, verdict_told, open_told, stretch_told, rescue_told, seal_told, write_told}
use Rattle.promises.specs.Words.{Answers}
use Rattle.promises.specs.Demand1.{parse_numbers}
use Rattle.promises.proofs.NewInfo.{writes}
use Rattle.promises.specs.EveryCall.{hash_numbers, block_numbers}
use Rattle.promises.specs.Calls.{Enciphering, Opening, Stretching, Rescuing, Sealing, Writing, Value, HashOut, BlockOut, DescriptorOut, VerdictOut, input}
use Rattle.promises.proofs.Calls.{hashing, encrypting, decrypting, parsing, judging, opening, stretching, rescuing_with, sealing, writing}

-- what is so of the outcome that a function ensures is so of what its caller has
pub carried : (P : Left → Type 0) {w : ℕ} {now : List ℕ} {o : Capi.Outcome} → Capi.outcome w now ≡ o → P (Capi.read_back o) → P (left (told w) now)
carried P e p = subst⁻¹ (λ (o : Capi.Outcome). P (Capi.read_back o)) e p

pub carried_counts : (P : Rescue → Type 0) {w : ℕ} {now counts : List ℕ} {b : Capi.Beside} → Capi.beside (Capi.outcome w now) counts ≡ b
    → P (Capi.read_rescue b) → P (rescue (left (told w) now) (Capi.counts_in counts))
carried_counts P e p = subst⁻¹ (λ (b : Capi.Beside). P (Capi.read_rescue b)) e p

-- ---- an out parameter of fixed length

-- it is written on answer 0 alone, with what is the value then
valued : (numbers : List ℕ) (n : ℕ) (bytes value out : List ℕ) → OneOf (0 ∷ numbers) n → (n ≡ 0 → bytes ≡ value)
    → told (Capi.outcome_by n 0 bytes out).word ≡ reply n 0 → Value numbers value out (Capi.read_back (Capi.outcome_by n 0 bytes out))
unfolding Capi.outcome_by
valued numbers zero bytes value out o e t =
    subst⁻¹ (λ (r : Reply). Value numbers value out (left r bytes)) t
    (record { ends = record { answer = o; refused = λ h. absurd (h refl) }; sizeless = refl; accepted = λ h. e refl })
valued numbers (suc n) bytes value out o e t =
    subst⁻¹ (λ (r : Reply). Value numbers value out (left r out)) t
    (record { ends = record { answer = o; refused = λ h. record { none = refl; same = refl } }; sizeless = refl; accepted = λ h. absurd (omega arith) })

pub hash_out : (message out : List ℕ) → HashOut message out (Capi.read_back (Capi.hash_outcome message out))
unfolding Capi.hash_outcome
hash_out message out =
    let k = hashing message in
    record {
      value = valued hash_numbers (hashed message).answer (hashed message).bytes (sha1 message) out k.ends.answer (λ z. k.published (k.answers.none.0 z))
          (hash_told message out);
      answers = subst⁻¹ (λ (r : Reply). Answers (hash_rules message) r.answer) (hash_told message out) k.answers;
    }

block_out : (cipher : (key block : List ℕ) → List ℕ) (key block out : List ℕ) (r : Aes.BlockReply) → Enciphering cipher key block r
    → told (Capi.block_outcome r out).word ≡ reply r.answer 0 → BlockOut cipher key block out (Capi.read_back (Capi.block_outcome r out))
unfolding Capi.block_outcome
block_out cipher key block out r k t =
    record {
      value = valued block_numbers r.answer r.block (cipher key block) out k.ends.answer k.published t;
      accepts = subst⁻¹ (λ (x : Reply). (x.answer ≡ 0) ↔ (key_length (length key) ≡ true)) t k.accepts;
    }

module _ (key : List ℕ) (low high : ℕ) (out : List ℕ) where
  pub encrypt_out : BlockOut encryption key (sixteen low high) out (Capi.read_back (Capi.encrypt_outcome key low high out))
  unfolding Capi.encrypt_outcome
  encrypt_out = block_out encryption key _ out (encrypted key (sixteen low high)) (encrypting key _) (encrypt_told key low high out)

  pub decrypt_out : BlockOut decryption key (sixteen low high) out (Capi.read_back (Capi.decrypt_outcome key low high out))
  unfolding Capi.decrypt_outcome
  decrypt_out = block_out decryption key _ out (decrypted key (sixteen low high)) (decrypting key _) (decrypt_told key low high out)

pub descriptor_out : (info : List ℕ) (scheme : ℕ) (out : List ℕ) → DescriptorOut info scheme out (Capi.read_back (Capi.parse_outcome info scheme out))
unfolding Capi.parse_outcome
descriptor_out info scheme out =
    let k = parsing info scheme in
    record {
      value = valued parse_numbers (parsed info scheme).answer _ (descriptor_bytes (described info scheme)) out k.ends.answer
          (λ z. ap descriptor_bytes (k.published (k.answers.none.0 z))) (parse_told info scheme out);
      answers = subst⁻¹ (λ (r : Reply). Answers (parse_rules info scheme) r.answer) (parse_told info scheme out) k.answers;
    }

module _ (lock : Lock) where
  pub verdict_out : VerdictOut lock (told (Capi.verdict_word lock))
  verdict_out = subst⁻¹ (VerdictOut lock) (verdict_told lock) (record { judged = judging lock; sizeless = refl })

  -- ---- a lent output

  pub open_out : (stream out : List ℕ) → Opening lock stream out (Capi.read_back (Capi.open_outcome lock stream out))
  open_out s out = subst⁻¹ (Opening lock s out) (open_told lock s out) (opening lock s out)

  pub stretch_out : (stream : List ℕ) (from to : ℕ) (out : List ℕ)
      → Stretching lock stream from to out (Capi.read_back (Capi.stretch_outcome lock stream from to out))
  stretch_out s from to out = subst⁻¹ (Stretching lock s from to out) (stretch_told lock s from to out) (stretching lock s from to out)

  -- and three numbers: on a refusal those that were there
  pub rescue_out : (stream out counts : List ℕ) → Rescuing lock stream out (Capi.counts_in counts) (Capi.read_rescue (Capi.rescue_outcome lock stream out counts))
  rescue_out s out counts =
      let r : Rescue = rescued lock s out in
      let n : ℕ = r.left.reply.answer in
      subst⁻¹ (Rescuing lock s out (Capi.counts_in counts)) (rescue_told lock s out counts)
      (rescuing_with lock s out (Capi.counts_in counts) (rescue r.left (if_done n r.counts (Capi.counts_in counts))) refl
      (λ z. ap (rescue r.left) (if_done_lem n r.counts (Capi.counts_in counts) z)) (λ h. if_refused n r.counts (Capi.counts_in counts) h))

  pub seal_out : («package» : List ℕ) (low high extra : ℕ) (out : List ℕ)
      → Sealing lock «package» (sixteen low high) (chosen extra) out (Capi.read_back (Capi.seal_outcome lock «package» low high extra out))
  seal_out «package» low high extra out =
      subst⁻¹ (Sealing lock «package» _ _ out) (seal_told lock «package» low high extra out)
      (sealing lock «package» _ _ out (length_sixteen low high))

pub write_out : (bits : ℕ) (password name : List ℕ) (salt_low salt_high verifier_low verifier_high filling_low filling_high : ℕ) (out : List ℕ)
    → let salt = sixteen salt_low salt_high in
    let verifier = sixteen verifier_low verifier_high in
    let filling = twelve filling_low filling_high in
    Writing (input (bit_count bits).0 password name salt verifier filling) out
    (Capi.read_back (Capi.write_outcome bits password name salt_low salt_high verifier_low verifier_high filling_low filling_high out))
unfolding writes
write_out bits password name salt_low salt_high verifier_low verifier_high filling_low filling_high out =
    subst⁻¹ (Writing _ out) (write_told bits password name salt_low salt_high verifier_low verifier_high filling_low filling_high out)
    (writing _ out (record { salt = length_sixteen _ _; verifier = length_sixteen _ _; filling = length_twelve _ _ }))
