-- Every public call ends as demand 1 asks: those of the demands by them, the parts and the files by their own rules, and the C functions
-- because their numbers lose nothing. Assumes nothing.
use mathlib.Core.Path.{◌≡◌, ap, subst⁻¹, ◌∙◌}
use mathlib.Core.Bool.{Bool}
use mathlib.Core.List.{List}
use Prim.Native.Nat.{ℕ}
use lib.ListN.{length}
use Rattle.answers.specs.Ended.{Left}
use Rattle.answers.specs.Ended.{Reply}
use Rattle.answers.proofs.Laws.{listed_in}
use Rattle.password.specs.Lock.{Lock}
use Rattle.sheet.specs.Sheet.{seal_rules, sealed}
use Rattle.sheet.proofs.Laws.{seal_numbers_lem}
use Rattle.rescue.specs.Rescue.{Rescue}
use Rattle.writer.specs.Written.{write_rules, written}
use Rattle.writer.proofs.Laws.{write_numbers_lem}
use Rattle.capi.proofs.Told.{verdict_told, rescue_told, counts_kept}
use Rattle.promises.specs.Words.{Accepted}
use Rattle.promises.specs.Demand1.{Concludes, OnOutput, verdict_numbers, seal_numbers}
use Rattle.promises.specs.NewInfo.{write_numbers}
use Rattle.promises.specs.Rescue.{rescue_numbers}
use Rattle.promises.proofs.Ended.{ended_ends}
use Rattle.promises.proofs.Demand1.{demand_1}
use Rattle.promises.specs.EveryCall.{RescueEnds, EveryCall}
use Rattle.promises.proofs.Calls.{hashing, encrypting, decrypting, stretching, rescuing, opening_files}
use Rattle.promises.proofs.Outside.{hash_out, encrypt_out, decrypt_out, descriptor_out, open_out, stretch_out, rescue_out, seal_out, write_out}

-- whatever the sixteen bytes are, or the salt, the verifier and the filling, the rules alone decide
seal_ends : (lock : Lock) («package» filling : List ℕ) (extra : Bool) (out : List ℕ) → OnOutput seal_numbers out (sealed lock «package» filling extra out)
unfolding sealed
seal_ends lock «package» filling extra out = ended_ends seal_numbers _ _ _ out (listed_in (seal_rules lock extra (length «package») (length out)) seal_numbers (seal_numbers_lem lock «package» filling extra out))

write_ends : (bits : ℕ) (password name salt verifier filling out : List ℕ) → OnOutput write_numbers out (written bits password name salt verifier filling out)
unfolding written
write_ends bits password name salt verifier filling out =
    ended_ends write_numbers _ _ _ out (listed_in (write_rules bits password (length name) (length out)) write_numbers (write_numbers_lem bits password (length name) (length out)))

-- a refused rescue leaves both the output and the counts
rescue_ends : {A : Type 0} (out : List ℕ) (l : Left) (unset counts : A) → OnOutput rescue_numbers out l → ((Accepted l → ⊥) → counts ≡ unset)
    → RescueEnds out unset l counts
rescue_ends out l unset counts o u =
    record { answer = o.answer; refused = λ h. let k = o.refused h in record { none = k.none; same = λ i. (k.same i, u h i) } }

pub every_call : EveryCall
every_call =
    record {
      hashing = λ m. (hashing m).ends;
      encrypting = λ key block. (encrypting key block).ends;
      decrypting = λ key block. (decrypting key block).ends;
      parsing = demand_1.parsing;
      judging = demand_1.judging;
      opening = λ lock s out. (demand_1.opening lock s out).ends;
      stretching = λ lock s from to out. (stretching lock s from to out).call.ends;
      rescuing = λ lock s out. let k = rescuing lock s out in rescue_ends out _ _ _ k.call.ends k.uncounted;
      sealing = seal_ends;
      writing = write_ends;
      files = λ info password s out. (opening_files info password s out).call.ends;
      c_sha1 = λ m out. (hash_out m out).value.ends;
      c_aes_encrypt = λ key low high out. (encrypt_out key low high out).value.ends;
      c_aes_decrypt = λ key low high out. (decrypt_out key low high out).value.ends;
      c_parse = λ info scheme out. (descriptor_out info scheme out).value.ends;
      c_verdict = λ lock.
          subst⁻¹ (λ (r : Reply). Concludes {A = Unit} verdict_numbers tt r.answer r.size tt) (verdict_told lock) (demand_1.judging lock);
      c_open = λ lock s out. (open_out lock s out).call.ends;
      c_stretch = λ lock s from to out. (stretch_out lock s from to out).call.ends;
      c_rescue = λ lock s out counts.
          let e = ap (λ (r : Rescue). r.left.reply.answer) (rescue_told lock s out counts) in
          rescue_ends out _ counts _ (rescue_out lock s out counts).call.ends (λ h. counts_kept lock s out counts (λ z. h (e ∙ z)));
      c_seal = λ lock «package» low high extra out. (seal_out lock «package» low high extra out).call.ends;
      c_write_info = λ bits password name sl sh vl vh fl fh out. (write_out bits password name sl sh vl vh fl fh out).call.ends;
    }
