-- Our entries keep the demands on every call: what a call of ours gives or leaves is the definition's, of which demands 1 and 2 speak. And
-- who keeps them on every call keeps demands 1 and 2, so the calls ask no less. Assumes nothing.
use mathlib.Core.Path.{◌≡◌, refl, sym, ap, subst⁻¹, ◌∙◌}
use mathlib.Core.Logic.{◌↔◌, inl, inr}
use mathlib.Core.Bool.{Bool, true, false, cond, true≢false}
use mathlib.Core.List.{List, ◌∷◌, ◌++◌}
use Prim.Native.Nat.{ℕ, zero, suc}
use native.Mathlib.Omega.{arith}
use borrow.Author.Tests.{eq-eqb, ne_eqb}
use lib.Dec.{T}
use lib.ListN.{length, take, replicate}
use Rattle.answers.specs.Rules.{OneOf, first_of, numbered, numbers}
use Rattle.answers.proofs.Laws.{none_broken, both_zero, numbers_both, by_numbers, listed, listed_in}
use Rattle.answers.proofs.Endings.{ended_answer}
use Rattle.answers.specs.Ended.{Left}
use Rattle.sha1_digest.specs.Sha1.{hash_rules, hashed}
use Rattle.aes.specs.Aes.{key_length, encryption, decryption, done_block, refused_block, encrypted, decrypted}
use Rattle.descriptor.specs.Info.{parsed}
use Rattle.password.specs.Verdict.{judged}
use Rattle.password.specs.Lock.{Lock}
use Rattle.lengths.specs.Lengths.{stream_size}
use Rattle.sheet.specs.Sheet.{open_rules, package_of, opened, sealed}
use Rattle.sheet.proofs.Laws.{open_numbers_lem}
use Rattle.stretch.specs.Stretch.{stretched}
use Rattle.rescue.specs.Rescue.{Rescue, rescue_rules, remains, none, rescued}
use Rattle.rescue.specs.declared.Counts.{Counts}
use Rattle.files.specs.Files.{File, file_rules, file_lock, rules, files_opened}
use Rattle.files.proofs.Laws.{file_numbered, file_numbers_lem}
use Rattle.promises.specs.Words.{Parser, Judge, Opener, Sealer, Accepted, Answers, written_part}
use Rattle.promises.specs.Demand1.{Call, Demand1, open_numbers}
use Rattle.promises.specs.Demand2.{Demand2}
use Rattle.promises.specs.NewInfo.{Input, Typed}
use Rattle.promises.specs.Rescue.{rescue_numbers, AsOpening, recovered_part, Accounts, surplus_aside}
use Rattle.promises.proofs.Ended.{ended_call, by_rules}
use Rattle.promises.proofs.Demand1.{demand_1, open_fits}
use Rattle.promises.proofs.Demand2.{demand_2}
use Rattle.promises.proofs.NewInfo.{writes, new_info}
use Rattle.promises.proofs.Stretch.{stretches_kept}
use Rattle.promises.proofs.Rescue.{rescues_kept}
use Rattle.promises.specs.EveryCall.{Block, file_numbers}
use Rattle.promises.specs.Calls.{Hashing, Enciphering, Parsing, Judging, Opening, Stretching, Rescuing, Sealing, Writing, FilesOpening}

-- ---- the parts

pub hashing : (message : List ℕ) → Hashing message (hashed message)
unfolding hashed hash_rules
hashing m =
    record {
      ends = record { answer = listed (hash_rules m); refused = λ h. record { none = refl; same = rw (ne_eqb (first_of (hash_rules m)) 0 h) } };
      answers = by_rules (hash_rules m) tt;
      published = λ h. rw (eq-eqb (first_of (hash_rules m)) 0 ((none_broken (hash_rules m) tt).1 h));
    }

-- a block operation answers by the key's length alone
block_ends : (b : Bool) (s : List ℕ) → Block (cond b (done_block s) refused_block)
unfolding done_block refused_block
block_ends true s = record { answer = inl refl; refused = λ h. absurd (h refl) }
block_ends false s = record { answer = inr (inl refl); refused = λ h. record { none = refl; same = refl } }

block_accepts : (b : Bool) (s : List ℕ) → ((cond b (done_block s) refused_block).answer ≡ 0) ↔ (b ≡ true)
unfolding done_block refused_block
block_accepts true s = (λ h. refl, λ h. refl)
block_accepts false s = (λ h. absurd (omega arith), λ h. absurd (true≢false (sym h)))

block_published : (b : Bool) (s : List ℕ) → (cond b (done_block s) refused_block).answer ≡ 0 → (cond b (done_block s) refused_block).block ≡ s
unfolding done_block refused_block
block_published true s h = refl
block_published false s h = absurd (omega arith)

module _ (key block : List ℕ) where
  pub encrypting : Enciphering encryption key block (encrypted key block)
  unfolding encrypted
  encrypting =
      let b = key_length (length key) in
      let s = encryption key block in
      record { ends = block_ends b s; accepts = block_accepts b s; published = block_published b s }

  pub decrypting : Enciphering decryption key block (decrypted key block)
  unfolding decrypted
  decrypting =
      let b = key_length (length key) in
      let s = decryption key block in
      record { ends = block_ends b s; accepts = block_accepts b s; published = block_published b s }

-- ---- the four entries of the demands, the stretch, the rescue and the writer

pub parsing : (info : List ℕ) (scheme : ℕ) → Parsing info scheme (parsed info scheme)
parsing info scheme =
    record { ends = demand_1.parsing info scheme; answers = demand_2.parse_answer info scheme; published = demand_2.descriptor info scheme }

module _ (lock : Lock) where
  pub judging : Judging lock (judged lock)
  judging =
      record {
        ends = demand_1.judging lock;
        answers = demand_2.verdict_answer lock;
        published = demand_2.verdict lock;
      }

  pub opening : (stream out : List ℕ) → Opening lock stream out (opened lock stream out)
  opening s out =
      record {
        call = demand_1.opening lock s out;
        answers = demand_2.open_answer lock s out;
        published = demand_2.opening lock s out;
      }

  pub stretching : (stream : List ℕ) (from to : ℕ) (out : List ℕ) → Stretching lock stream from to out (stretched lock stream from to out)
  stretching s from to out =
      record {
        call = stretches_kept.call lock s from to out;
        answers = stretches_kept.answers lock s from to out;
        part_of = λ whole. stretches_kept.part_of lock s whole from to out;
      }

  -- whatever the counts are on a refusal
  module _ (s out : List ℕ) (unset : Counts) (r : Rescue) (e : r.left ≡ (rescued lock s out).left)
      (given : Accepted r.left → r ≡ rescued lock s out) (u : (Accepted r.left → ⊥) → r.counts ≡ unset) where
    pub rescuing_with : Rescuing lock s out unset r
    rescuing_with =
        record {
          call = subst⁻¹ (Call rescue_numbers (remains lock s) out) e (rescues_kept.call lock s out);
          uncounted = u;
          answers = subst⁻¹ (λ (l : Left). Answers (rescue_rules lock s (length out)) l.reply.answer) e (rescues_kept.answers lock s out);
          as_opening = subst⁻¹ (AsOpening (opened lock s out) (stream_size s) out) e (rescues_kept.as_opening lock s out);
          begins = λ rest whole z.
              subst⁻¹
              (λ (x : Rescue). let l = opened lock (surplus_aside s x ++ rest) whole in Accepted l → recovered_part x ≡ take x.counts.recovered (written_part l))
              (given z) (rescues_kept.begins lock s rest out whole (ap (λ (l : Left). l.reply.answer) (sym e) ∙ z));
          of_whole = λ z.
              let a = rescues_kept.of_whole lock s out z in
              given (ap (λ (l : Left). l.reply.answer) e ∙ ap (λ (x : Rescue). x.left.reply.answer) a ∙ z) ∙ a;
          accounts = λ z. subst⁻¹ (Accounts s out) (given z) (rescues_kept.accounts lock s out (ap (λ (l : Left). l.reply.answer) (sym e) ∙ z));
        }

  pub rescuing : (stream out : List ℕ) → Rescuing lock stream out none (rescued lock stream out)
  rescuing s out = rescuing_with s out none (rescued lock s out) refl (λ z. refl) (rescues_kept.uncounted lock s out)

  pub sealing : («package» filling : List ℕ) (extra : Bool) (out : List ℕ) → length filling ≡ 16
      → Sealing lock «package» filling extra out (sealed lock «package» filling extra out)
  sealing «package» filling extra out g =
      record {
        call = demand_1.sealing lock «package» filling extra out g;
        answers = demand_2.seal_answer lock «package» filling extra out g;
        published = demand_2.sealing lock «package» filling extra out g;
      }

pub writing : (i : Input) (out : List ℕ) → Typed i → Writing i out (writes i out)
writing i out t =
    record { accepts = new_info.accepts i out t; answers = new_info.answers i out t; call = new_info.call i out t; size = new_info.size i out t }

-- ---- the program's files

-- a number that is listed k times more
once : (k m n : ℕ) (ms : List ℕ) → OneOf (replicate k m ++ m ∷ ms) n → OneOf (m ∷ ms) n
once zero m n ms o = o
once (suc k) m n ms (inl e) = inl e
once (suc k) m n ms (inr o) = once k m n ms o

-- seven rules have the number 17
seventeen : (n : ℕ) → OneOf (0 ∷ (replicate 6 17 ++ file_numbers)) n → OneOf (0 ∷ file_numbers) n
seventeen n (inl e) = inl e
seventeen n (inr o) = inr (once 6 17 n open_numbers o)

module _ (info password stream : File) (out : List ℕ) where
  abbrev lock : Lock
  lock = file_lock info password

  files_numbers : numbers (rules info password stream (length out)) ≡ replicate 6 17 ++ file_numbers
  unfolding rules
  files_numbers =
      numbers_both (file_rules info password stream) (open_rules lock stream.bytes (length out))
      ∙ rw (file_numbers_lem info password stream, open_numbers_lem lock stream.bytes out)

  files_numbered : T (numbered (rules info password stream (length out)))
  files_numbered = by_numbers (rules info password stream (length out)) _ files_numbers tt

  files_answer : OneOf (0 ∷ file_numbers) (first_of (rules info password stream (length out)))
  files_answer = seventeen _ (listed_in (rules info password stream (length out)) (replicate 6 17 ++ file_numbers) files_numbers)

  files_call : Call file_numbers (package_of lock stream.bytes) out (files_opened info password stream out)
  unfolding files_opened rules
  files_call =
      ended_call file_numbers _ (stream_size stream.bytes) _ out files_answer
      (λ z. open_fits lock stream.bytes out (both_zero (file_rules info password stream) _ (file_numbered info password stream) z).1)

  pub opening_files : FilesOpening info password stream out (files_opened info password stream out)
  unfolding files_opened
  opening_files =
      record { call = files_call; answers = rw (ended_answer _ _ _ out) (by_rules (rules info password stream (length out)) files_numbered) }

-- ---- and back: from every call to the demands

module _ (parses : Parser) (judges : Judge) (opens : Opener) (seals : Sealer)
    (p : (info : List ℕ) (scheme : ℕ) → Parsing info scheme (parses info scheme))
    (j : (lock : Lock) → Judging lock (judges lock))
    (o : (lock : Lock) (stream out : List ℕ) → Opening lock stream out (opens lock stream out))
    (s : (lock : Lock) («package» filling : List ℕ) (extra : Bool) (out : List ℕ) → length filling ≡ 16
    → Sealing lock «package» filling extra out (seals lock «package» filling extra out)) where
  pub all_calls_1 : Demand1 parses judges opens seals
  all_calls_1 =
      record {
        parsing = λ info scheme. (p info scheme).ends;
        judging = λ lock. (j lock).ends;
        opening = λ lock stream out. (o lock stream out).call;
        sealing = λ lock «package» filling extra out g. (s lock «package» filling extra out g).call;
      }

  pub all_calls_2 : Demand2 parses judges opens seals
  all_calls_2 =
      record {
        parse_answer = λ info scheme. (p info scheme).answers;
        verdict_answer = λ lock. (j lock).answers;
        open_answer = λ lock stream out. (o lock stream out).answers;
        seal_answer = λ lock «package» filling extra out g. (s lock «package» filling extra out g).answers;
        descriptor = λ info scheme. (p info scheme).published;
        verdict = λ lock. (j lock).published;
        opening = λ lock stream out. (o lock stream out).published;
        sealing = λ lock «package» filling extra out g. (s lock «package» filling extra out g).published;
      }
