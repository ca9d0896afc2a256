-- The ways out of opening the files: a refusal by rule 17, or what `sheet` opens; and what is written always fits. Assumes nothing.
use mathlib.Core.Path.{◌≡◌, refl, sym, ap, ◌∙◌}
use mathlib.Core.Bool.{Bool, true, false, ◌&&◌, true≢false}
use mathlib.Core.Logic.{inl, inr}
use mathlib.Core.List.{List}
use Prim.Native.Nat.{ℕ, ◌≤◌}
use native.Mathlib.Omega.{arith}
use borrow.Author.Tests.{ltb-false, eqb-true, eqb-false}
use lib.Dec.{T, eqb}
use lib.ListN.{length, replicate}
use Rattle.std.specs.Prelude.{Err}
use Rattle.answers.specs.Rules.{first_of, numbered, numbers}
use Rattle.answers.specs.Ended.{left, reply}
use Rattle.answers.specs.Refusals.{number, reply_of}
use Rattle.answers.specs.declared.Refusal.{Refusal}
use Rattle.answers.proofs.Refusals.{never_zero}
use Rattle.answers.proofs.Laws.{either, none_broken, then, stop}
use Rattle.answers.proofs.Endings.{ended_refused}
use Rattle.password.specs.Lock.{Lock}
use Rattle.lengths.specs.Lengths.{stream_size}
use Rattle.sheet.specs.Sheet as Sheet
use Rattle.sheet.proofs.Lengths.{openable}
use Rattle.sheet.proofs.Laws.{open_answer, open_zero, open_done}
use Rattle.files.specs.Files.{File, file, files_limit, missing, long, file_rules, file_lock, rules, files_opened}

-- what `sheet` opens lies within its output
module _ (lock : Lock) (stream out : List ℕ) where
  sheet_refused : (first_of (Sheet.open_rules lock stream (length out)) ≡ 0 → ⊥) → (Sheet.opened lock stream out).reply.size ≤ length out
  unfolding Sheet.opened
  sheet_refused h = rw (ended_refused _ (stream_size stream) (Sheet.package_of lock stream) out h) (omega arith)

  sheet_within : (Sheet.opened lock stream out).reply.size ≤ length out
  sheet_within =
      elim (either (eqb (Sheet.opened lock stream out).reply.answer 0)) [
        | inl e ↦
            let k = open_zero lock stream out (eqb-true _ _ e) in
            rw (open_done lock stream out k.0 ((openable stream (length out)).1 k.1)) k.1.roomy
        | inr e ↦ sheet_refused (λ z. eqb-false _ _ e (open_answer lock stream out ∙ z))
      ]

-- a file is missing
lacking : (i p s : Bool) (info password stream : List ℕ) → (i && (p && s)) ≡ false
    → first_of (file_rules (file i info) (file p password) (file s stream)) ≡ 17
unfolding file_rules missing first_of
lacking false p s info password stream h = refl
lacking true false s info password stream h = refl
lacking true true false info password stream h = refl
lacking true true true info password stream h = absurd (true≢false h)

module _ (info password stream : File) where
  pub file_numbered : T (numbered (file_rules info password stream))
  unfolding file_rules
  file_numbered = tt

  pub file_numbers_lem : numbers (file_rules info password stream) ≡ replicate 7 17
  unfolding file_rules
  file_numbers_lem = refl

  module _ (out : List ℕ) where
    pub by_files : (first_of (file_rules info password stream) ≡ 0 → ⊥)
        → files_opened info password stream out ≡ left (reply (first_of (file_rules info password stream)) 0) out
    unfolding files_opened rules
    by_files h = rw (stop (file_rules info password stream) _ h) (ended_refused _ _ _ out h)

    pub by_refusal : (r : Refusal) → number r ≡ first_of (file_rules info password stream) → left (reply_of (Err r)) out ≡ files_opened info password stream out
    by_refusal r e = ap (λ (n : ℕ). left (reply n 0) out) e ∙ sym (by_files (λ z. never_zero r (e ∙ z)))

    -- where a file is missing no bytes count, neither those that were read of it nor those of the others
    pub by_missing : (info.there && (password.there && stream.there)) ≡ false → files_opened info password stream out ≡ left (reply 17 0) out
    by_missing h =
        let e : first_of (file_rules info password stream) ≡ 17 = lacking info.there password.there stream.there info.bytes password.bytes stream.bytes h in
        by_files (λ z. absurd (omega (arith, e, z))) ∙ ap (λ (n : ℕ). left (reply n 0) out) e

    pub by_sheet : first_of (file_rules info password stream) ≡ 0
        → files_opened info password stream out ≡ Sheet.opened (file_lock info password) stream.bytes out
    unfolding files_opened rules Sheet.opened
    by_sheet z = rw (then (file_rules info password stream) _ file_numbered z)

    -- and so does what the files open to
    pub size_within : (files_opened info password stream out).reply.size ≤ length out
    size_within =
        elim (either (eqb (first_of (file_rules info password stream)) 0)) [
          | inl e ↦ rw (by_sheet (eqb-true _ _ e)) (sheet_within (file_lock info password) stream.bytes out)
          | inr e ↦ rw (by_files (eqb-false _ _ e)) (omega arith)
        ]

  -- a password file that breaks no rule
  pub password_within : first_of (file_rules info password stream) ≡ 0 → length password.bytes ≤ 65536
  unfolding file_rules long files_limit
  password_within z = ltb-false _ _ ((none_broken (file_rules info password stream) file_numbered).0 z).1.1.1.1.0
