-- Files that were found are their bytes; one that was not is refused with 17, whatever was found of the others. Assumes nothing.
use mathlib.Core.Path.{◌≡◌, refl, ap, sym, ◌∙◌}
use mathlib.Core.Bool.{true, false, ◌&&◌, true≢false}
use mathlib.Core.List.{List}
use Prim.Native.Nat.{ℕ}
use Rattle.std.specs.Borrow.{Bor}
use Rattle.std.specs.Prelude.{Option, Some, None, Result, Err}
use Rattle.std.specs.Option.{ok_or}
use Rattle.std.specs.Result.{is_ok}
use Rattle.std.proofs.Math.Bool.{and-false}
use Rattle.answers.specs.Ended.{left, reply}
use Rattle.answers.specs.Refusals.{number, answer_of, reply_of}
use Rattle.answers.specs.declared.Refusal.{Refusal}
use Rattle.answers.specs.declared.Refusal.TheVariants.{Files}
use Rattle.files.specs.Files.{file, found, files_opened}
use Rattle.files.proofs.Laws.{by_missing}

-- what asks for a file is refused where it is missing alone
asked : (r : Refusal) (f : Option (Bor (List ℕ))) → ◌≡◌ {A = Result (Bor (List ℕ)) Refusal} (Err r) (ok_or f Files)
    → (number r ≡ 17) × ((found f).there ≡ false)
asked r None e = (ap answer_of e, refl)
asked r (Some bytes) e = absurd (true≢false (sym (ap is_ok e)))

module _ (info password stream : Option (Bor (List ℕ))) (out : List ℕ) where
  pub all_found : (i p s : Bor (List ℕ)) → info ≡ Some i → password ≡ Some p → stream ≡ Some s
      → files_opened (found info) (found password) (found stream) out ≡ files_opened (file true i.now) (file true p.now) (file true s.now) out
  all_found i p s hi hp hs = rw (hi, hp, hs)

  refused : (r : Refusal) → number r ≡ 17 → ((found info).there && ((found password).there && (found stream).there)) ≡ false
      → left (reply_of (Err r)) out ≡ files_opened (found info) (found password) (found stream) out
  refused r e h = ap (λ (n : ℕ). left (reply n 0) out) e ∙ sym (by_missing (found info) (found password) (found stream) out h)

  pub no_info : (r : Refusal) → ◌≡◌ {A = Result (Bor (List ℕ)) Refusal} (Err r) (ok_or info Files)
      → left (reply_of (Err r)) out ≡ files_opened (found info) (found password) (found stream) out
  no_info r e = let m = asked r info e in refused r m.0 (rw m.1)

  pub no_password : (r : Refusal) → ◌≡◌ {A = Result (Bor (List ℕ)) Refusal} (Err r) (ok_or password Files)
      → left (reply_of (Err r)) out ≡ files_opened (found info) (found password) (found stream) out
  no_password r e = let m = asked r password e in refused r m.0 (rw m.1 (and-false _))

  pub no_stream : (r : Refusal) → ◌≡◌ {A = Result (Bor (List ℕ)) Refusal} (Err r) (ok_or stream Files)
      → left (reply_of (Err r)) out ≡ files_opened (found info) (found password) (found stream) out
  no_stream r e = let m = asked r stream e in refused r m.0 (rw (m.1, and-false) (and-false _))
