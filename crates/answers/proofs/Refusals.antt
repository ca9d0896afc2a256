-- A refusal's number is never 0, so a call that gives one answers it, and leaves its output. Assumes nothing.
use mathlib.Core.Path.{◌≡◌, refl, sym, ap, ◌∙◌}
use mathlib.Core.List.{List}
use Prim.Native.Nat.{ℕ}
use native.Mathlib.Omega.{arith}
use Rattle.std.specs.Prelude.{Result, Ok, Err}
use Rattle.std.specs.Result.{result_unwrap_or}
use Rattle.answers.specs.Rules.{after}
use Rattle.answers.specs.Ended.{left, reply, ended}
use Rattle.answers.specs.Refusals.{number, reply_of}
use Rattle.answers.specs.declared.Refusal.{Refusal}
use Rattle.answers.proofs.Laws.{after_some}
use Rattle.answers.proofs.Endings.{ended_refused}

pub never_zero : (r : Refusal) → number r ≡ 0 → ⊥
never_zero r h = grind arith

module _ (r : Refusal) (n : ℕ) (e : number r ≡ n) where
  -- what is judged later does not count
  pub stops : (rest : ℕ) → number r ≡ after n rest
  stops rest = e ∙ sym (after_some n rest (λ z. never_zero r (e ∙ z)))

  -- and the call leaves its output as it was
  pub refused : (size : ℕ) (content out : List ℕ) → left (reply_of (Err r)) out ≡ ended n size content out
  refused size content out =
      ap (λ (m : ℕ). left (reply m 0) out) e ∙ sym (ended_refused n size content out (λ z. never_zero r (e ∙ z)))

-- a call's size, or 0 where it was refused
pub size_or_zero : (given : Result ℕ Refusal) → result_unwrap_or given 0 ≡ (reply_of given).size
size_or_zero (Ok n) = refl
size_or_zero (Err r) = refl
