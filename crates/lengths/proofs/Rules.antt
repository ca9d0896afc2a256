-- What the rules 13 to 15 say of lengths: a stream or a package breaks none of them exactly where its numbers fit. Assumes nothing.
use mathlib.Core.Path.{◌≡◌, refl}
use mathlib.Core.Bool.{true, false, not}
use mathlib.Core.List.{[], ◌∷◌, ◌++◌}
use mathlib.Core.Logic.{◌↔◌}
use Prim.Native.Nat.{ℕ, ◌+◌, ◌-◌, ◌≤◌}
use native.Mathlib.Omega.{arith}
use borrow.Author.Tests.{le-ltb, ltb-false, not-false}
use lib.Dec.{T, ltb}
use Rattle.answers.specs.Rules.{rule, first_of, numbered, numbers, test_of}
use Rattle.answers.proofs.Laws.{none_broken, rule_holds}
use Rattle.lengths.specs.Lengths.{package_limit, length_allowed, allowed, large, length_rules, size_rules}
use Rattle.lengths.proofs.Fillings.{allowed_holds}

-- a stream of n bytes with that StreamSize
pub record Fitting (n size : ℕ) : Type 0 where
  pub headed : 8 ≤ n
  pub limited : size ≤ package_limit
  pub long : length_allowed size (n - 8) ≡ true

module _ (n size : ℕ) where
  pub lengths_numbered : T (numbered (length_rules n size))
  unfolding length_rules
  lengths_numbered = tt

  pub length_numbers : numbers (length_rules n size) ≡ 13 ∷ 14 ∷ 15 ∷ []
  unfolding length_rules
  length_numbers = refl

  -- no. 15 comes last; the two before it ask for StreamSize within the limit
  pub length_last : length_rules n size ≡ (rule 13 (ltb n 8) ∷ size_rules size) ++ rule 15 (not (length_allowed size (n - 8))) ∷ []
  unfolding length_rules size_rules
  length_last = refl

  keeps : (m : ℕ) → first_of (length_rules n size) ≡ 0 → test_of m (length_rules n size) ≡ false
  keeps m h = rule_holds m (length_rules n size) lengths_numbered h

  to_fitting : first_of (length_rules n size) ≡ 0 → Fitting n size
  unfolding length_rules large
  to_fitting h =
      record { headed = ltb-false _ _ (keeps 13 h); limited = ltb-false _ _ (keeps 14 h); long = not-false _ (keeps 15 h) }

  of_fitting : Fitting n size → first_of (length_rules n size) ≡ 0
  unfolding length_rules large
  of_fitting k =
      (none_broken (length_rules n size) lengths_numbered).1 (le-ltb _ _ k.headed, (le-ltb _ _ k.limited, (rw k.long, tt)))

  pub fitting : (first_of (length_rules n size) ≡ 0) ↔ Fitting n size
  fitting = (λ h. to_fitting h, λ k. of_fitting k)

  -- its ciphertext holds the package, and what is left is an allowed filling
  pub fitting_holds : Fitting n size → size ≤ n - 8
  fitting_holds k = allowed_holds size (n - 8) k.long

  rest : size ≤ n - 8 → size + (n - 8 - size) ≡ n - 8
  rest h = omega arith

  pub fitting_filling : (size ≤ n - 8) → length_allowed size (n - 8) ≡ allowed size (n - 8 - size)
  unfolding allowed
  fitting_filling h = rw (rest h)

pub size_numbered : (size : ℕ) → T (numbered (size_rules size))
unfolding size_rules
size_numbered size = tt

pub size_numbers : (size : ℕ) → numbers (size_rules size) ≡ 14 ∷ []
unfolding size_rules
size_numbers size = refl

-- a package that may be sealed is within the limit
pub limited : (size : ℕ) → (first_of (size_rules size) ≡ 0) ↔ (size ≤ package_limit)
unfolding size_rules large
limited size = (
  λ h. ltb-false _ _ ((none_broken (size_rules size) tt).0 h).0,
  λ h. (none_broken (size_rules size) tt).1 (le-ltb _ _ h, tt),
)
