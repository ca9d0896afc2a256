-- A stream that breaks no rule keeps each of them; here they are as facts on its numbers. Assumes nothing.
use mathlib.Core.Path.{◌≡◌, refl, sym, ◌∙◌}
use mathlib.Core.Bool.{false}
use mathlib.Core.List.{List, [], ◌∷◌, ◌++◌}
use mathlib.Core.Logic.{◌↔◌, inl, inr}
use Prim.Native.Nat.{ℕ, zero, suc, ◌+◌, ◌%◌, ◌≤◌}
use native.Mathlib.Omega.{arith}
use borrow.Author.Tests.{ltb-false, eqb-true, not-false, ne_eqb}
use lib.Dec.{T, ltb, eqb}
use lib.ListN.{length}
use Rattle.octets.proofs.Parts.{length_part}
use Rattle.std.specs.Prelude.{Ok, Err}
use Rattle.answers.specs.Refusals.{number}
use Rattle.answers.specs.declared.Refusal.{Refusal}
use Rattle.answers.specs.Rules.{first_of, after, numbered, numbers, test_of, OneOf}
use Rattle.answers.proofs.Refusals.{never_zero}
use Rattle.answers.proofs.Laws.{either, neither, after_none, after_zero, none_broken, rule_holds, in_turn, numbers_both, by_numbers}
use Rattle.descriptor.specs.Info as stream
use Rattle.descriptor.specs.declared.Descriptor.{Descriptor}
use Rattle.descriptor.proofs.Algorithms.{suite_known, in_bytes}

-- the stream breaks no rule
abbrev pub Admitted : List ℕ → Type 0
Admitted s = first_of (stream.info_rules s) ≡ 0

pub info_numbered : (s : List ℕ) → T (numbered (stream.info_rules s))
unfolding stream.info_rules
info_numbered s = tt

abbrev pub info_list : List ℕ
info_list = 1 ∷ 2 ∷ 3 ∷ 4 ∷ 5 ∷ 6 ∷ 7 ∷ 8 ∷ 9 ∷ 10 ∷ []

-- and those of a parse
abbrev pub parse_list : List ℕ
parse_list = info_list ++ 19 ∷ []

pub info_numbers : (s : List ℕ) → numbers (stream.info_rules s) ≡ info_list
unfolding stream.info_rules
info_numbers s = refl

-- the rule numbered n holds of it
pub keeps : (n : ℕ) (s : List ℕ) → Admitted s → test_of n (stream.info_rules s) ≡ false
keeps n s h = rule_holds n (stream.info_rules s) (info_numbered s) h

module _ (s : List ℕ) (h : Admitted s) where
  pub header_low : 32 ≤ stream.header_size s
  unfolding stream.info_rules stream.numbers_of stream.bad_header_size
  header_low = ltb-false _ _ (neither (keeps 3 s h)).0

  pub header_high : stream.header_size s ≤ 4096
  unfolding stream.info_rules stream.numbers_of stream.bad_header_size
  header_high = ltb-false _ _ (neither {a = ltb (stream.header_size s) 32} (keeps 3 s h)).1

  pub info_length : length s ≡ stream.header_size s + 84
  unfolding stream.info_rules stream.numbers_of
  info_length = eqb-true _ _ (not-false _ (keeps 4 s h))

  pub extra_fits : 32 + stream.size_extra s ≤ stream.header_size s
  unfolding stream.info_rules stream.numbers_of stream.bad_name
  extra_fits = ltb-false _ _ (neither (keeps 5 s h)).0

  pub key_size_lem : stream.key_size s ≡ (stream.suite_of (stream.alg_id s)).bits.0
  unfolding stream.info_rules stream.numbers_of
  key_size_lem = eqb-true _ _ (not-false _ (keeps 8 s h))

  pub alg_known : (stream.suite_of (stream.alg_id s)).answer ≡ 0
  unfolding stream.info_rules stream.numbers_of
  alg_known = eqb-true _ _ (not-false _ (keeps 6 s h))

-- what the code's bounds need
pub ruleset bounds = (header_low, info_length, extra_fits)

-- ---- the scheme

-- the record has it as it was given
pub scheme_given : (s : List ℕ) (scheme : ℕ) → (stream.described s scheme).scheme ≡ scheme
unfolding stream.described
scheme_given s scheme = refl

pub scheme_numbers : (scheme : ℕ) → numbers (stream.scheme_rules scheme) ≡ 19 ∷ []
unfolding stream.scheme_rules
scheme_numbers scheme = refl

pub scheme_numbered : (scheme : ℕ) → T (numbered (stream.scheme_rules scheme))
unfolding stream.scheme_rules
scheme_numbered scheme = tt

abbrev pub KnownScheme : ℕ → Type 0
KnownScheme scheme = OneOf (1 ∷ 2 ∷ []) scheme

one_good : (scheme : ℕ) → KnownScheme scheme → stream.bad_scheme scheme ≡ false
unfolding stream.bad_scheme
one_good scheme (inl e) = rw e
one_good scheme (inr (inl e)) = rw e
one_good scheme (inr (inr e)) = absurd e

known_scheme : (scheme : ℕ) → stream.bad_scheme scheme ≡ false → KnownScheme scheme
unfolding stream.bad_scheme
known_scheme scheme h =
    elim (either (eqb scheme 1)) [
      | inl e ↦ inl (eqb-true scheme 1 e)
      | inr e ↦ inr (inl (eqb-true scheme 2 (not-false _ (rw e at h))))
    ]

-- one that breaks no rule is one of the two
pub scheme_known : (scheme : ℕ) → (first_of (stream.scheme_rules scheme) ≡ 0) ↔ KnownScheme scheme
unfolding stream.scheme_rules stream.bad_scheme
scheme_known scheme = (
  λ h. known_scheme scheme ((none_broken (stream.scheme_rules scheme) tt).0 h).0,
  λ o. (none_broken (stream.scheme_rules scheme) tt).1 (one_good scheme o, tt),
)

-- ---- what a parse gives

module _ (s : List ℕ) (scheme : ℕ) where
  -- the stream and the scheme break no rule
  abbrev pub Parses : Type 0
  Parses = first_of (stream.parse_rules s scheme) ≡ 0

  pub parse_numbers_lem : numbers (stream.parse_rules s scheme) ≡ parse_list
  unfolding stream.parse_rules
  parse_numbers_lem = simp (numbers_both, info_numbers, scheme_numbers)

  pub parse_numbered : T (numbered (stream.parse_rules s scheme))
  parse_numbered = by_numbers (stream.parse_rules s scheme) _ parse_numbers_lem tt

  pub parse_in_turn : first_of (stream.parse_rules s scheme) ≡ after (first_of (stream.info_rules s)) (first_of (stream.scheme_rules scheme))
  unfolding stream.parse_rules
  parse_in_turn = in_turn (stream.info_rules s) (stream.scheme_rules scheme) (info_numbered s)

  pub parses_both : Parses → Admitted s × KnownScheme scheme
  parses_both h = let z = after_zero _ _ (sym parse_in_turn ∙ h) in (z.0, (scheme_known scheme).0 z.1)

  pub both_parse : Admitted s → KnownScheme scheme → Parses
  both_parse h o = parse_in_turn ∙ after_none _ _ h ∙ (scheme_known scheme).1 o

  -- a refusal by the rules is the parse's
  pub refused : (r : Refusal) → number r ≡ first_of (stream.parse_rules s scheme) → stream.parsed_of (Err r) ≡ stream.parsed s scheme
  unfolding stream.parsed
  refused r e = simp (← e, ne_eqb (number r) 0 (never_zero r))

  -- and where they refuse nothing the fields are given
  pub accepted : Parses → stream.parsed_of (Ok (stream.described s scheme)) ≡ stream.parsed s scheme
  unfolding stream.parsed
  accepted h = simp h

  pub parsed_answer : (stream.parsed s scheme).answer ≡ first_of (stream.parse_rules s scheme)
  unfolding stream.parsed
  parsed_answer = refl

  pub parsed_fields : Parses → (stream.parsed s scheme).fields ≡ stream.described s scheme
  unfolding stream.parsed
  parsed_fields h = simp h

  pub refused_fields : (Parses → ⊥) → (stream.parsed s scheme).fields ≡ stream.zeroed
  unfolding stream.parsed
  refused_fields h = simp (ne_eqb _ _ h)

-- ---- the fields within their ranges

pub record WellFormed (d : Descriptor) : Type 0 where
  pub minor : d.minor ≡ 2
  pub major : OneOf (2 ∷ 3 ∷ 4 ∷ []) d.major
  pub key : OneOf (16 ∷ 24 ∷ 32 ∷ []) d.key_size.0
  pub place : d.name_place ≡ 44
  pub name_even : d.name_length % 2 ≡ 0
  pub name_fits : d.name_length ≤ 4064
  pub salt : length d.salt ≡ 16
  pub verifier : length d.encrypted_verifier ≡ 16
  pub hash : length d.encrypted_verifier_hash ≡ 32
  pub scheme : KnownScheme d.scheme

two_to_four : (n : ℕ) → 2 ≤ n → n ≤ 4 → OneOf (2 ∷ 3 ∷ 4 ∷ []) n
two_to_four zero g h = absurd (omega arith)
two_to_four (suc zero) g h = absurd (omega arith)
two_to_four (suc (suc zero)) g h = inl refl
two_to_four (suc (suc (suc zero))) g h = inr (inl refl)
two_to_four (suc (suc (suc (suc zero)))) g h = inr (inr (inl refl))
two_to_four (suc (suc (suc (suc (suc n))))) g h = absurd (omega arith)

pub well_formed : (s : List ℕ) (scheme : ℕ) → Parses s scheme → WellFormed (stream.described s scheme)
unfolding stream.described stream.info_rules stream.numbers_of stream.bad_version stream.bad_name stream.salt_of stream.encrypted_verifier stream.encrypted_verifier_hash
well_formed s scheme k =
    let h : Admitted s = (parses_both s scheme k).0 in
    let l : length s ≡ stream.header_size s + 84 = info_length s h in
    let v = neither (keeps 2 s h) in
    let m = neither v.1 in
    let low : 32 ≤ stream.header_size s = header_low s h in
    let high : stream.header_size s ≤ 4096 = header_high s h in
    record {
      minor = eqb-true _ _ (not-false _ v.0);
      major = two_to_four (stream.major s) (ltb-false _ _ m.0) (ltb-false _ _ m.1);
      key = rw (key_size_lem s h) (in_bytes _ (suite_known (stream.alg_id s) (alg_known s h)).bits);
      place = refl;
      name_even = eqb-true _ _ (not-false _ (neither {a = ltb (stream.header_size s) (32 + stream.size_extra s)} (keeps 5 s h)).1);
      name_fits = omega arith;
      salt = length_part 16 (16 + stream.header_size s) s (omega arith);
      verifier = length_part 16 (32 + stream.header_size s) s (omega arith);
      hash = length_part 32 (52 + stream.header_size s) s (omega arith);
      scheme = (parses_both s scheme k).1;
    }
