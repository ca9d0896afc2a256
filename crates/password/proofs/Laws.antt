-- The ways out of the verdict: a law for each, for this crate's proofs and those above. Assumes nothing.
use mathlib.Core.Path.{◌≡◌, refl, sym, ap, ap₂, ◌∙◌}
use mathlib.Core.Bool.{Bool, true, false, cond, not}
use mathlib.Core.List.{List, [], ◌∷◌, ◌++◌}
use mathlib.Core.Logic.{◌↔◌, inl, inr, ⊎_elim}
use Prim.Native.Nat.{ℕ, ◌≤◌}
use native.Mathlib.Omega.{arith}
use borrow.Author.Tests.{ltb-false, le-ltb, ne_eqb, eqb-true, eqb-false}
use lib.Dec.{T, eqb}
use lib.ListN.{length}
use Rattle.octets.specs.Octets.{Bytes}
use Rattle.std.specs.Prelude.{Ok, Err}
use Rattle.answers.specs.Refusals.{number}
use Rattle.answers.specs.declared.Refusal.{Refusal}
use Rattle.answers.specs.Rules.{first_of, after, numbered, numbers}
use Rattle.answers.proofs.Refusals.{never_zero, stops}
use Rattle.answers.proofs.Laws.{either, in_turn, after_none, after_some, after_zero, numbers_both, by_numbers, both_zero, none_broken}
use Rattle.aes.specs.Aes.{key_length, expanded}
use Rattle.aes.proofs.Keys.{key_lengths}
use Rattle.descriptor.specs.Info.{Parsed, parse_rules, parsed_of, parsed}
use Rattle.descriptor.specs.declared.Descriptor.{Descriptor}
use Rattle.descriptor.proofs.Laws.{Admitted, KnownScheme, Parses, WellFormed, parse_list, parse_numbers_lem, parse_numbered, both_parse, parsed_answer, parsed_fields}
use Rattle.derivation.specs.Key.{key_bytes}
use Rattle.derivation.proofs.Laws.{length_key_bytes, key_bytes_bytes}
use Rattle.password.specs.Lock.{Lock, descriptor_of}
use Rattle.password.specs.Verifier.{verifier_opening, matches}
use Rattle.password.specs.Verdict as Verdict
use Rattle.password.specs.Verdict.{Unlocked}
use Rattle.password.specs.declared.Unlocked as Given

-- ---- the key

pub key_of_is : (d : Descriptor) (p : List ℕ) → Verdict.key_of d p ≡ key_bytes d.key_size.0 d.salt p
unfolding Verdict.key_of
key_of_is d p = refl

pub key_bytes_lem : (d : Descriptor) (p : List ℕ) → Bytes (Verdict.key_of d p)
unfolding Verdict.key_of
key_bytes_lem d p = key_bytes_bytes d.key_size.0 d.salt p

-- the key of a descriptor within its ranges is as long as it says
module _ (d : Descriptor) (p : List ℕ) (h : WellFormed d) where
  pub key_short : d.key_size.0 ≤ 32
  key_short = ⊎_elim (λ e. omega arith) (⊎_elim (λ e. omega arith) (⊎_elim (λ e. omega arith) (λ e. absurd e))) h.key

  pub length_key : length (Verdict.key_of d p) ≡ d.key_size.0
  unfolding Verdict.key_of
  length_key = length_key_bytes d.key_size.0 d.salt p (omega (arith, key_short))

  pub key_fits : key_length (length (Verdict.key_of d p)) ≡ true
  key_fits = rw length_key (key_lengths d.key_size.0 h.key)

-- ---- the rules

pub text_numbers : (p : List ℕ) → numbers (Verdict.text_rules p) ≡ 11 ∷ []
unfolding Verdict.text_rules
text_numbers p = refl

-- a text that breaks no rule has at most 255 units
pub text_short : (p : List ℕ) → (first_of (Verdict.text_rules p) ≡ 0) ↔ (length p ≤ 255)
unfolding Verdict.text_rules
text_short p = (λ h. ltb-false _ _ ((none_broken (Verdict.text_rules p) tt).0 h).0, λ h. (none_broken (Verdict.text_rules p) tt).1 (le-ltb _ _ h, tt))

abbrev early_list : List ℕ
early_list = parse_list ++ 11 ∷ []

early_numbers_lem : (lock : Lock) → numbers (Verdict.early_rules lock) ≡ early_list
unfolding Verdict.early_rules
early_numbers_lem lock = simp (numbers_both, parse_numbers_lem, text_numbers)

early_numbered : (lock : Lock) → T (numbered (Verdict.early_rules lock))
early_numbered lock = by_numbers (Verdict.early_rules lock) _ (early_numbers_lem lock) tt

abbrev pub verdict_list : List ℕ
verdict_list = early_list ++ 12 ∷ []

pub verdict_numbers_lem : (lock : Lock) → numbers (Verdict.verdict_rules lock) ≡ verdict_list
unfolding Verdict.verdict_rules Verdict.verifier_rules
verdict_numbers_lem lock = simp (numbers_both, early_numbers_lem)

pub verdict_numbered : (lock : Lock) → T (numbered (Verdict.verdict_rules lock))
verdict_numbered lock = by_numbers (Verdict.verdict_rules lock) _ (verdict_numbers_lem lock) tt

-- the password matches the verifier of a descriptor
abbrev pub Matched : Descriptor → List ℕ → Bool
Matched d p = matches (verifier_opening (Verdict.key_of d p)) d.encrypted_verifier d.encrypted_verifier_hash

-- ---- the ways out

module _ (lock : Lock) where
  abbrev d : Descriptor
  d = descriptor_of lock

  abbrev pub parse_of : Parsed
  parse_of = parsed lock.info lock.scheme

  -- what is answered before anything is hashed
  abbrev early : ℕ
  early = first_of (Verdict.early_rules lock)

  early_in_turn : early ≡ after (first_of (parse_rules lock.info lock.scheme)) (first_of (Verdict.text_rules lock.password))
  unfolding Verdict.early_rules
  early_in_turn = in_turn (parse_rules lock.info lock.scheme) (Verdict.text_rules lock.password) (parse_numbered lock.info lock.scheme)

  -- nothing to object: EncryptionInfo and the scheme are admitted, and the text too
  pub early_zero : early ≡ 0 → Parses lock.info lock.scheme × (first_of (Verdict.text_rules lock.password) ≡ 0)
  early_zero z = after_zero _ _ (sym early_in_turn ∙ z)

  -- as it is judged: by the parse
  pub early_parsed : early ≡ Verdict.early_of parse_of lock.password
  unfolding Verdict.early_of
  early_parsed = rw (parsed_answer lock.info lock.scheme) early_in_turn

  -- then the verifier
  in_order : Verdict.judged lock ≡ after early (first_of (Verdict.verifier_rules d lock.password))
  unfolding Verdict.judged Verdict.verdict_rules
  in_order =
      in_turn (Verdict.early_rules lock) (Verdict.verifier_rules d lock.password) (early_numbered lock)

  -- refused early
  pub by_early : (early ≡ 0 → ⊥) → Verdict.unlocked lock ≡ Verdict.refused_unlock early
  unfolding Verdict.unlocked
  by_early h = rw (in_order, after_some early (first_of (Verdict.verifier_rules d lock.password)) h) (simp (ne_eqb _ _ h))

  -- a refusal before anything is hashed is the verdict's
  refused_early : (r : Refusal) → number r ≡ early → Verdict.unlocked_of (Err r) ≡ Verdict.unlocked lock
  refused_early r e = ap Verdict.refused_unlock e ∙ sym (by_early (λ z. never_zero r (e ∙ z)))

  pub refused_by_parse : (r : Refusal) → parsed_of (Err r) ≡ parse_of → Verdict.unlocked_of (Err r) ≡ Verdict.unlocked lock
  refused_by_parse r h =
      let e : number r ≡ first_of (parse_rules lock.info lock.scheme) = ap (λ (p : Parsed). p.answer) h ∙ parsed_answer lock.info lock.scheme in
      refused_early r (stops r _ e _ ∙ sym early_in_turn)

  pub refused_by_text : Parses lock.info lock.scheme → (r : Refusal) → number r ≡ first_of (Verdict.text_rules lock.password)
      → Verdict.unlocked_of (Err r) ≡ Verdict.unlocked lock
  refused_by_text p r e = refused_early r (e ∙ sym (early_in_turn ∙ after_none _ _ p))

  module _ (p : Parses lock.info lock.scheme) (t : first_of (Verdict.text_rules lock.password) ≡ 0) where
    pub none_early : early ≡ 0
    none_early = early_in_turn ∙ after_none _ _ p ∙ t

  module _ (z : early ≡ 0) where
    rest : Verdict.judged lock ≡ first_of (Verdict.verifier_rules d lock.password)
    rest = in_order ∙ after_none early (first_of (Verdict.verifier_rules d lock.password)) z

    -- the password does not match
    pub by_verifier : Matched d lock.password ≡ false → Verdict.unlocked lock ≡ Verdict.refused_unlock 12
    unfolding Verdict.unlocked Verdict.verifier_rules first_of
    by_verifier m = rw rest (simp m)

    -- it matches
    pub done : Matched d lock.password ≡ true
        → Verdict.unlocked lock ≡ record { answer = 0; fields = d; key = expanded (Verdict.key_of d lock.password) }
    unfolding Verdict.unlocked Verdict.verifier_rules first_of
    done m = rw rest (simp m)

    -- what the rule on the verifier makes of it
    pub refused_by_verifier : (r : Refusal) → number r ≡ cond (not (Matched d lock.password)) 12 0 → Verdict.unlocked_of (Err r) ≡ Verdict.unlocked lock
    refused_by_verifier r e =
        elim (either (Matched d lock.password)) [
          | inl m ↦ absurd (never_zero r (e ∙ rw m))
          | inr m ↦ ap Verdict.refused_unlock (e ∙ rw m) ∙ sym (by_verifier m)
        ]

    pub unlocked_by_verifier : ◌≡◌ {A = ℕ} 0 (cond (not (Matched d lock.password)) 12 0)
        → Verdict.unlocked lock ≡ record { answer = 0; fields = d; key = expanded (Verdict.key_of d lock.password) }
    unlocked_by_verifier e =
        elim (either (Matched d lock.password)) [
          | inl m ↦ done m
          | inr m ↦ let z : ◌≡◌ {A = ℕ} 0 12 = e ∙ rw m in absurd (omega (arith, z))
        ]

-- the answer is the verdict, whichever way out
pub unlocked_answer : (lock : Lock) → (Verdict.unlocked lock).answer ≡ Verdict.judged lock
unfolding Verdict.unlocked Verdict.refused_unlock
unlocked_answer lock =
    elim (either (eqb (Verdict.judged lock) 0)) [
      | inl e ↦ rw e (sym (eqb-true _ _ e))
      | inr e ↦ rw e
    ]

-- so a refusal of `unlock` has the verdict's number, and what it unlocks comes with a verdict of 0
pub refused_number : (lock : Lock) (r : Refusal) → Verdict.unlocked_of (Err r) ≡ Verdict.unlocked lock → number r ≡ Verdict.judged lock
unfolding Verdict.refused_unlock
refused_number lock r e = ap (λ (u : Unlocked). u.answer) e ∙ unlocked_answer lock

pub unlocked_zero : (lock : Lock) (u : Given.Unlocked) → Verdict.unlocked_of (Ok u) ≡ Verdict.unlocked lock → Verdict.judged lock ≡ 0
unlocked_zero lock u e = sym (ap (λ (r : Unlocked). r.answer) e ∙ unlocked_answer lock)

-- a verdict of 0 means an admitted EncryptionInfo and scheme and a short text, and comes with the descriptor and the expanded key
module _ (lock : Lock) (v : Verdict.judged lock ≡ 0) where
  pub admitted : Parses lock.info lock.scheme
  unfolding Verdict.judged Verdict.verdict_rules
  admitted =
      let z = (both_zero (Verdict.early_rules lock) (Verdict.verifier_rules (descriptor_of lock) lock.password) (early_numbered lock) v).0 in
      (early_zero lock z).0

  pub unlocked_fields : (Verdict.unlocked lock).fields ≡ descriptor_of lock
  unfolding Verdict.unlocked
  unlocked_fields = simp v

  pub unlocked_key : (Verdict.unlocked lock).key ≡ expanded (Verdict.key_of (descriptor_of lock) lock.password)
  unfolding Verdict.unlocked
  unlocked_key = simp v

-- ---- what makes a verdict of 0

pub accepted : (lock : Lock) → Admitted lock.info → KnownScheme lock.scheme → length lock.password ≤ 255
    → Matched (descriptor_of lock) lock.password ≡ true → Verdict.judged lock ≡ 0
accepted lock h o l m =
    let z = early_in_turn lock ∙ after_none _ _ (both_parse lock.info lock.scheme h o) ∙ (text_short lock.password).1 l in
    sym (unlocked_answer lock) ∙ ap (λ (u : Unlocked). u.answer) (done lock z m)

-- ---- what the verdict depends on

-- on the parse and the password alone
by_parse : (lock : Lock)
    → Verdict.judged lock ≡ after (Verdict.early_of (parse_of lock) lock.password) (first_of (Verdict.verifier_rules (parse_of lock).fields lock.password))
by_parse lock =
    elim (either (eqb (early lock) 0)) [
      | inl e ↦ rw (← early_parsed lock, parsed_fields lock.info lock.scheme (early_zero lock (eqb-true _ _ e)).0) (in_order lock)
      | inr e ↦ in_order lock ∙ after_some _ _ (eqb-false _ _ e) ∙ sym (rw (← early_parsed lock) (after_some _ _ (eqb-false _ _ e)))
    ]

pub determined : (lock other : Lock) → lock.password ≡ other.password → parse_of lock ≡ parse_of other → Verdict.judged lock ≡ Verdict.judged other
determined lock other p e =
    by_parse lock ∙ ap₂ (λ (x : Parsed) (q : List ℕ). after (Verdict.early_of x q) (first_of (Verdict.verifier_rules x.fields q))) e p ∙ sym (by_parse other)
