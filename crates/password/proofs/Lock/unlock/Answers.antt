-- Each way out is a law of `unlocked`: refused before anything is hashed, a wrong password, and the key.
use mathlib.Core.Path.{◌≡◌, sym, ap, ap₂, subst⁻¹, ◌∙◌}
use mathlib.Core.Bool.{true}
use Prim.Native.Nat.{◌≤◌, ◌<◌}
use native.Mathlib.Omega.{arith}
use Rattle.std.proofs.lemmas.Result.{err_from_is_err_and}
use Rattle.answers.specs.Rules.{first_of}
use lib.ListN.{length}
use Rattle.aes.specs.Aes.{key_length, expanded}
use Rattle.aes.specs.declared.Expanded.{Expanded}
use Rattle.blocks.proofs.Aes.{expanded_rounds}
use Rattle.descriptor.specs.Info.{Parsed, described}
use Rattle.descriptor.specs.declared.Descriptor.{Descriptor}
use Rattle.descriptor.proofs.Laws.{Parses, parsed_answer, parsed_fields, well_formed}
use Rattle.password.specs.Lock.{asked}
use Rattle.password.specs.Verdict as Verdict
use Rattle.password.proofs.Laws.{key_short, key_fits, text_short, refused_by_parse, refused_by_text, none_early, Matched, refused_by_verifier, unlocked_by_verifier}
use Rattle.password.proofs.Lock.unlock.Goals as goal
use Rattle.password.proofs.Lock.unlock.Goals.{In_ok-fields, After-expanded_key, After-matches-matched}

-- a stream that parses, and the fields that it gives
parses : (c : In_ok-fields) → Parses c.args.self.now.info.now c.args.self.now.scheme
parses c = sym (ap (λ (p : Parsed). p.answer) c.in_ok-fields.ensures ∙ parsed_answer _ _)

fields : (c : In_ok-fields) → c.in_ok-fields.fields ≡ described c.args.self.now.info.now c.args.self.now.scheme
fields c = ap (λ (p : Parsed). p.fields) c.in_ok-fields.ensures ∙ parsed_fields _ _ (parses c)

pub returns-in_err-fields : goal.returns-in_err-fields
returns-in_err-fields c =
    let p = err_from_is_err_and c.from_residual.result c.from_residual.ensures.1 in
    rw (p.1, p.2) (refused_by_parse (asked c.args.self.now) _ c.in_err-fields.ensures)

pub returns-in_err-text_answer : goal.returns-in_err-text_answer
returns-in_err-text_answer c =
    let p = err_from_is_err_and c.from_residual-in_err-text_answer.result c.from_residual-in_err-text_answer.ensures.1 in
    rw (p.1, p.2) (refused_by_text (asked c.args.self.now) (parses (goal.at.returns-in_err-text_answer c).In_ok-fields) _ c.in_err-text_answer.ensures)

pub invariant_of-salted : goal.invariant_of-salted
invariant_of-salted c = record { short = (text_short _).0 (sym c.in_ok-text_answer.ensures) }

pub expanded_key-requires : goal.expanded_key-requires
expanded_key-requires c =
    let a = c.args.self.now in
    let w = (goal.at.expanded_key-requires c).In_ok-fields in
    rw (fields w) (omega (arith, key_short (described a.info.now a.scheme) a.password.now (well_formed _ _ (parses w))))

-- the expanded key is that of the descriptor and the password
key : (c : After-expanded_key) → c.expanded_key.result ≡ expanded (Verdict.key_of c.in_ok-fields.fields c.args.self.now.password.now)
unfolding Verdict.key_of
key c = c.expanded_key.ensures

fits : (c : In_ok-fields) → key_length (length (Verdict.key_of c.in_ok-fields.fields c.args.self.now.password.now)) ≡ true
fits c =
    let a = c.args.self.now in
    rw (fields c) (key_fits (described a.info.now a.scheme) a.password.now (well_formed _ _ (parses c)))

pub round_keys-key-requires : goal.round_keys-key-requires
round_keys-key-requires c =
    let w = goal.at.round_keys-key-requires c in
    subst⁻¹ (λ (x : Expanded). (0 < x.rounds) × (x.rounds ≤ 14)) (key w.After-expanded_key) (expanded_rounds _ (fits w.In_ok-fields))

-- what the check says of it
checked : (c : After-matches-matched) → (f : key_length (length (Verdict.key_of c.in_ok-fields.fields c.args.self.now.password.now)) ≡ true)
    → c.expanded_key.result ≡ expanded (Verdict.key_of c.in_ok-fields.fields c.args.self.now.password.now)
    → c.matches-matched.result ≡ Matched c.in_ok-fields.fields c.args.self.now.password.now
checked c f k = c.matches-matched.ensures _ f (c.round_keys-key.ensures ∙ k)

none : (c : After-matches-matched) → Parses c.args.self.now.info.now c.args.self.now.scheme → first_of (Verdict.early_rules (asked c.args.self.now)) ≡ 0
none c p = none_early (asked c.args.self.now) p (sym c.in_ok-text_answer.ensures)

pub returns-in_err-rule : goal.returns-in_err-rule
returns-in_err-rule c =
    let w = goal.at.returns-in_err-rule c in
    let f = w.In_ok-fields in
    let p = err_from_is_err_and c.from_residual-in_err-rule.result c.from_residual-in_err-rule.ensures.1 in
    let m = checked w.After-matches-matched (fits f) (key w.After-expanded_key) ∙ ap (λ (d : Descriptor). Matched d c.args.self.now.password.now) (fields f) in
    rw (p.1, p.2) (refused_by_verifier (asked c.args.self.now) (none w.After-matches-matched (parses f)) _ (rw m at c.in_err-rule.ensures))

pub returns : goal.returns
returns c =
    let w = goal.at.returns c in
    let f = w.In_ok-fields in
    let k = key w.After-expanded_key in
    let m = checked w.After-matches-matched (fits f) k ∙ ap (λ (d : Descriptor). Matched d c.args.self.now.password.now) (fields f) in
    ap₂ (λ (d : Descriptor) (x : Expanded). record { answer = 0; fields = d; key = x }) (fields f)
    (c.round_keys-key.ensures ∙ k ∙ ap (λ (d : Descriptor). expanded (Verdict.key_of d c.args.self.now.password.now)) (fields f))
    ∙ sym (unlocked_by_verifier (asked c.args.self.now) (none w.After-matches-matched (parses f)) (rw m at c.in_ok-rule.ensures))
