-- The verdict on a password (01, rules 11 and 12; 004 2.3.4.9, 000 section 6), and what comes with it. Assumes nothing.
use Rattle.std.specs.Prelude.{Result, Ok, Err, cond, not, List, [], ◌∷◌, ◌++◌, ℕ, ltb, eqb, length, replicate}
use Rattle.answers.specs.Refusals.{number}
use Rattle.answers.specs.declared.Refusal.{Refusal}
use Rattle.answers.specs.Rules.{Rule, rule, first_of, after}
use Rattle.aes.specs.Aes.{expanded, expanded_of}
use Rattle.aes.specs.declared.Expanded.{Expanded}
use Rattle.descriptor.specs.Info.{Parsed, parse_rules, zeroed}
use Rattle.descriptor.specs.declared.Descriptor.{Descriptor}
use Rattle.derivation.specs.Key.{key_bytes}
use Rattle.password.specs.Lock.{Lock, descriptor_of}
use Rattle.password.specs.Verifier.{verifier_opening, matches}
use Rattle.password.specs.declared.Unlocked as Given

-- the key of a descriptor and a password, as long as the descriptor says
unfoldable pub key_of : Descriptor → (password : List ℕ) → List ℕ
key_of d password = key_bytes d.key_size.0 d.salt password

-- ---- the rules

-- on the password's text
unfoldable pub text_rules : (password : List ℕ) → List Rule
text_rules password = rule 11 (ltb 255 (length password)) ∷ []

-- on the password against the verifier
unfoldable pub verifier_rules : Descriptor → (password : List ℕ) → List Rule
verifier_rules d password =
    rule 12 (not (matches (verifier_opening (key_of d password)) d.encrypted_verifier d.encrypted_verifier_hash)) ∷ []

-- those that are judged before anything is hashed, in order: 1 to 10, 19 and 11
unfoldable pub early_rules : Lock → List Rule
early_rules lock = parse_rules lock.info lock.scheme ++ text_rules lock.password

-- what they come to, from the parse and the password
unfoldable pub early_of : Parsed → (password : List ℕ) → ℕ
early_of p password = after p.answer (first_of (text_rules password))

-- 1 to 10, 19, 11 and 12, in order
unfoldable pub verdict_rules : Lock → List Rule
verdict_rules lock = early_rules lock ++ verifier_rules (descriptor_of lock) lock.password

-- ---- the verdict

-- what `verdict` answers
unfoldable pub judged : Lock → ℕ
judged lock = first_of (verdict_rules lock)

-- what `unlock` replies: 0 beside the descriptor and the expanded key, or a refusal's number
pub record Unlocked : Type 0 where
  pub answer : ℕ
  pub fields : Descriptor
  pub key : Expanded

-- a refusal carries nothing: zeros in every field, and a key of zeros and no rounds
unfoldable pub refused_unlock : (answer : ℕ) → Unlocked
refused_unlock answer = record { answer = answer; fields = zeroed; key = record { bytes = replicate 240 0; rounds = 0 } }

abbrev pub unlocked_of : Result Given.Unlocked Refusal → Unlocked
unlocked_of (Ok u) = record { answer = 0; fields = u.fields; key = expanded_of u.key }
unlocked_of (Err r) = refused_unlock (number r)

-- what `unlock` gives: the descriptor and the expanded key where the answer is 0
unfoldable pub unlocked : Lock → Unlocked
unlocked lock =
    let d : Descriptor = descriptor_of lock in
    cond (eqb (judged lock) 0) (record { answer = 0; fields = d; key = expanded (key_of d lock.password) }) (refused_unlock (judged lock))
