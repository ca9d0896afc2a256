-- A contract speaks of the reply that the definitions make of what a call gives. Two results have two replies, since no two refusals have
-- one number and none has 0: so a contract fixes the result. Assumes nothing.
use mathlib.Core.Path.{◌≡◌, refl, sym, ap, ◌∙◌}
use mathlib.Core.List.{List, [], ◌∷◌}
use Prim.Native.Nat.{ℕ}
use lib.ListN.{get_or}
use Rattle.std.specs.Prelude.{Result, Ok, Err}
use Rattle.answers.specs.Ended.{Reply}
use Rattle.answers.specs.Refusals.{number, answer_of, reply_of}
use Rattle.answers.specs.declared.Refusal.{Refusal}
use Rattle.answers.specs.declared.Refusal.TheVariants.{InfoShort, Version, HeaderSize, InfoLength, NameLength, AlgId, AlgIdHash, KeySize, SaltSize, VerifierHashSize, PasswordLong, PasswordWrong, StreamShort, StreamSize, StreamLength, Room, Files, MessageLong, Scheme, Range}
use Rattle.answers.proofs.Refusals.{never_zero}
use Rattle.sha1_digest.specs.Sha1.{Hashed, hashed_of}
use Rattle.aes.specs.Aes.{BlockReply, block_reply, expanded_of}
use Rattle.descriptor.specs.Info.{Parsed, parsed_of, Suite, suite_reply}
use Rattle.descriptor.specs.declared.Descriptor.{Descriptor}
use Rattle.descriptor.specs.declared.Suite as Found
use Rattle.password.specs.Verdict.{Unlocked, unlocked_of}
use Rattle.password.specs.declared.Unlocked as Given
use Rattle.rescue.specs.Rescue.{Rescue, rescued_of}
use Rattle.rescue.specs.declared.Rescued.{Rescued}

-- ---- the refusals

-- by number, from 1 on
abbrev by_number : List Refusal
by_number =
    InfoShort ∷ InfoShort ∷ Version ∷ HeaderSize ∷ InfoLength ∷ NameLength ∷ AlgId ∷ AlgIdHash ∷ KeySize ∷ SaltSize ∷ VerifierHashSize
    ∷ PasswordLong ∷ PasswordWrong ∷ StreamShort ∷ StreamSize ∷ StreamLength ∷ Room ∷ Files ∷ MessageLong ∷ Scheme ∷ Range ∷ []

found : (r : Refusal) → get_or by_number (number r) InfoShort ≡ r
found InfoShort = refl
found Version = refl
found HeaderSize = refl
found InfoLength = refl
found NameLength = refl
found AlgId = refl
found AlgIdHash = refl
found KeySize = refl
found SaltSize = refl
found VerifierHashSize = refl
found PasswordLong = refl
found PasswordWrong = refl
found StreamShort = refl
found StreamSize = refl
found StreamLength = refl
found Room = refl
found Files = refl
found MessageLong = refl
found Scheme = refl
found Range = refl

pub one_refusal : (r s : Refusal) → number r ≡ number s → r ≡ s
one_refusal r s e = sym (found r) ∙ ap (λ (n : ℕ). get_or by_number n InfoShort) e ∙ found s

-- ---- the results

-- of any view that gives an accepted value back beside 0, and a refusal's number
module _ {A R : Type 0} (view : Result A Refusal → R) (answer : R → ℕ) (value : R → A)
    (accepted : (a : A) → (answer (view (Ok a)) ≡ 0) × (value (view (Ok a)) ≡ a)) (refused : (r : Refusal) → answer (view (Err r)) ≡ number r) where
  one_of : (x y : Result A Refusal) → view x ≡ view y → x ≡ y
  one_of (Ok a) (Ok b) e = ap Ok (sym (accepted a).1 ∙ ap value e ∙ (accepted b).1)
  one_of (Ok a) (Err s) e = absurd (never_zero s (sym (refused s) ∙ sym (ap answer e) ∙ (accepted a).0))
  one_of (Err r) (Ok b) e = absurd (never_zero r (sym (refused r) ∙ ap answer e ∙ (accepted b).0))
  one_of (Err r) (Err s) e = ap Err (one_refusal r s (sym (refused r) ∙ ap answer e ∙ refused s))

pub one_size : (x y : Result ℕ Refusal) → reply_of x ≡ reply_of y → x ≡ y
one_size = one_of reply_of (λ (r : Reply). r.answer) (λ (r : Reply). r.size) (λ a. (refl, refl)) (λ r. refl)

pub one_verdict : (x y : Result Unit Refusal) → answer_of x ≡ answer_of y → x ≡ y
one_verdict = one_of answer_of (λ (n : ℕ). n) (λ (n : ℕ). tt) (λ a. (refl, refl)) (λ r. refl)

pub one_hash : (x y : Result (List ℕ) Refusal) → hashed_of x ≡ hashed_of y → x ≡ y
one_hash = one_of hashed_of (λ (r : Hashed). r.answer) (λ (r : Hashed). r.bytes) (λ a. (refl, refl)) (λ r. refl)

pub one_block : (x y : Result (List ℕ) Refusal) → block_reply x ≡ block_reply y → x ≡ y
one_block = one_of block_reply (λ (r : BlockReply). r.answer) (λ (r : BlockReply). r.block) (λ a. (refl, refl)) (λ r. refl)

pub one_descriptor : (x y : Result Descriptor Refusal) → parsed_of x ≡ parsed_of y → x ≡ y
one_descriptor = one_of parsed_of (λ (r : Parsed). r.answer) (λ (r : Parsed). r.fields) (λ a. (refl, refl)) (λ r. refl)

pub one_suite : (x y : Result Found.Suite Refusal) → suite_reply x ≡ suite_reply y → x ≡ y
one_suite =
    one_of suite_reply (λ (r : Suite). r.answer) (λ (r : Suite). record { bits = r.bits; rounds = r.rounds }) (λ a. (refl, refl)) (λ r. refl)

-- of what is unlocked the descriptor and the round keys
pub one_unlocked : (u v : Given.Unlocked) → unlocked_of (Ok u) ≡ unlocked_of (Ok v) → (u.fields ≡ v.fields) × (expanded_of u.key ≡ expanded_of v.key)
one_unlocked u v e = (ap (λ (r : Unlocked). r.fields) e, ap (λ (r : Unlocked). r.key) e)

pub one_rescued : (out : List ℕ) (x y : Result Rescued Refusal) → rescued_of x out ≡ rescued_of y out → x ≡ y
one_rescued out =
    one_of (λ (x : Result Rescued Refusal). rescued_of x out) (λ (r : Rescue). r.left.reply.answer)
    (λ (r : Rescue). record { size = r.left.reply.size; counts = r.counts }) (λ a. (refl, refl)) (λ r. refl)
