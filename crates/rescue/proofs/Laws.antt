-- The ways out of a rescue, a law for each: a refusal by the first broken rule, and what there is of the package. And that its rules are
-- opening's without no. 15. Assumes nothing.
use mathlib.Core.Path.{◌≡◌, refl, sym, ap, ap₂, ◌∙◌}
use mathlib.Core.Bool.{cond, not}
use mathlib.Core.List.{List, [], ◌∷◌, ◌++◌, append_assoc}
use mathlib.Core.Logic.{◌↔◌, inl, inr}
use Prim.Native.Nat.{ℕ, zero, suc, ◌-◌, ◌≤◌}
use borrow.Author.Tests.{ltb-false, le-ltb}
use lib.Dec.{T, ltb}
use lib.ListN.{length, replicate}
use Rattle.std.specs.Prelude.{Err}
use Rattle.answers.specs.Rules.{Rule, rule, first_of, after, room_rules, numbered, numbers, OneOf}
use Rattle.answers.specs.Ended.{left, reply}
use Rattle.answers.specs.Refusals.{number}
use Rattle.answers.specs.declared.Refusal.{Refusal}
use Rattle.answers.proofs.Refusals.{never_zero, stops}
use Rattle.answers.proofs.Laws.{in_turn, then, after_none, both_zero, none_broken, front_holds, left_out, not_one, numbers_both, by_numbers, room_numbers, roomy}
use Rattle.answers.proofs.Endings.{ended_answer, ended_refused, ended_done}
use Rattle.password.specs.Lock.{Lock}
use Rattle.password.specs.Verdict.{judged, verdict_rules, unlocked, unlocked_of}
use Rattle.password.proofs.Laws.{refused_number, verdict_numbered, verdict_list, verdict_numbers_lem}
use Rattle.lengths.specs.Lengths.{stream_size, package_limit, length_allowed, size_rules}
use Rattle.lengths.proofs.Rules.{length_last, limited, size_numbered, size_numbers}
use Rattle.sheet.specs.Sheet.{sheet_step, open_rules}
use Rattle.sheet.proofs.Laws.{open_listed}
use Rattle.rescue.specs.Rescue.{head_rules, rescue_rules, counted, none, rescue, remains, if_done, rescued, rescued_of}
use Rattle.rescue.specs.declared.Counts.{Counts}

-- ---- the rules on the stream

-- none is broken: StreamSize is there, within the limit, and has room
pub record Rescuable (s : List ℕ) (room : ℕ) : Type 0 where
  pub headed : 8 ≤ length s
  pub limited : stream_size s ≤ package_limit
  pub roomy : stream_size s ≤ room

module _ (s : List ℕ) (room : ℕ) where
  abbrev size : ℕ
  size = stream_size s

  -- after the first
  abbrev rest : List Rule
  rest = size_rules size ++ room_rules room size

  head_numbers : numbers (head_rules s room) ≡ 13 ∷ 14 ∷ 16 ∷ []
  unfolding head_rules
  head_numbers = ap (◌∷◌ 13) (numbers_both (size_rules size) (room_rules room size) ∙ rw (size_numbers size, room_numbers room size))

  -- StreamSize decides, and after it the room
  pub head_in_turn : first_of (head_rules s room) ≡ cond (ltb (length s) 8) 13 (after (first_of (size_rules size)) (first_of (room_rules room size)))
  unfolding head_rules first_of
  head_in_turn = ap (cond (ltb (length s) 8) 13) (in_turn (size_rules size) (room_rules room size) (size_numbered size))

  to_rescuable : first_of (head_rules s room) ≡ 0 → Rescuable s room
  unfolding head_rules
  to_rescuable h =
      let z = both_zero (rule 13 (ltb (length s) 8) ∷ []) rest tt h in
      let y = both_zero (size_rules size) (room_rules room size) (size_numbered size) z.1 in
      record {
        headed = ltb-false _ _ ((none_broken (rule 13 (ltb (length s) 8) ∷ []) tt).0 z.0).0;
        limited = (limited size).0 y.0;
        roomy = (roomy room size).0 y.1;
      }

  of_rescuable : Rescuable s room → first_of (head_rules s room) ≡ 0
  of_rescuable k =
      head_in_turn ∙ rw (le-ltb _ _ k.headed) (after_none (first_of (size_rules size)) _ ((limited size).1 k.limited) ∙ (roomy room size).1 k.roomy)

  pub rescuable : (first_of (head_rules s room) ≡ 0) ↔ Rescuable s room
  rescuable = (λ h. to_rescuable h, λ k. of_rescuable k)

-- ---- by the answer

pub if_done_lem : {A : Type 0} (n : ℕ) (x y : A) → n ≡ 0 → if_done n x y ≡ x
unfolding if_done
if_done_lem n x y e = rw e

pub if_refused : {A : Type 0} (n : ℕ) (x y : A) → (n ≡ 0 → ⊥) → if_done n x y ≡ y
unfolding if_done
if_refused zero x y h = absurd (h refl)
if_refused (suc n) x y h = refl

-- ---- the call

module _ (lock : Lock) (s out : List ℕ) where
  abbrev answer : ℕ
  answer = first_of (rescue_rules lock s (length out))

  -- what is reported where it is 0
  abbrev pub counts_of : Counts
  counts_of = counted (sheet_step lock (stream_size s)).width (length s - 8) (stream_size s)

  pub rescue_numbers_lem : numbers (rescue_rules lock s (length out)) ≡ verdict_list ++ 13 ∷ 14 ∷ 16 ∷ []
  unfolding rescue_rules
  rescue_numbers_lem = numbers_both (verdict_rules lock) (head_rules s (length out)) ∙ rw (verdict_numbers_lem lock, head_numbers s (length out))

  pub rescue_numbered : T (numbered (rescue_rules lock s (length out)))
  rescue_numbered = by_numbers (rescue_rules lock s (length out)) _ rescue_numbers_lem tt

  pub rescue_answer : (rescued lock s out).left.reply.answer ≡ answer
  unfolding rescued
  rescue_answer = ended_answer _ _ _ _

  -- the verdict decides, and after it the stream
  pub rescue_in_turn : answer ≡ after (judged lock) (first_of (head_rules s (length out)))
  unfolding rescue_rules judged
  rescue_in_turn = in_turn (verdict_rules lock) (head_rules s (length out)) (verdict_numbered lock)

  pub rescue_refused : (answer ≡ 0 → ⊥) → rescued lock s out ≡ rescue (left (reply answer 0) out) none
  unfolding rescued
  rescue_refused h = ap₂ rescue (ended_refused answer (stream_size s) (remains lock s) out h) (if_refused answer counts_of none h)

  pub rescue_done : answer ≡ 0 → rescued lock s out ≡ rescue (left (reply 0 (stream_size s)) (remains lock s ++ replicate (length out - stream_size s) 0)) counts_of
  unfolding rescued
  rescue_done z = ap₂ rescue (ended_done answer (stream_size s) (remains lock s) out z) (if_done_lem answer counts_of none z)

  pub rescue_after : judged lock ≡ 0 → answer ≡ first_of (head_rules s (length out))
  rescue_after v = rescue_in_turn ∙ after_none (judged lock) _ v

  -- refused by the verdict, and after it by the stream
  module _ (r : Refusal) where
    refused : number r ≡ answer → rescued_of (Err r) out ≡ rescued lock s out
    refused e =
        ap (λ (n : ℕ). rescue (left (reply n 0) out) none) e ∙ sym (rescue_refused (λ z. never_zero r (e ∙ z)))

    pub rescue_locked : unlocked_of (Err r) ≡ unlocked lock → rescued_of (Err r) out ≡ rescued lock s out
    rescue_locked e = refused (stops r _ (refused_number lock r e) _ ∙ sym rescue_in_turn)

    pub rescue_unfit : judged lock ≡ 0 → number r ≡ first_of (head_rules s (length out)) → rescued_of (Err r) out ≡ rescued lock s out
    rescue_unfit v e = refused (e ∙ sym (rescue_after v))

  -- the verdict is 0, and the stream can be rescued: so no rule is broken
  pub rescue_kept : judged lock ≡ 0 → Rescuable s (length out) → answer ≡ 0
  rescue_kept v k = rescue_after v ∙ (rescuable s (length out)).1 k

  pub rescue_holds : answer ≡ 0 → (judged lock ≡ 0) × Rescuable s (length out)
  unfolding rescue_rules judged
  rescue_holds h =
      let z = both_zero (verdict_rules lock) (head_rules s (length out)) (verdict_numbered lock) h in
      (z.0, (rescuable s (length out)).0 z.1)

  -- so it is for an accepted call
  pub rescue_zero : (rescued lock s out).left.reply.answer ≡ 0 → (judged lock ≡ 0) × Rescuable s (length out)
  rescue_zero h = rescue_holds (sym rescue_answer ∙ h)

-- ---- beside opening

module _ (lock : Lock) (s : List ℕ) (room : ℕ) where
  -- the rules before no. 15, and it
  abbrev sized : List Rule
  sized = rule 13 (ltb (length s) 8) ∷ size_rules (stream_size s)

  abbrev before : List Rule
  before = verdict_rules lock ++ sized

  abbrev long : List Rule
  long = rule 15 (not (length_allowed (stream_size s) (length s - 8))) ∷ []

  before_numbers : numbers before ≡ verdict_list ++ 13 ∷ 14 ∷ []
  before_numbers =
      numbers_both (verdict_rules lock) sized ∙ rw (verdict_numbers_lem lock, size_numbers (stream_size s))

  open_apart : open_rules lock s room ≡ before ++ (long ++ room_rules room (stream_size s))
  open_apart =
      open_listed lock s room
      ∙ ap (λ (l : List Rule). verdict_rules lock ++ (l ++ room_rules room (stream_size s))) (length_last (length s) (stream_size s))
      ∙ ap (λ (l : List Rule). verdict_rules lock ++ l) (append_assoc sized long (room_rules room (stream_size s)))
      ∙ sym (append_assoc (verdict_rules lock) sized (long ++ room_rules room (stream_size s)))

  rescue_apart : rescue_rules lock s room ≡ before ++ room_rules room (stream_size s)
  unfolding rescue_rules head_rules
  rescue_apart = sym (append_assoc (verdict_rules lock) sized (room_rules room (stream_size s)))

  -- what opening answers is answered, but for 15
  pub as_opening : (n : ℕ) → (n ≡ 15 → ⊥) → first_of (open_rules lock s room) ≡ n → first_of (rescue_rules lock s room) ≡ n
  as_opening n other h =
      ap first_of rescue_apart ∙ left_out before long (room_rules room (stream_size s)) n one (sym (ap first_of open_apart) ∙ h)
    where
      one : OneOf (15 ∷ []) n → ⊥
      one (inl e) = other e
      one (inr e) = e

  -- in place of which the room decides
  pub for_fifteen : first_of (open_rules lock s room) ≡ 15 → first_of (rescue_rules lock s room) ≡ first_of (room_rules room (stream_size s))
  for_fifteen h =
      let z = front_holds before (long ++ room_rules room (stream_size s)) 15 (rw before_numbers (not_one 15 (0 ∷ verdict_list ++ 13 ∷ 14 ∷ []) tt)) (sym (ap first_of open_apart) ∙ h) in
      ap first_of rescue_apart ∙ then before (room_rules room (stream_size s)) (by_numbers before _ before_numbers tt) z
