-- The ways out of opening a stretch, a law for each: a refusal by the first broken rule, and those bytes of the package. Assumes nothing.
use mathlib.Core.Path.{◌≡◌, refl, sym, ap, ◌∙◌}
use mathlib.Core.Bool.{or-true}
use mathlib.Core.List.{List, [], ◌∷◌, ◌++◌, append_assoc}
use mathlib.Core.Logic.{◌⊎◌, inl, inr, ◌↔◌}
use Prim.Native.Nat.{ℕ, ◌+◌, ◌-◌, ◌≤◌, ◌<◌}
use native.Mathlib.Nat.{le_refl, sub-zero}
use native.Mathlib.Omega.{arith}
use borrow.Author.Tests.{eqb-true, eqb-false, ltb-false, lt-ltb, le-ltb}
use lib.Dec.{T, ltb, eqb}
use lib.ListN.{length, take, drop, replicate}
use lib.Seq.{slice, length-slice, take-take}
use Rattle.std.specs.Prelude.{Err}
use Rattle.octets.proofs.Parts.{drop_take}
use Rattle.answers.specs.Rules.{first_of, after, room_rules, numbered, numbers, OneOf}
use Rattle.answers.specs.Ended.{left, reply}
use Rattle.answers.specs.Refusals.{number, reply_of}
use Rattle.answers.specs.declared.Refusal.{Refusal}
use Rattle.answers.proofs.Refusals.{stops, refused}
use Rattle.answers.proofs.Laws.{either, neither, none_broken, in_turn, then, after_none, after_some, both_zero, front_decides, numbers_both, by_numbers, room_numbers, room_broken, roomy}
use Rattle.answers.proofs.Endings.{ended_answer, ended_refused, ended_done}
use Rattle.steps.specs.Steps.{open_all}
use Rattle.password.specs.Lock.{Lock}
use Rattle.password.specs.Verdict.{judged, verdict_rules, unlocked, unlocked_of}
use Rattle.password.proofs.Laws.{refused_number, unlocked_answer, verdict_numbered, verdict_list, verdict_numbers_lem}
use Rattle.lengths.specs.Lengths.{stream_size, length_rules}
use Rattle.lengths.proofs.Rules.{Fitting, fitting, lengths_numbered, length_numbers}
use Rattle.sheet.specs.Sheet.{sheet_step, open_rules, package_of, opened}
use Rattle.sheet.proofs.Lengths.{Openable, openable, stream_in_turn}
use Rattle.sheet.proofs.Laws.{early_numbered, open_in_turn, open_holds, open_done, open_refused, package_front, length_package}
use Rattle.stretch.specs.Stretch.{out_of_range, range_rules, part_rules, stretch_rules, stretched}

-- ---- the rule on the ends

module _ (from to size : ℕ) where
  pub range_numbered : T (numbered (range_rules from to size))
  unfolding range_rules
  range_numbered = tt

  range_numbers : numbers (range_rules from to size) ≡ 20 ∷ []
  unfolding range_rules
  range_numbers = refl

  to_range : first_of (range_rules from to size) ≡ 0 → (from ≤ to) × (to ≤ size)
  unfolding range_rules out_of_range
  to_range h =
      let n = neither {a = ltb to from} ((none_broken (range_rules from to size) range_numbered).0 h).0 in
      (ltb-false to from n.0, ltb-false size to n.1)

  of_range : (from ≤ to) × (to ≤ size) → first_of (range_rules from to size) ≡ 0
  unfolding range_rules out_of_range
  of_range h = (none_broken (range_rules from to size) range_numbered).1 (rw (le-ltb to from h.0, le-ltb size to h.1), tt)

  range_broken : (to < from) ⊎ (size < to) → first_of (range_rules from to size) ≡ 20
  unfolding range_rules out_of_range first_of
  range_broken (inl h) = rw (lt-ltb to from h)
  range_broken (inr h) = rw (lt-ltb size to h, or-true)

  -- it holds exactly where the stretch lies within the package
  pub in_range : (first_of (range_rules from to size) ≡ 0) ↔ ((from ≤ to) × (to ≤ size))
  in_range = (λ h. to_range h, λ h. of_range h)

-- ---- the rules on the stream

-- none is broken: the lengths fit, the stretch lies within the package, and there is room
pub record Reachable (s : List ℕ) (from to room : ℕ) : Type 0 where
  pub fits : Fitting (length s) (stream_size s)
  pub order : from ≤ to
  pub within : to ≤ stream_size s
  pub roomy : to - from ≤ room

-- so with room for all of it the stream could be opened
pub reachable_opens : {s : List ℕ} {from to room : ℕ} → Reachable s from to room → Openable s (stream_size s)
reachable_opens k = record { fits = k.fits; roomy = le_refl _ }

module _ (s : List ℕ) (from to room : ℕ) where
  abbrev size : ℕ
  size = stream_size s

  part_numbers : numbers (part_rules s from to room) ≡ 13 ∷ 14 ∷ 15 ∷ 20 ∷ 16 ∷ []
  unfolding part_rules
  part_numbers =
      numbers_both (length_rules (length s) size) (range_rules from to size ++ room_rules room (to - from))
      ∙ rw (length_numbers (length s) size, numbers_both (range_rules from to size) (room_rules room (to - from)), range_numbers from to size, room_numbers room (to - from))

  -- the lengths decide, after them the ends, and after these the room
  pub part_in_turn : first_of (part_rules s from to room)
      ≡ after (first_of (length_rules (length s) size)) (after (first_of (range_rules from to size)) (first_of (room_rules room (to - from))))
  unfolding part_rules
  part_in_turn =
      in_turn (length_rules (length s) size) (range_rules from to size ++ room_rules room (to - from)) (lengths_numbered _ _)
      ∙ ap (after (first_of (length_rules (length s) size))) (in_turn (range_rules from to size) (room_rules room (to - from)) (range_numbered from to size))

  to_reachable : first_of (part_rules s from to room) ≡ 0 → Reachable s from to room
  unfolding part_rules
  to_reachable h =
      let z = both_zero (length_rules (length s) size) (range_rules from to size ++ room_rules room (to - from)) (lengths_numbered _ _) h in
      let y = both_zero (range_rules from to size) (room_rules room (to - from)) (range_numbered from to size) z.1 in
      let e = (in_range from to size).0 y.0 in
      record { fits = (fitting (length s) size).0 z.0; order = e.0; within = e.1; roomy = (roomy room (to - from)).0 y.1 }

  of_reachable : Reachable s from to room → first_of (part_rules s from to room) ≡ 0
  unfolding part_rules
  of_reachable k =
      then (length_rules (length s) size) (range_rules from to size ++ room_rules room (to - from)) (lengths_numbered _ _) ((fitting (length s) size).1 k.fits)
      ∙ then (range_rules from to size) (room_rules room (to - from)) (range_numbered from to size) ((in_range from to size).1 (k.order, k.within))
      ∙ (roomy room (to - from)).1 k.roomy

  pub reachable : (first_of (part_rules s from to room) ≡ 0) ↔ Reachable s from to room
  reachable = (λ h. to_reachable h, λ k. of_reachable k)

-- ---- the call

module _ (lock : Lock) (s : List ℕ) (from to : ℕ) (out : List ℕ) where
  abbrev answer : ℕ
  answer = first_of (stretch_rules lock s from to (length out))

  pub stretch_numbers_lem : numbers (stretch_rules lock s from to (length out)) ≡ verdict_list ++ 13 ∷ 14 ∷ 15 ∷ 20 ∷ 16 ∷ []
  unfolding stretch_rules
  stretch_numbers_lem =
      numbers_both (verdict_rules lock) (part_rules s from to (length out)) ∙ rw (verdict_numbers_lem lock, part_numbers s from to (length out))

  pub stretch_numbered : T (numbered (stretch_rules lock s from to (length out)))
  stretch_numbered = by_numbers (stretch_rules lock s from to (length out)) _ stretch_numbers_lem tt

  pub stretch_answer : (stretched lock s from to out).reply.answer ≡ answer
  unfolding stretched
  stretch_answer = ended_answer _ _ _ _

  pub stretch_refused : (answer ≡ 0 → ⊥) → stretched lock s from to out ≡ left (reply answer 0) out
  unfolding stretched
  stretch_refused = ended_refused answer (to - from) (slice from to (package_of lock s)) out

  -- the verdict decides, and after it the stream
  pub stretch_in_turn : answer ≡ after (judged lock) (first_of (part_rules s from to (length out)))
  unfolding stretch_rules judged
  stretch_in_turn = in_turn (verdict_rules lock) (part_rules s from to (length out)) (verdict_numbered lock)

  pub stretch_after : judged lock ≡ 0 → answer ≡ first_of (part_rules s from to (length out))
  stretch_after v = stretch_in_turn ∙ after_none (judged lock) _ v

  pub stretch_done : judged lock ≡ 0 → Reachable s from to (length out)
      → stretched lock s from to out ≡ left (reply 0 (to - from)) (slice from to (package_of lock s) ++ replicate (length out - (to - from)) 0)
  unfolding stretched
  stretch_done v k =
      ended_done answer (to - from) (slice from to (package_of lock s)) out
      (stretch_after v ∙ (reachable s from to (length out)).1 k)

  -- refused by the verdict, and after it by the stream
  module _ (r : Refusal) where
    pub stretch_locked : unlocked_of (Err r) ≡ unlocked lock → left (reply_of (Err r)) out ≡ stretched lock s from to out
    unfolding stretched
    stretch_locked e = refused r _ (stops r _ (refused_number lock r e) _ ∙ sym stretch_in_turn) _ _ out

    pub stretch_unfit : (unlocked lock).answer ≡ 0 → number r ≡ first_of (part_rules s from to (length out)) → left (reply_of (Err r)) out ≡ stretched lock s from to out
    unfolding stretched
    stretch_unfit v e = refused r _ (e ∙ sym (stretch_after (sym (unlocked_answer lock) ∙ v))) _ _ out

  -- for the numbers up to 15 neither the ends nor the room count
  pub stretch_front : (n : ℕ) → (n ≡ 0 → ⊥) → (OneOf (20 ∷ 16 ∷ []) n → ⊥)
      → (answer ≡ n) ↔ (first_of (verdict_rules lock ++ length_rules (length s) (stream_size s)) ≡ n)
  unfolding stretch_rules part_rules
  stretch_front n some absent =
      let rest = range_rules from to (stream_size s) ++ room_rules (length out) (to - from) in
      rw (← append_assoc (verdict_rules lock) (length_rules (length s) (stream_size s)) rest)
      (front_decides (verdict_rules lock ++ length_rules (length s) (stream_size s)) rest (early_numbered lock s out) n some
      (rw (numbers_both (range_rules from to (stream_size s)) (room_rules (length out) (to - from)), range_numbers from to (stream_size s), room_numbers (length out) (to - from)) absent))

  -- no rule is broken: the verdict is 0, and the stretch can be reached
  pub stretch_holds : answer ≡ 0 → (judged lock ≡ 0) × Reachable s from to (length out)
  unfolding stretch_rules judged
  stretch_holds h =
      let z = both_zero (verdict_rules lock) (part_rules s from to (length out)) (verdict_numbered lock) h in
      (z.0, (reachable s from to (length out)).0 z.1)

  -- so it is for an accepted call
  pub stretch_zero : (stretched lock s from to out).reply.answer ≡ 0 → (judged lock ≡ 0) × Reachable s from to (length out)
  stretch_zero h = stretch_holds (sym stretch_answer ∙ h)

  -- and as long as its size says
  pub length_stretch : Reachable s from to (length out) → length (slice from to (package_of lock s)) ≡ to - from
  length_stretch k =
      length-slice from to (package_of lock s) (omega (arith, length_package lock s (stream_size s) (reachable_opens k), k.within))

-- ---- what the rules look at

-- of a stream its length and StreamSize, beside the lock, the ends and the room
pub rules_alike : (lock : Lock) (s t : List ℕ) (from to room : ℕ) → length s ≡ length t → stream_size s ≡ stream_size t
    → stretch_rules lock s from to room ≡ stretch_rules lock t from to room
unfolding stretch_rules part_rules
rules_alike lock s t from to room h k = rw (h, k)

-- and where the verdict is 0 and the lengths fit, the ends and the room
module _ (lock : Lock) (s : List ℕ) (from to : ℕ) (out : List ℕ) (v : judged lock ≡ 0) (f : Fitting (length s) (stream_size s)) where
  abbrev answered : ℕ
  answered = first_of (stretch_rules lock s from to (length out))

  after_lengths : answered ≡ after (first_of (range_rules from to (stream_size s))) (first_of (room_rules (length out) (to - from)))
  after_lengths =
      stretch_after lock s from to out v ∙ part_in_turn s from to (length out)
      ∙ after_none (first_of (length_rules (length s) (stream_size s))) _ ((fitting (length s) (stream_size s)).1 f)

  pub by_range : (to < from) ⊎ (stream_size s < to) → answered ≡ 20
  by_range h =
      let b : first_of (range_rules from to (stream_size s)) ≡ 20 = range_broken from to (stream_size s) h in
      after_lengths ∙ after_some (first_of (range_rules from to (stream_size s))) _ (λ z. omega (arith, z, b)) ∙ b

  pub by_room : from ≤ to → to ≤ stream_size s → length out < to - from → answered ≡ 16
  by_room h k l =
      after_lengths ∙ after_none (first_of (range_rules from to (stream_size s))) _ ((in_range from to (stream_size s)).1 (h, k))
      ∙ room_broken (length out) (to - from) l

-- ---- what comes out

-- those bytes of the package, by what is opened
pub slice_opened : (lock : Lock) (s : List ℕ) (from to : ℕ) → from ≤ to → to ≤ stream_size s
    → slice from to (package_of lock s) ≡ take (to - from) (drop from (open_all (sheet_step lock (stream_size s)) (drop 8 s)))
slice_opened lock s from to h k =
    let x : List ℕ = open_all (sheet_step lock (stream_size s)) (drop 8 s) in
    let e : from + (to - from) ≡ to = omega arith in
    ap (slice from to) (package_front lock s) ∙ ap (drop from) (take-take to (stream_size s) x k ∙ rw e) ∙ drop_take from (to - from) x

-- a stretch over all of the package is the package
module _ (lock : Lock) (s out : List ℕ) where
  all_rules : first_of (stretch_rules lock s 0 (stream_size s) (length out)) ≡ first_of (open_rules lock s (length out))
  all_rules =
      let inside = (in_range 0 (stream_size s) (stream_size s)).1 (omega arith, omega arith) in
      stretch_in_turn lock s 0 (stream_size s) out
      ∙ ap (after (judged lock))
      (part_in_turn s 0 (stream_size s) (length out)
      ∙ ap (after (first_of (length_rules (length s) (stream_size s)))) (after_none (first_of (range_rules 0 (stream_size s) (stream_size s))) _ inside ∙ rw sub-zero)
      ∙ sym (stream_in_turn s (length out)))
      ∙ sym (open_in_turn lock s out)

  all_package : slice 0 (stream_size s) (package_of lock s) ≡ package_of lock s
  all_package = ap (take (stream_size s)) (package_front lock s) ∙ take-take (stream_size s) (stream_size s) _ (le_refl (stream_size s)) ∙ sym (package_front lock s)

  pub stretch_whole : stretched lock s 0 (stream_size s) out ≡ opened lock s out
  unfolding stretched
  stretch_whole =
      elim (either (eqb (first_of (open_rules lock s (length out))) 0)) [
        | inl e ↦
            let z = eqb-true _ _ e in
            let o = open_holds lock s out z in
            ended_done _ _ _ out (all_rules ∙ z) ∙ rw (sub-zero, all_package) (sym (open_done lock s out o.0 ((openable s (length out)).1 o.1)))
        | inr e ↦
            let n = eqb-false _ _ e in
            ended_refused _ _ _ out (λ z. n (sym all_rules ∙ z)) ∙ rw all_rules (sym (open_refused lock s out n))
      ]
