-- Our stretch is a slice of the package, and the rules before the one on its ends are opening's. Of the blocks that it meets each is opened
-- by a look at itself and, where it is linked, at the one before it. Assumes nothing.
use mathlib.Core.Path.{◌≡◌, refl, sym, ap, ap₂, subst, ◌∙◌}
use mathlib.Core.Logic.{◌⊎◌, inl, inr, ◌↔◌}
use mathlib.Core.List.{List, [], ◌∷◌, ◌++◌}
use Prim.Native.Nat.{ℕ, ◌-◌, ◌/◌, ◌≤◌, ◌<◌}
use native.Mathlib.Nat.{div-one}
use native.Mathlib.Omega.{arith}
use borrow.Author.Tests.{eqb-true, eqb-false}
use lib.Dec.{eqb}
use lib.ListN.{length, take, drop, replicate, length-drop, take-append-drop}
use lib.Seq.{slice, take-take, drop-append-le, length-take-le}
use Rattle.answers.specs.Rules.{first_of, OneOf}
use Rattle.answers.specs.Ended.{left, reply, gives}
use Rattle.answers.proofs.Laws.{either, listed_in, not_one}
use Rattle.steps.specs.Steps.{Step, open_units, open_all}
use Rattle.steps.specs.Needed.{Needed, AgreeAt}
use Rattle.steps.proofs.Alike.{stretch_agrees}
use Rattle.password.specs.Lock.{Lock}
use Rattle.password.specs.Verdict.{judged}
use Rattle.lengths.specs.Lengths.{stream_size}
use Rattle.sheet.specs.Sheet.{sheet_step, package_of, opened}
use Rattle.sheet.proofs.Lengths.{openable_blocks}
use Rattle.sheet.proofs.Keyed.{sheet_width, sheet_sized, sheet_cut}
use Rattle.sheet.proofs.Laws.{open_answer, open_zero, open_front, length_package}
use Rattle.stretch.specs.Stretch.{stretch_rules, stretched}
use Rattle.stretch.proofs.Laws.{Reachable, reachable_opens, stretch_numbers_lem, stretch_numbered, stretch_answer, stretch_refused, stretch_front, stretch_done, stretch_holds, stretch_zero, length_stretch, rules_alike, by_range, by_room, slice_opened, stretch_whole}
use Rattle.promises.specs.Words.{Accepted, Answers, written_part}
use Rattle.promises.specs.Demand1.{Call, open_numbers}
use Rattle.promises.specs.BlockLaw.{Linked}
use Rattle.promises.specs.Stretch.{early_numbers, stretch_numbers, PartOf, Counting, Agreeing, SideBySide, Stretches}
use Rattle.promises.proofs.Ended.{ended_call, by_rules, call_wrote}
use Rattle.promises.proofs.Demand1.{demand_1}

-- ---- the call

module _ (lock : Lock) (s : List ℕ) (from to : ℕ) (out : List ℕ) where
  pub stretch_call : Call stretch_numbers (slice from to (package_of lock s)) out (stretched lock s from to out)
  unfolding stretched
  stretch_call =
      ended_call stretch_numbers (first_of (stretch_rules lock s from to (length out))) (to - from) (slice from to (package_of lock s)) out
      (listed_in (stretch_rules lock s from to (length out)) stretch_numbers (stretch_numbers_lem lock s from to out))
      (λ z. let k = (stretch_holds lock s from to out z).1 in (sym (length_stretch lock s from to out k), k.roomy))

  pub stretch_answers : Answers (stretch_rules lock s from to (length out)) (stretched lock s from to out).reply.answer
  stretch_answers = rw (stretch_answer lock s from to out) (by_rules (stretch_rules lock s from to (length out)) (stretch_numbered lock s from to out))

  pub stretch_wrote : Accepted (stretched lock s from to out) → written_part (stretched lock s from to out) ≡ slice from to (package_of lock s)
  stretch_wrote = call_wrote stretch_numbers (slice from to (package_of lock s)) out (stretched lock s from to out) stretch_call

  -- accepted where it can be reached
  pub stretch_accepted : judged lock ≡ 0 → Reachable s from to (length out) → Accepted (stretched lock s from to out)
  stretch_accepted v k = rw (stretch_done lock s from to out v k)

-- ---- (a)

early_some : (n : ℕ) → OneOf early_numbers n → n ≡ 0 → ⊥
early_some n o e = not_one 0 early_numbers tt (subst (OneOf early_numbers) e o)

early_late : (n : ℕ) → OneOf early_numbers n → OneOf (20 ∷ 16 ∷ []) n → ⊥
early_late n o (inl e) = not_one 20 early_numbers tt (subst (OneOf early_numbers) e o)
early_late n o (inr (inl e)) = not_one 16 early_numbers tt (subst (OneOf early_numbers) e o)
early_late n o (inr (inr e)) = e

module _ (lock : Lock) (s whole : List ℕ) (from to : ℕ) (out : List ℕ) where
  alike : (n : ℕ) → OneOf early_numbers n → ((stretched lock s from to out).reply.answer ≡ n) ↔ ((opened lock s whole).reply.answer ≡ n)
  alike n o =
      let a = stretch_front lock s from to out n (early_some n o) (early_late n o) in
      let b = open_front lock s whole n (early_some n o) (λ k. early_late n o (inr k)) in (
        λ h. open_answer lock s whole ∙ b.1 (a.0 (sym (stretch_answer lock s from to out) ∙ h)),
        λ h. stretch_answer lock s from to out ∙ a.1 (b.0 (sym (open_answer lock s whole) ∙ h)),
      )

  module _ (z : Accepted (opened lock s whole)) where
    -- what opening tells
    told : (opened lock s whole).reply.size ≡ stream_size s
    told = ((demand_1.opening lock s whole).accepted z).size ∙ length_package lock s (length whole) (open_zero lock s whole z).1

    part : from ≤ to → to ≤ (opened lock s whole).reply.size → to - from ≤ length out
        → stretched lock s from to out ≡ gives (slice from to (written_part (opened lock s whole))) out
    part h k r =
        let o = open_zero lock s whole z in
        let reach : Reachable s from to (length out) = record { fits = o.1.fits; order = h; within = omega (arith, told, k); roomy = r } in
        let same : written_part (opened lock s whole) ≡ package_of lock s =
        call_wrote open_numbers (package_of lock s) whole (opened lock s whole) (demand_1.opening lock s whole) z in
        rw same
        (stretch_done lock s from to out o.0 reach
        ∙ ap (λ (n : ℕ). left (reply 0 n) (slice from to (package_of lock s) ++ replicate (length out - n) 0)) (sym (length_stretch lock s from to out reach)))

    refused : (n : ℕ) → 0 < n → first_of (stretch_rules lock s from to (length out)) ≡ n → stretched lock s from to out ≡ left (reply n 0) out
    refused n p e =
        stretch_refused lock s from to out (λ w. omega (arith, e, w, p)) ∙ ap (λ (m : ℕ). left (reply m 0) out) e

    outside : (to < from) ⊎ ((opened lock s whole).reply.size < to) → stretched lock s from to out ≡ left (reply 20 0) out
    outside h =
        let o = open_zero lock s whole z in
        refused 20 (omega arith) (by_range lock s from to out o.0 o.1.fits (rw told at h))

    cramped : from ≤ to → to ≤ (opened lock s whole).reply.size → length out < to - from → stretched lock s from to out ≡ left (reply 16 0) out
    cramped h k l =
        let o = open_zero lock s whole z in
        refused 16 (omega arith) (by_room lock s from to out o.0 o.1.fits h (omega (arith, told, k)) l)

  part_of : PartOf (opened lock s whole) from to out (stretched lock s from to out)
  part_of = record { alike = alike; part = λ z. part z; outside = λ z. outside z; cramped = λ z. cramped z }

-- ---- (b)

module _ (lock : Lock) (s t : List ℕ) (from to : ℕ) (a : Agreeing (Counting lock.scheme (stream_size s) from to) s t) where
  abbrev step : Step
  step = sheet_step lock (stream_size s)

  -- as many units of both
  units : ℕ
  units = length (drop 8 s) / 16

  all_units : (x : List ℕ) → length x ≡ length s → open_all step (drop 8 x) ≡ open_units step units (drop 8 x)
  unfolding open_all units
  all_units x h = rw (sheet_width lock (stream_size s), length-drop 8 x, length-drop 8 s, h)

  same_slice : (room : ℕ) → Reachable s from to room → slice from to (package_of lock s) ≡ slice from to (package_of lock t)
  unfolding units
  same_slice room k =
      let w = sheet_width lock (stream_size s) in
      let long : length (drop 8 s) ≡ length (drop 8 t) = length-drop 8 s ∙ rw a.long (sym (length-drop 8 t)) in
      let held = openable_blocks s (stream_size s) (reachable_opens k) in
      let agree : AgreeAt (Needed step.width (Linked lock.scheme (stream_size s)) from to) (drop 8 s) (drop 8 t) = rw w a.bytes in
      slice_opened lock s from to k.order k.within
      ∙ ap (λ (x : List ℕ). take (to - from) (drop from x)) (all_units s refl)
      ∙ stretch_agrees step (drop 8 s) (drop 8 t) (sheet_sized lock (stream_size s)) (Linked lock.scheme (stream_size s)) (sheet_cut lock (stream_size s)) long units from to agree
      (rw w (omega (arith, held, k.within)))
      ∙ ap (λ (x : List ℕ). take (to - from) (drop from x)) (sym (all_units t (sym a.long)) ∙ ap (λ (n : ℕ). open_all (sheet_step lock n) (drop 8 t)) a.size)
      ∙ sym (slice_opened lock t from to k.order (omega (arith, k.within, a.size)))

  independent : (out : List ℕ) → stretched lock s from to out ≡ stretched lock t from to out
  independent out =
      let rules = ap first_of (rules_alike lock s t from to (length out) a.long a.size) in
      elim (either (eqb (first_of (stretch_rules lock s from to (length out))) 0)) [
        | inl e ↦
            let z = eqb-true _ _ e in
            let k = stretch_holds lock s from to out z in
            let l = stretch_holds lock t from to out (sym rules ∙ z) in
            stretch_done lock s from to out k.0 k.1
            ∙ ap (λ (x : List ℕ). left (reply 0 (to - from)) (x ++ replicate (length out - (to - from)) 0)) (same_slice (length out) k.1)
            ∙ sym (stretch_done lock t from to out l.0 l.1)
        | inr e ↦
            let n = eqb-false _ _ e in
            stretch_refused lock s from to out n ∙ ap (λ (m : ℕ). left (reply m 0) out) rules ∙ sym (stretch_refused lock t from to out (λ z. n (rules ∙ z)))
      ]

own_of : (from to j : ℕ) → Needed 1 (λ i. ⊥) from to j → (from ≤ j) × (j < to)
own_of from to j (inl m) = let e = div-one j in (omega (arith, e, m.2), omega (arith, e, m.1))
own_of from to j (inr m) = absurd m.1

-- units of one byte that are not linked, as those of a key stream: only the stretch's own bytes count
pub own_bytes : (from to j : ℕ) → Needed 1 (λ i. ⊥) from to j ↔ ((from ≤ j) × (j < to))
own_bytes from to j = (own_of from to j, λ h. inl (rw (div-one j) (omega (arith, h.0, h.1), omega (arith, h.1), omega (arith, h.0))))

-- ---- (c)

-- slices side by side
slices : (a b c : ℕ) (x : List ℕ) → a ≤ b → b ≤ c → c ≤ length x → slice a b x ++ slice b c x ≡ slice a c x
slices a b c x h k l =
    let y : List ℕ = take c x in
    let front : take b y ≡ take b x = take-take b c x k in
    let long : length (take b y) ≡ b = ap length front ∙ length-take-le b x (omega arith) in
    ap (λ (z : List ℕ). drop a z ++ drop b y) (sym front) ∙ sym (drop-append-le a (take b y) (drop b y) (omega arith)) ∙ ap (drop a) (take-append-drop b y)

module _ (lock : Lock) (s : List ℕ) (a b c : ℕ) (x y z : List ℕ) (ab : a ≤ b) (bc : b ≤ c)
    (rx : b - a ≤ length x) (ry : c - b ≤ length y) (rz : c - a ≤ length z) where
  to_both : Accepted (stretched lock s a b x) × Accepted (stretched lock s b c y) → Accepted (stretched lock s a c z)
  to_both h =
      let k = stretch_zero lock s b c y h.1 in
      stretch_accepted lock s a c z k.0 (record { fits = k.1.fits; order = omega arith; within = k.1.within; roomy = rz })

  of_both : Accepted (stretched lock s a c z) → Accepted (stretched lock s a b x) × Accepted (stretched lock s b c y)
  of_both h =
      let k = stretch_zero lock s a c z h in (
        stretch_accepted lock s a b x k.0 (record { fits = k.1.fits; order = ab; within = omega (arith, k.1.within); roomy = rx }),
        stretch_accepted lock s b c y k.0 (record { fits = k.1.fits; order = bc; within = k.1.within; roomy = ry }),
      )

  side_by_side : SideBySide (stretched lock s a b x) (stretched lock s b c y) (stretched lock s a c z)
  side_by_side =
      record {
        accepted = (to_both, of_both);
        joined = λ h.
            let o = of_both h in
            let k = (stretch_zero lock s a c z h).1 in
            ap₂ ◌++◌ (stretch_wrote lock s a b x o.0) (stretch_wrote lock s b c y o.1)
            ∙ slices a b c (package_of lock s) ab bc (omega (arith, length_package lock s (stream_size s) (reachable_opens k), k.within))
            ∙ sym (stretch_wrote lock s a c z h);
      }

pub stretches_kept : Stretches opened stretched
stretches_kept =
    record {
      call = λ lock s from to out. stretch_call lock s from to out;
      answers = λ lock s from to out. stretch_answers lock s from to out;
      part_of = λ lock s whole from to out. part_of lock s whole from to out;
      independent = λ lock s t from to out a. independent lock s t from to a out;
      side_by_side = λ lock s a b c x y z ab bc rx ry rz. side_by_side lock s a b c x y z ab bc rx ry rz;
      all_of_it = λ lock s out. stretch_whole lock s out;
    }
