-- Demands 1 and 2, and the promises of a stretch, a rescue and new descriptors, leave nothing open: whoever keeps them is the entry itself,
-- for every input. Assumes nothing.
use mathlib.Core.Path.{◌≡◌, refl, sym, ap, ap₂, ◌∙◌}
use mathlib.Core.Bool.{Bool}
use mathlib.Core.List.{List, ◌++◌}
use Prim.Native.Nat.{ℕ, zero, suc, ◌-◌}
use native.Mathlib.Omega.{arith}
use lib.ListN.{length, replicate}
use lib.Seq.{slice}
use Rattle.answers.specs.Rules.{Rule}
use Rattle.answers.specs.Ended.{Left, left, reply}
use Rattle.descriptor.specs.Info.{parse_rules, parsed}
use Rattle.password.specs.Verdict.{judged, verdict_rules}
use Rattle.password.specs.Lock.{Lock}
use Rattle.sheet.specs.Sheet.{open_rules, seal_rules, package_of, filled_with, sealing_of, opened, sealed}
use Rattle.lengths.specs.Lengths.{stream_size}
use Rattle.stretch.specs.Stretch.{stretch_rules, stretched}
use Rattle.rescue.specs.Rescue.{Rescue, rescue, rescue_rules, remains, none, rescued}
use Rattle.rescue.specs.declared.Counts.{Counts}
use Rattle.promises.specs.Words.{Parser, Judge, Opener, Stretcher, Rescuer, Sealer, Accepted, Answers}
use Rattle.promises.specs.Demand1.{Call, Demand1, open_numbers, seal_numbers}
use Rattle.promises.specs.Demand2.{Demand2}
use Rattle.promises.specs.NewInfo.{Input, Typed, Writer, rules_for, info_for, write_numbers, NewInfo}
use Rattle.promises.proofs.Demand1.{demand_1}
use Rattle.promises.proofs.Demand2.{demand_2}
use Rattle.promises.specs.Stretch.{stretch_numbers, Stretches}
use Rattle.promises.specs.Rescue.{rescue_numbers, Longest, Counted, Accounts, Rescues}
use Rattle.promises.proofs.NewInfo.{writes, new_info}
use Rattle.promises.proofs.Stretch.{stretches_kept}
use Rattle.promises.proofs.Rescue.{rescues_kept}

-- one list of rules gives one answer
pub one_answer : (rs : List Rule) (n m : ℕ) → Answers rs n → Answers rs m → n ≡ m
one_answer rs zero m a b = sym (b.none.1 (a.none.0 refl))
one_answer rs (suc n) m a b = sym ((b.first (suc n) (omega arith)).1 ((a.first (suc n) (omega arith)).0 refl))

-- a call is fixed by its answer, its content and its output
module _ (numbers content out : List ℕ) (x y : Left) (c : Call numbers content out x) (d : Call numbers content out y)
    (e : x.reply.answer ≡ y.reply.answer) where
  alike : x.reply.size ≡ y.reply.size → x.out ≡ y.out → x ≡ y
  alike s o = λ i. left (reply (e i) (s i)) (o i)

  by_answer : (n : ℕ) → x.reply.answer ≡ n → x ≡ y
  by_answer zero z =
      let p = c.accepted z in
      let q = d.accepted (sym e ∙ z) in
      let s : x.reply.size ≡ y.reply.size = p.size ∙ sym q.size in
      alike s (p.bytes ∙ ap (λ (n : ℕ). content ++ replicate (length out - n) 0) s ∙ sym q.bytes)
  by_answer (suc n) z =
      let p = c.ends.refused (λ w. omega arith) in
      let q = d.ends.refused (λ w. omega arith) in
      alike (p.none ∙ sym q.none) (p.same ∙ sym q.same)

  pub one_left : x ≡ y
  one_left = by_answer x.reply.answer refl

module _ (parses : Parser) (judges : Judge) (opens : Opener) (seals : Sealer)
    (one : Demand1 parses judges opens seals) (two : Demand2 parses judges opens seals) where
  pub the_judge : (lock : Lock) → judges lock ≡ judged lock
  the_judge lock = one_answer (verdict_rules lock) _ _ (two.verdict_answer lock) (demand_2.verdict_answer lock)

  module _ (info : List ℕ) (scheme : ℕ) where
    same_answer : (parses info scheme).answer ≡ (parsed info scheme).answer
    same_answer = one_answer (parse_rules info scheme) _ _ (two.parse_answer info scheme) (demand_2.parse_answer info scheme)

    same_fields : (n : ℕ) → (parses info scheme).answer ≡ n → (parses info scheme).fields ≡ (parsed info scheme).fields
    same_fields zero z =
        let h = (two.parse_answer info scheme).none.0 z in
        two.descriptor info scheme h ∙ sym (demand_2.descriptor info scheme h)
    same_fields (suc n) z =
        ((one.parsing info scheme).refused (λ w. omega arith)).same
        ∙ sym ((demand_1.parsing info scheme).refused (λ w. omega (arith, same_answer))).same

    pub the_parser : parses info scheme ≡ parsed info scheme
    the_parser = λ i. record { answer = same_answer i; fields = same_fields (parses info scheme).answer refl i }

  pub the_opener : (lock : Lock) (stream out : List ℕ) → opens lock stream out ≡ opened lock stream out
  the_opener lock s out =
      let e : (opens lock s out).reply.answer ≡ (opened lock s out).reply.answer =
      one_answer (open_rules lock s (length out)) _ _ (two.open_answer lock s out) (demand_2.open_answer lock s out) in
      one_left open_numbers (package_of lock s) out _ _ (one.opening lock s out) (demand_1.opening lock s out) e

  pub the_sealer : (lock : Lock) («package» filling : List ℕ) (extra : Bool) (out : List ℕ) → length filling ≡ 16
      → seals lock «package» filling extra out ≡ sealed lock «package» filling extra out
  the_sealer lock «package» filling extra out g =
      let e : (seals lock «package» filling extra out).reply.answer ≡ (sealed lock «package» filling extra out).reply.answer =
      one_answer (seal_rules lock extra (length «package») (length out)) _ _
      (two.seal_answer lock «package» filling extra out g) (demand_2.seal_answer lock «package» filling extra out g) in
      one_left seal_numbers (sealing_of lock (filled_with «package» filling extra)) out _ _
      (one.sealing lock «package» filling extra out g) (demand_1.sealing lock «package» filling extra out g) e

pub the_stretcher : (opens : Opener) (stretches : Stretcher) → Stretches opens stretches → (lock : Lock) (stream : List ℕ) (from to : ℕ) (out : List ℕ)
    → stretches lock stream from to out ≡ stretched lock stream from to out
the_stretcher opens stretches k lock s from to out =
    one_left stretch_numbers (slice from to (package_of lock s)) out _ _ (k.call lock s from to out) (stretches_kept.call lock s from to out)
    (one_answer (stretch_rules lock s from to (length out)) _ _ (k.answers lock s from to out) (stretches_kept.answers lock s from to out))

-- ---- a rescue, by its call, its answer and its counts

-- there is one longest length
one_longest : (size m n : ℕ) → Longest size m → Longest size n → m ≡ n
one_longest size m n a b = omega (arith, a.longest n b.allowed, b.longest m a.allowed)

one_counts : (unit n size : ℕ) (c d : Counts) → Counted unit n size c → Counted unit n size d → c ≡ d
one_counts unit n size c d p q =
    let r : c.recovered ≡ d.recovered = p.recovered ∙ sym q.recovered in
    let z : c.zeroed ≡ d.zeroed = omega (arith, r, p.zeroed, q.zeroed) in
    let s : c.surplus ≡ d.surplus = p.surplus ∙ ap (λ (m : ℕ). n - m) (one_longest size p.most q.most p.longest q.longest) ∙ sym q.surplus in
    λ i. record { recovered = r i; zeroed = z i; surplus = s i }

module _ (lock : Lock) (s out : List ℕ) (unset : Counts) (x y : Rescue) (e : x.left ≡ y.left)
    (ux : (Accepted x.left → ⊥) → x.counts ≡ unset) (uy : (Accepted y.left → ⊥) → y.counts ≡ unset)
    (ax : Accepted x.left → Accounts s out x) (ay : Accepted y.left → Accounts s out y) where
  same_counts : (n : ℕ) → x.left.reply.answer ≡ n → x.counts ≡ y.counts
  same_counts zero z =
      one_counts 16 (length s - 8) (stream_size s) x.counts y.counts (ax z).counted (ay (ap (λ (l : Left). l.reply.answer) (sym e) ∙ z)).counted
  same_counts (suc n) z =
      ux (λ w. omega arith) ∙ sym (uy (λ w. omega (arith, ap (λ (l : Left). l.reply.answer) e)))

  pub one_rescue : x ≡ y
  one_rescue = ap₂ rescue e (same_counts x.left.reply.answer refl)

pub the_rescuer : (opens : Opener) (rescues : Rescuer) → Rescues opens rescues → (lock : Lock) (stream out : List ℕ)
    → rescues lock stream out ≡ rescued lock stream out
the_rescuer opens rescues k lock s out =
    let a = one_answer (rescue_rules lock s (length out)) _ _ (k.answers lock s out) (rescues_kept.answers lock s out) in
    one_rescue lock s out none _ _ (one_left rescue_numbers (remains lock s) out _ _ (k.call lock s out) (rescues_kept.call lock s out) a)
    (k.uncounted lock s out) (rescues_kept.uncounted lock s out) (k.accounts lock s out) (rescues_kept.accounts lock s out)

pub the_writer : (w : Writer) (parses : Parser) (judges : Judge) (opens : Opener) (seals : Sealer) → NewInfo w parses judges opens seals
    → (i : Input) (out : List ℕ) → Typed i → w i out ≡ writes i out
the_writer w parses judges opens seals n i out t =
    one_left write_numbers (info_for i) out _ _ (n.call i out t) (new_info.call i out t)
    (one_answer (rules_for i (length out)) _ _ (n.answers i out t) (new_info.answers i out t))
