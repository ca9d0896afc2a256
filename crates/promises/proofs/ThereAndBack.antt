-- What a second call makes of what a first one left: the part that is lent on is exactly what was written, so the second call is one on the
-- content itself, and demand 3 says the rest. Assumes nothing.
use mathlib.Core.Path.{◌≡◌, refl, sym, ap, subst, subst⁻¹, ◌∙◌}
use mathlib.Core.Logic.{inl, inr}
use mathlib.Core.Bool.{Bool, false}
use mathlib.Core.List.{List, [], ◌∷◌, ◌++◌}
use Prim.Native.Nat.{ℕ, ◌-◌, ◌≤◌}
use native.Mathlib.Omega.{arith}
use borrow.Author.Tests.{eqb-true, eqb-false}
use lib.Dec.{ltb, eqb}
use lib.ListN.{length, take, replicate, length-append}
use lib.Seq.{take_at}
use Rattle.octets.specs.Octets.{Bytes}
use Rattle.answers.specs.Rules.{Rule, rule, OneOf, first_of, room_rules}
use Rattle.answers.specs.Ended.{Left, left, gives}
use Rattle.answers.specs.Ended.{Reply}
use Rattle.answers.proofs.Laws.{either, in_turn, listed_in, numbers_both}
use Rattle.descriptor.specs.Info.{parsed}
use Rattle.descriptor.specs.Info.{Parsed}
use Rattle.password.specs.Verdict.{verdict_rules, judged}
use Rattle.password.specs.Lock.{Lock, lock_of}
use Rattle.password.proofs.Laws.{verdict_numbered, verdict_numbers_lem}
use Rattle.lengths.specs.Lengths.{package_limit, rounded, sealed_size, large, size_rules}
use Rattle.sheet.specs.Frame.{Pair, Lawful}
use Rattle.sheet.specs.Sheet.{lengths, package_rules, seal_rules, package_of, filled_with, sealing_of, opened, sealed}
use Rattle.sheet.proofs.Lengths.{sealable}
use Rattle.sheet.proofs.Laws.{open_zero, seal_answer, seal_zero, seal_done, filled_lawful, length_filling}
use Rattle.sheet.proofs.Pairs.{stream_package, stream_opens}
use Rattle.promises.specs.Words.{Scheme, Accepted, written_part}
use Rattle.promises.specs.Demand1.{Holds, Call, open_numbers}
use Rattle.promises.specs.Demand3.{Begins, Sealed, Only}
use Rattle.promises.specs.NewInfo.{Input, Typed, GivesBack}
use Rattle.promises.proofs.Ended.{wrote}
use Rattle.promises.proofs.Demand2.{demand_2}
use Rattle.promises.proofs.Demand3.{demand_3}
use Rattle.promises.proofs.NewInfo.{writes, new_info}
use Rattle.promises.specs.Calls.{Opening, Sealing, Writing, Roomy, Returned, Resealed, Reading}
use Rattle.promises.proofs.Calls.{opening, sealing, writing}

-- ---- what is lent on

module _ {content out : List ℕ} {r : Reply} {now : List ℕ} (h : Holds content out (left r now)) where
  -- the first `size` bytes are the content
  part : take r.size now ≡ content
  part = ap (take r.size) h.bytes ∙ take_at content _ r.size (sym h.size)

  -- and lie within the output
  within : r.size ≤ length now
  within = omega (arith, ap length h.bytes, length-append content (replicate (length out - r.size) 0), h.size)

-- ---- sealed, then opened

-- what sealing answers opening may answer: its rules are those of opening, but for two that never apply
listed_too : (lock : Lock) (extra : Bool) (size room : ℕ) → OneOf (0 ∷ open_numbers) (first_of (seal_rules lock extra size room))
unfolding seal_rules package_rules size_rules room_rules first_of
listed_too lock extra size room =
    let rules : List Rule = rule 13 false ∷ rule 14 (large size) ∷ rule 15 false ∷ rule 16 (ltb room (sealed_size extra size)) ∷ [] in
    subst (OneOf (0 ∷ open_numbers))
    (in_turn (verdict_rules lock) rules (verdict_numbered lock) ∙ sym (in_turn (verdict_rules lock) (package_rules extra size room) (verdict_numbered lock)))
    (listed_in (verdict_rules lock ++ rules) open_numbers (numbers_both (verdict_rules lock) rules ∙ rw (verdict_numbers_lem lock)))

module _ (lock : Lock) («package» filling : List ℕ) (extra : Bool) (stream : List ℕ) (g : length filling ≡ 16)
    (r : Reply) (now : List ℕ) (e : left r now ≡ sealed lock «package» filling extra stream) where
  first : Sealing lock «package» filling extra stream (left r now)
  first = subst⁻¹ (Sealing lock «package» filling extra stream) e (sealing lock «package» filling extra stream g)

  -- with room the sealing is accepted
  seals : (out : List ℕ) → Roomy lock «package» extra stream out → r.answer ≡ 0
  unfolding package_limit sealed_size rounded
  seals out k =
      let v : judged lock ≡ 0 = (demand_2.verdict lock).1 k.accepts in
      let fits = (sealable extra (length «package») (length stream)).1 (record { limited = k.limited; roomy = k.seals }) in
      ap (λ (l : Left). l.reply.answer) (e ∙ seal_done lock «package» filling extra stream v fits)

  pub returned_refused : (out : List ℕ) → (r.answer ≡ 0 → ⊥) → Returned lock «package» extra stream out (left r out)
  returned_refused out z =
      let n : r.answer ≡ first_of (seal_rules lock extra (length «package») (length stream)) =
      ap (λ (l : Left). l.reply.answer) e ∙ seal_answer lock «package» filling extra stream in
      record {
        call = record {
          ends = record {
            answer = rw n (listed_too lock extra (length «package») (length stream));
            refused = λ h. record { none = (first.call.ends.refused z).none; same = refl };
          };
          accepted = λ h. absurd (z h);
        };
        accepted = (λ h. absurd (z h), λ k. absurd (z (seals out k)));
      }

  module _ (z : r.answer ≡ 0) where
    pub sealed_within : r.size ≤ length now
    sealed_within = within (first.call.accepted z)

    abbrev p : Pair
    p = filled_with «package» filling extra

    zero_is : (sealed lock «package» filling extra stream).reply.answer ≡ 0
    zero_is = ap (λ (l : Left). l.reply.answer) (sym e) ∙ z

    v : judged lock ≡ 0
    v = (seal_zero lock «package» filling extra stream zero_is).0

    module _ (out : List ℕ) (b : Bytes «package») (c : Bytes filling) (r' : Reply) (now' : List ℕ)
        (e' : left r' now' ≡ opened lock (take r.size now) out) where
      w : Lawful lengths p
      w = filled_lawful «package» filling extra g b c (seal_zero lock «package» filling extra stream zero_is).1.limited

      of_stream : left r' now' ≡ opened lock (sealing_of lock p) out
      of_stream = e' ∙ ap (λ (s : List ℕ). opened lock s out) (part (first.call.accepted z))

      -- it is a call of which the package itself is the content
      second : Call open_numbers «package» out (left r' now')
      unfolding filled_with
      second =
          subst (λ (x : List ℕ). Call open_numbers x out (left r' now')) (stream_package lock v p w)
          (subst⁻¹ (Opening lock (sealing_of lock p) out) of_stream (opening lock _ out)).call

      to_roomy : r'.answer ≡ 0 → Roomy lock «package» extra stream out
      unfolding package_limit sealed_size rounded
      to_roomy a =
          let k = (seal_zero lock «package» filling extra stream zero_is).1 in
          let h = second.accepted a in
          record { accepts = (demand_2.verdict lock).0 v; limited = k.limited; seals = k.roomy; opens = omega (arith, h.size, h.room) }

      of_roomy : Roomy lock «package» extra stream out → r'.answer ≡ 0
      unfolding filled_with
      of_roomy k = ap (λ (l : Left). l.reply.answer) (of_stream ∙ stream_opens lock v p w out k.opens)

      pub returned : Returned lock «package» extra stream out (left r' now')
      returned = record { call = second; accepted = (λ a. to_roomy a, λ k. of_roomy k) }

-- ---- opened, then sealed anew

module _ (lock : Lock) (s filling : List ℕ) (extra : Bool) (out : List ℕ)
    (r : Reply) (now : List ℕ) (e : left r now ≡ opened lock s out) where
  before : Opening lock s out (left r now)
  before = subst⁻¹ (Opening lock s out) e (opening lock s out)

  pub resealed_refused : (again : List ℕ) → (r.answer ≡ 0 → ⊥) → Resealed lock s filling extra out now again (left r again)
  resealed_refused again z =
      let u = before.call.ends.refused z in
      record { opened = λ h. absurd (z (before.answers.none.1 h)); refused = λ h. (u, record { none = u.none; same = refl }) }

  module _ (z : r.answer ≡ 0) where
    pub opened_within : r.size ≤ length now
    opened_within = within (before.call.accepted z)

    abbrev mine : List ℕ
    mine = package_of lock s

    came : take r.size now ≡ mine
    came = part (before.call.accepted z)

    module _ (b : Bytes s) where
      accepted : Accepted (opened lock s out)
      accepted = ap (λ (l : Left). l.reply.answer) (sym e) ∙ z

      -- the one pair that the stream is the sealing of
      only : Only sealed lock s mine
      only =
          subst (Only sealed lock s) (ap written_part (sym e) ∙ came)
          ((demand_3.under lock (open_zero lock s out accepted).0).c s out b accepted)

      module _ (g : length filling ≡ 16) (c : Bytes filling) (again : List ℕ) (r' : Reply) (now' : List ℕ)
          (e' : left r' now' ≡ sealed lock (take r.size now) filling extra again) where
        of_package : left r' now' ≡ sealed lock mine filling extra again
        of_package = e' ∙ ap (λ (x : List ℕ). sealed lock x filling extra again) came

        second_again : Sealing lock mine filling extra again (left r' now')
        second_again = subst⁻¹ (Sealing lock mine filling extra again) of_package (sealing lock mine filling extra again g)

        abbrev asked : Pair
        asked = filled_with mine filling extra

        begins : Begins asked filling extra
        unfolding filled_with
        begins = record { sixteen = g; chosen = length_filling mine filling extra g; begins = ap (λ (n : ℕ). take n filling) (length_filling mine filling extra g) }

        lawful : Lawful lengths asked
        unfolding lengths
        lawful =
            filled_lawful mine filling extra g (subst Bytes only.came_out only.lawful.package_bytes) c
            (subst (λ (x : List ℕ). length x ≤ package_limit) only.came_out only.lawful.limited)

        to_begins : left r' now' ≡ gives s again → Begins only.it filling extra × (length s ≤ length again)
        unfolding filled_with
        to_begins h =
            let a : r'.answer ≡ 0 = ap (λ (l : Left). l.reply.answer) h in
            let call : Sealed sealed lock asked s =
            record {
              filling = filling;
              extra = extra;
              out = again;
              begins = begins;
              accepted = ap (λ (l : Left). l.reply.answer) (sym of_package) ∙ a;
              wrote = ap written_part (sym of_package ∙ h) ∙ wrote s again;
            } in (
              subst (λ (q : Pair). Begins q filling extra) (only.one asked lawful call) begins,
              omega (arith, ap (λ (l : Left). l.reply.size) h, (second_again.call.accepted a).room),
            )

        of_begins : Begins only.it filling extra × (length s ≤ length again) → left r' now' ≡ gives s again
        of_begins k =
            of_package
            ∙ ap (λ (x : List ℕ). sealed lock x filling extra again) (sym only.came_out)
            ∙ only.sealing.always filling extra again k.0 k.1

        pub resealed : Resealed lock s filling extra out now again (left r' now')
        resealed =
            let h = before.call.accepted z in
            record {
              opened = λ _. record {
                «package» = mine;
                came_out = h.bytes ∙ ap (λ (n : ℕ). mine ++ replicate (length out - n) 0) h.size;
                only = only;
                anew = (λ k. to_begins k, λ k. of_begins k);
              };
              refused = λ f. absurd (f (before.answers.none.0 z));
            }

-- ---- written, then read

-- what a parser and a judge give of one stream, as what they gave
constant : (i : Input) (info : List ℕ) (scheme : ℕ) → GivesBack parsed judged i info scheme
    → GivesBack (λ _ _. parsed info scheme) (λ _. judged (lock_of info i.password scheme)) i info scheme
constant i info scheme k =
    record {
      answer = k.answer;
      major = k.major;
      minor = k.minor;
      alg = k.alg;
      key = k.key;
      place = k.place;
      name = k.name;
      salt = k.salt;
      verifier = k.verifier;
      hash = k.hash;
      scheme_is = k.scheme_is;
      named = k.named;
      verdict = k.verdict;
    }

module _ (i : Input) (out : List ℕ) (t : Typed i) (r : Reply) (now : List ℕ) (e : left r now ≡ writes i out) where
  wrote_info : Writing i out (left r now)
  wrote_info = subst⁻¹ (Writing i out) e (writing i out t)

  pub written_within : r.size ≤ length now
  written_within =
      elim (either (eqb r.answer 0)) [
        | inl z ↦ within (wrote_info.call.accepted (eqb-true _ _ z))
        | inr z ↦ omega (arith, (wrote_info.call.ends.refused (eqb-false _ _ z)).none)
      ]

  abbrev info : List ℕ
  info = take r.size now

  module _ (scheme : ℕ) (p : Parsed) (n : ℕ) (f : p ≡ parsed info scheme) (h : n ≡ judged (lock_of info i.password scheme)) where
    back : r.answer ≡ 0 → Scheme scheme → GivesBack (λ _ _. p) (λ _. n) i info scheme
    back a s =
        let k = new_info.back i out t (ap (λ (l : Left). l.reply.answer) (sym e) ∙ a) scheme s in
        subst⁻¹ (λ (q : Parsed). GivesBack (λ _ _. q) (λ _. n) i info scheme) f
        (subst⁻¹ (λ (m : ℕ). GivesBack (λ _ _. parsed info scheme) (λ _. m) i info scheme) h
        (constant i info scheme (subst⁻¹ (λ (l : Left). GivesBack parsed judged i (written_part l) scheme) e k)))

    pub read : Reading i scheme out (left r now) p n
    read = record { wrote = wrote_info; back = λ a s. back a s }
