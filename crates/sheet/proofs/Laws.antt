-- The ways out of opening and sealing, a law for each: a refusal by the first broken rule, and the content. Assumes nothing.
use mathlib.Core.Path.{◌≡◌, refl, sym, ap, ◌∙◌}
use mathlib.Core.Bool.{Bool}
use mathlib.Core.List.{List, [], ◌∷◌, ◌++◌, append_assoc}
use mathlib.Core.Logic.{◌↔◌}
use Prim.Native.Nat.{ℕ, ◌+◌, ◌-◌, ◌≤◌}
use native.Mathlib.Omega.{arith}
use lib.Dec.{T}
use lib.ListN.{length, take, drop, replicate, length-append}
use lib.Seq.{length-take-le}
use Rattle.std.specs.Prelude.{Err}
use Rattle.octets.specs.Octets.{Bytes}
use Rattle.octets.proofs.Below.{take_below}
use Rattle.octets.proofs.Numbers.{length_le_bytes}
use Rattle.answers.specs.Rules.{first_of, after, room_rules, numbered, numbers, OneOf}
use Rattle.answers.specs.Ended.{left, reply}
use Rattle.answers.specs.Refusals.{number, reply_of}
use Rattle.answers.specs.declared.Refusal.{Refusal}
use Rattle.answers.proofs.Refusals.{stops, refused}
use Rattle.answers.proofs.Laws.{in_turn, after_none, both_zero, front_decides, numbers_both, by_numbers, room_numbers}
use Rattle.answers.proofs.Endings.{ended_answer, ended_refused, ended_done}
use Rattle.steps.specs.Steps.{open_all}
use Rattle.password.specs.Lock.{Lock}
use Rattle.password.specs.Verdict.{judged, verdict_rules, unlocked, unlocked_of}
use Rattle.password.proofs.Laws.{refused_number, verdict_numbered, verdict_list, verdict_numbers_lem}
use Rattle.lengths.specs.Lengths.{stream_size, length_rules, package_limit, filling_for, rounded, allowed, sealed_size}
use Rattle.lengths.proofs.Rules.{length_numbers}
use Rattle.lengths.proofs.Fillings.{filling_most, rounded_whole, filling_allowed, allowed_rounded}
use Rattle.sheet.specs.Frame.{Pair, pair, stream_of, pair_of, Lawful}
use Rattle.sheet.specs.Sheet.{lengths, stream_rules, package_rules, open_rules, seal_rules, sheet_step, sealing, opening, package_of, filled_with, sealing_of, opened, sealed}
use Rattle.sheet.proofs.Lengths.{Openable, openable, openable_blocks, stream_numbers, Sealable, sealable, package_numbers}
use Rattle.sheet.proofs.Keyed.{length_sealed, length_opened}

-- ---- opening and sealing

module _ (lock : Lock) where
  -- the verdict's rules, those on the lengths, and the one on room
  pub open_listed : (s : List ℕ) (room : ℕ) → open_rules lock s room ≡ verdict_rules lock ++ (length_rules (length s) (stream_size s) ++ room_rules room (stream_size s))
  unfolding open_rules stream_rules
  open_listed s room = refl

  module _ (s out : List ℕ) where
    pub open_numbers_lem : numbers (open_rules lock s (length out)) ≡ verdict_list ++ 13 ∷ 14 ∷ 15 ∷ 16 ∷ []
    unfolding open_rules
    open_numbers_lem = numbers_both (verdict_rules lock) (stream_rules s (length out)) ∙ rw (verdict_numbers_lem lock, stream_numbers s (length out))

    pub open_numbered : T (numbered (open_rules lock s (length out)))
    open_numbered = by_numbers (open_rules lock s (length out)) _ open_numbers_lem tt

    pub open_answer : (opened lock s out).reply.answer ≡ first_of (open_rules lock s (length out))
    unfolding opened
    open_answer = ended_answer _ _ _ _

    pub open_refused : (first_of (open_rules lock s (length out)) ≡ 0 → ⊥) → opened lock s out ≡ left (reply (first_of (open_rules lock s (length out))) 0) out
    unfolding opened
    open_refused = ended_refused (first_of (open_rules lock s (length out))) (stream_size s) (package_of lock s) out

    -- the verdict decides, and after it the stream
    pub open_in_turn : first_of (open_rules lock s (length out)) ≡ after (judged lock) (first_of (stream_rules s (length out)))
    unfolding open_rules judged
    open_in_turn = in_turn (verdict_rules lock) (stream_rules s (length out)) (verdict_numbered lock)

    pub open_after : judged lock ≡ 0 → first_of (open_rules lock s (length out)) ≡ first_of (stream_rules s (length out))
    open_after v = open_in_turn ∙ after_none (judged lock) _ v

    pub open_done : judged lock ≡ 0 → first_of (stream_rules s (length out)) ≡ 0
        → opened lock s out ≡ left (reply 0 (stream_size s)) (package_of lock s ++ replicate (length out - stream_size s) 0)
    unfolding opened
    open_done v h = ended_done (first_of (open_rules lock s (length out))) (stream_size s) (package_of lock s) out (open_after v ∙ h)

    -- refused by the verdict, and after it by the stream
    module _ (r : Refusal) where
      pub open_locked : unlocked_of (Err r) ≡ unlocked lock → left (reply_of (Err r)) out ≡ opened lock s out
      unfolding opened
      open_locked e = refused r _ (stops r _ (refused_number lock r e) _ ∙ sym open_in_turn) _ _ out

      pub open_unfit : judged lock ≡ 0 → number r ≡ first_of (stream_rules s (length out)) → left (reply_of (Err r)) out ≡ opened lock s out
      unfolding opened
      open_unfit v e = refused r _ (e ∙ sym (open_after v)) _ _ out

    -- no rule is broken: the verdict is 0, and the stream fits
    pub open_holds : first_of (open_rules lock s (length out)) ≡ 0 → (judged lock ≡ 0) × Openable s (length out)
    unfolding open_rules judged
    open_holds h =
        let z = both_zero (verdict_rules lock) (stream_rules s (length out)) (verdict_numbered lock) h in
        (z.0, (openable s (length out)).0 z.1)

    -- so it is for an accepted call
    pub open_zero : (opened lock s out).reply.answer ≡ 0 → (judged lock ≡ 0) × Openable s (length out)
    open_zero h = open_holds (sym open_answer ∙ h)

    -- the rules before the one on room, and that it does not count for their numbers
    pub early_numbered : T (numbered (verdict_rules lock ++ length_rules (length s) (stream_size s)))
    early_numbered =
        by_numbers (verdict_rules lock ++ length_rules (length s) (stream_size s)) (verdict_list ++ (13 ∷ 14 ∷ 15 ∷ []))
        (numbers_both (verdict_rules lock) (length_rules (length s) (stream_size s)) ∙ rw (verdict_numbers_lem lock, length_numbers (length s) (stream_size s))) tt

    pub open_front : (n : ℕ) → (n ≡ 0 → ⊥) → (OneOf (16 ∷ []) n → ⊥)
        → (first_of (open_rules lock s (length out)) ≡ n) ↔ (first_of (verdict_rules lock ++ length_rules (length s) (stream_size s)) ≡ n)
    unfolding open_rules stream_rules
    open_front n some absent =
        rw (← append_assoc (verdict_rules lock) (length_rules (length s) (stream_size s)) (room_rules (length out) (stream_size s)))
        (front_decides (verdict_rules lock ++ length_rules (length s) (stream_size s)) (room_rules (length out) (stream_size s)) early_numbered n some
        (rw (room_numbers (length out) (stream_size s)) absent))

  module _ («package» filling : List ℕ) (extra : Bool) (out : List ℕ) where
    pub seal_numbers_lem : numbers (seal_rules lock extra (length «package») (length out)) ≡ verdict_list ++ 14 ∷ 16 ∷ []
    unfolding seal_rules
    seal_numbers_lem =
        numbers_both (verdict_rules lock) (package_rules extra (length «package») (length out))
        ∙ rw (verdict_numbers_lem lock, package_numbers extra (length «package») (length out))

    pub seal_numbered : T (numbered (seal_rules lock extra (length «package») (length out)))
    seal_numbered = by_numbers (seal_rules lock extra (length «package») (length out)) _ seal_numbers_lem tt

    abbrev stream : List ℕ
    stream = sealing_of lock (filled_with «package» filling extra)

    pub seal_answer : (sealed lock «package» filling extra out).reply.answer ≡ first_of (seal_rules lock extra (length «package») (length out))
    unfolding sealed
    seal_answer = ended_answer _ _ _ _

    pub seal_refused : (first_of (seal_rules lock extra (length «package») (length out)) ≡ 0 → ⊥)
        → sealed lock «package» filling extra out ≡ left (reply (first_of (seal_rules lock extra (length «package») (length out))) 0) out
    unfolding sealed
    seal_refused = ended_refused (first_of (seal_rules lock extra (length «package») (length out))) (sealed_size extra (length «package»)) stream out

    -- the verdict decides, and after it the package
    pub seal_in_turn : first_of (seal_rules lock extra (length «package») (length out)) ≡ after (judged lock) (first_of (package_rules extra (length «package») (length out)))
    unfolding seal_rules judged
    seal_in_turn = in_turn (verdict_rules lock) (package_rules extra (length «package») (length out)) (verdict_numbered lock)

    pub seal_after : judged lock ≡ 0 → first_of (seal_rules lock extra (length «package») (length out)) ≡ first_of (package_rules extra (length «package») (length out))
    seal_after v = seal_in_turn ∙ after_none (judged lock) _ v

    pub seal_done : judged lock ≡ 0 → first_of (package_rules extra (length «package») (length out)) ≡ 0
        → sealed lock «package» filling extra out
        ≡ left (reply 0 (sealed_size extra (length «package»))) (stream ++ replicate (length out - sealed_size extra (length «package»)) 0)
    unfolding sealed
    seal_done v h =
        ended_done (first_of (seal_rules lock extra (length «package») (length out))) (sealed_size extra (length «package»)) stream out (seal_after v ∙ h)

    -- refused by the verdict, and after it by the package
    module _ (r : Refusal) where
      pub seal_locked : unlocked_of (Err r) ≡ unlocked lock → left (reply_of (Err r)) out ≡ sealed lock «package» filling extra out
      unfolding sealed
      seal_locked e = refused r _ (stops r _ (refused_number lock r e) _ ∙ sym seal_in_turn) _ _ out

      pub seal_unfit : judged lock ≡ 0 → number r ≡ first_of (package_rules extra (length «package») (length out))
          → left (reply_of (Err r)) out ≡ sealed lock «package» filling extra out
      unfolding sealed
      seal_unfit v e = refused r _ (e ∙ sym (seal_after v)) _ _ out

    -- no rule is broken: the verdict is 0, and the package fits
    pub seal_holds : first_of (seal_rules lock extra (length «package») (length out)) ≡ 0 → (judged lock ≡ 0) × Sealable extra (length «package») (length out)
    unfolding seal_rules judged
    seal_holds h =
        let z = both_zero (verdict_rules lock) (package_rules extra (length «package») (length out)) (verdict_numbered lock) h in
        (z.0, (sealable extra (length «package») (length out)).0 z.1)

    -- so it is for an accepted call
    pub seal_zero : (sealed lock «package» filling extra out).reply.answer ≡ 0 → (judged lock ≡ 0) × Sealable extra (length «package») (length out)
    seal_zero h = seal_holds (sym seal_answer ∙ h)

    -- of the filling bytes only the filling counts
    pub seal_alike : (other : List ℕ) → take (filling_for extra (length «package»)) filling ≡ take (filling_for extra (length «package»)) other
        → sealed lock «package» filling extra out ≡ sealed lock «package» other extra out
    unfolding sealed filled_with
    seal_alike other e = rw e

    -- and the choice only through the filling's length
    pub seal_by_length : (other : Bool) → filling_for extra (length «package») ≡ filling_for other (length «package»)
        → sealed lock «package» filling extra out ≡ sealed lock «package» filling other out
    unfolding sealed filled_with seal_rules package_rules sealed_size rounded
    seal_by_length other e = rw e

  -- ---- how long the content is

  -- the package is the front of what is opened
  pub package_front : (s : List ℕ) → package_of lock s ≡ take (stream_size s) (open_all (sheet_step lock (stream_size s)) (drop 8 s))
  unfolding package_of pair_of opening
  package_front s = refl

  pub package_held : (s : List ℕ) (room : ℕ) → Openable s room → stream_size s ≤ length (opening lock (stream_size s) (drop 8 s))
  package_held s room k = omega (arith, length_opened lock (stream_size s) (drop 8 s), openable_blocks s room k)

  pub length_package : (s : List ℕ) (room : ℕ) → Openable s room → length (package_of lock s) ≡ stream_size s
  unfolding package_of pair_of
  length_package s room k = length-take-le (stream_size s) (opening lock (stream_size s) (drop 8 s)) (package_held s room k)

  module _ (p : Pair) (extra : Bool) (f : length p.filling ≡ filling_for extra (length p.«package»)) where
    pub length_ciphertext : length (sealing lock (length p.«package») (p.«package» ++ p.filling)) ≡ rounded extra (length p.«package»)
    unfolding rounded
    length_ciphertext =
        let n : length (p.«package» ++ p.filling) ≡ length p.«package» + length p.filling = length-append p.«package» p.filling in
        omega (arith, length_sealed lock (length p.«package») (p.«package» ++ p.filling), rounded_whole extra (length p.«package»))

    pub length_sealing : length (sealing_of lock p) ≡ sealed_size extra (length p.«package»)
    unfolding sealing_of stream_of sealed_size
    length_sealing = simp (length-append, length_le_bytes, length_ciphertext)

-- ---- the filling

module _ («package» filling : List ℕ) (extra : Bool) (h : length filling ≡ 16) where
  -- sixteen bytes are enough
  pub length_filling : length (filled_with «package» filling extra).filling ≡ filling_for extra (length «package»)
  unfolding filled_with
  length_filling = length-take-le (filling_for extra (length «package»)) filling (omega (arith, filling_most extra (length «package»)))

  -- what a call seals is a lawful pair
  pub filled_lawful : Bytes «package» → Bytes filling → length «package» ≤ package_limit → Lawful lengths (filled_with «package» filling extra)
  unfolding lengths filled_with
  filled_lawful b c l =
      record {
        package_bytes = b;
        filling_bytes = take_below (filling_for extra (length «package»)) filling c;
        limited = l;
        filled = filling_allowed extra (length «package») _ length_filling;
      }

-- a lawful pair's filling is as long as one choice makes it
pub filling_chosen : (p : Pair) → Lawful lengths p → (extra : Bool) × (length p.filling ≡ filling_for extra (length p.«package»))
unfolding lengths allowed rounded
filling_chosen p w =
    let k = allowed_rounded (length p.«package») (length p.«package» + length p.filling) w.filled in
    (k.0, omega (arith, k.1))

-- bytes that begin with a pair's filling give the pair, with that choice
pub filled_begins : (p : Pair) (filling : List ℕ) (extra : Bool) → length p.filling ≡ filling_for extra (length p.«package») → take (length p.filling) filling ≡ p.filling
    → filled_with p.«package» filling extra ≡ p
unfolding filled_with
filled_begins p filling extra f e = ap (pair p.«package») (ap (λ (n : ℕ). take n filling) (sym f) ∙ e)
