-- Our rescue recovers what opening's own definition gives of whole blocks, so the laws of parts of one stream say how its results go together.
-- Its rules are opening's without one. Assumes nothing.
use mathlib.Core.Path.{◌≡◌, refl, sym, ap, ap₂, subst, ◌∙◌}
use mathlib.Core.List.{List, ◌++◌}
use Prim.Native.Nat.{ℕ, ◌+◌, ◌-◌, ◌*◌, ◌/◌, ◌≤◌, ◌<◌}
use native.Mathlib.Omega.{arith}
use lib.Dec.{lit<}
use lib.ListN.{length, take, drop, replicate, length-append, length-take, length-drop, length-replicate}
use lib.Seq.{take_at, drop_at}
use Rattle.octets.specs.Octets.{le_bytes}
use Rattle.octets.proofs.Below.{append_below, replicate_below, le_bytes_bytes}
use Rattle.octets.proofs.Numbers.{length_le_bytes}
use Rattle.answers.specs.Rules.{first_of}
use Rattle.answers.specs.Ended.{Left}
use Rattle.answers.proofs.Laws.{listed_in, room_broken, roomy}
use Rattle.steps.specs.Steps.{unit, open_units, open_all}
use Rattle.password.specs.Lock.{Lock}
use Rattle.password.specs.Verdict.{judged}
use Rattle.lengths.specs.Lengths.{stream_size, package_limit}
use Rattle.lengths.proofs.StreamSize.{size_told}
use Rattle.sheet.specs.Sheet.{sheet_step, package_of, opened}
use Rattle.sheet.proofs.Lengths.{openable}
use Rattle.sheet.proofs.Keyed.{sheet_width}
use Rattle.sheet.proofs.Laws.{open_answer, open_zero, open_done}
use Rattle.rescue.specs.Rescue.{rescue_rules, longest, Rescue, rescue, remains, rescued}
use Rattle.rescue.specs.declared.Counts.{Counts}
use Rattle.rescue.proofs.Recovered.{counted_told, longest_allowed, longest_most}
use Rattle.rescue.proofs.Laws.{Rescuable, counts_of, rescue_numbers_lem, rescue_numbered, rescue_answer, rescue_refused, rescue_kept, rescue_holds, rescue_zero, as_opening, for_fifteen}
use Rattle.rescue.proofs.Parts.{length_remains, unit_there, out_left, counts_told, recovered_there, same_size, there_front, within, length_within, there_within, completed, rescue_opened}
use Rattle.promises.specs.Words.{Accepted, Answers, written_part}
use Rattle.promises.specs.Demand1.{Call, open_numbers}
use Rattle.promises.specs.Rescue.{rescue_numbers, AsOpening, all_of, recovered_part, Accounts, surplus_aside, Completion, Longer, BothHave, Rescues, AnyCut}
use Rattle.promises.specs.Possible.{Long}
use Rattle.promises.proofs.Ended.{ended_call, by_rules, call_wrote}
use Rattle.promises.proofs.Demand1.{demand_1}
use Rattle.promises.proofs.BlockLaw.{units_alike}

-- ---- the call

module _ (lock : Lock) (s out : List ℕ) where
  rescue_call : Call rescue_numbers (remains lock s) out (rescued lock s out).left
  unfolding rescued
  rescue_call =
      ended_call rescue_numbers (first_of (rescue_rules lock s (length out))) (stream_size s) (remains lock s) out
      (listed_in (rescue_rules lock s (length out)) rescue_numbers (rescue_numbers_lem lock s out))
      (λ z. (sym (length_remains lock s), (rescue_holds lock s out z).1.roomy))

  rescue_answers : Answers (rescue_rules lock s (length out)) (rescued lock s out).left.reply.answer
  rescue_answers = rw (rescue_answer lock s out) (by_rules (rescue_rules lock s (length out)) (rescue_numbered lock s out))

  as_opened : AsOpening (opened lock s out) (stream_size s) out (rescued lock s out).left
  as_opened =
      let a = rescue_answer lock s out in
      let o = open_answer lock s out in
      record {
        alike = λ h. a ∙ as_opening lock s (length out) _ (λ e. h (o ∙ e)) refl ∙ sym o;
        enough = λ e h. a ∙ for_fifteen lock s (length out) (sym o ∙ e) ∙ (roomy (length out) (stream_size s)).1 h;
        cramped = λ e h. a ∙ for_fifteen lock s (length out) (sym o ∙ e) ∙ room_broken (length out) (stream_size s) h;
      }

  -- ---- where it is accepted

  module _ (z : Accepted (rescued lock s out).left) where
    pub no_rule : first_of (rescue_rules lock s (length out)) ≡ 0
    no_rule = sym (rescue_answer lock s out) ∙ z

    abbrev there : List ℕ
    there = package_of lock s

    -- what was recovered is what is there of the package
    pub part_there : recovered_part (rescued lock s out) ≡ there
    part_there =
        ap₂ take (recovered_there lock s out no_rule) (out_left lock s out no_rule) ∙ take_at there (replicate (length out - length there) 0) (length there) refl

    -- (c)
    accounted : Accounts s out (rescued lock s out)
    accounted =
        let c : (rescued lock s out).counts ≡ counts_of lock s out = counts_told lock s out no_rule in
        let r : (rescued lock s out).counts.recovered ≡ length there = recovered_there lock s out no_rule in
        let t = counted_told 16 (length s - 8) (stream_size s) in
        record {
          counted = rw (c, sheet_width lock (stream_size s))
              (record {
                recovered = t.0;
                zeroed = t.1;
                most = longest (stream_size s);
                longest = record { allowed = longest_allowed (stream_size s); longest = longest_most (stream_size s) };
                surplus = t.2;
              });
          zeros = rw (r, out_left lock s out no_rule) (drop_at there (replicate (length out - length there) 0) (length there) refl);
        }

    -- surplus aside
    begun : surplus_aside s (rescued lock s out) ≡ take (within s) s
    begun =
        ap (λ (n : ℕ). take (length s - n) s)
        (ap (λ (c : Counts). c.surplus) (counts_told lock s out no_rule) ∙ (counted_told (sheet_step lock (stream_size s)).width (length s - 8) (stream_size s)).2)

    -- (a)
    begins : (rest whole : List ℕ) → let l = opened lock (surplus_aside s (rescued lock s out) ++ rest) whole in
        Accepted l → recovered_part (rescued lock s out) ≡ take (rescued lock s out).counts.recovered (written_part l)
    begins rest whole a =
        let k : List ℕ = take (within s) s in
        let h : 8 ≤ length s = (rescue_holds lock s out no_rule).1.headed in
        let same : package_of lock k ≡ there = there_within lock s h in
        let n : (rescued lock s out).counts.recovered ≡ length (package_of lock k) = recovered_there lock s out no_rule ∙ ap length (sym same) in
        let wrote : written_part (opened lock (surplus_aside s (rescued lock s out) ++ rest) whole) ≡ package_of lock (k ++ rest) =
        call_wrote open_numbers _ whole _ (demand_1.opening lock (surplus_aside s (rescued lock s out) ++ rest) whole) a ∙ rw begun in
        part_there ∙ sym same ∙ there_front lock k rest (omega (arith, length_within lock s h)) ∙ sym (ap₂ take n wrote)

    -- (e)
    completion : Completion opened lock (surplus_aside s (rescued lock s out)) (stream_size s)
    completion =
        let v = rescue_holds lock s out no_rule in
        let missing : ℕ = longest (stream_size s) - (length s - 8) in
        record {
          rest = replicate missing 0;
          bytes = λ b. append_below (surplus_aside s (rescued lock s out)) (replicate missing 0) b (replicate_below missing 0 (lit< tt));
          complete = λ whole r.
              let o = completed lock s v.1.headed (replicate missing 0) (length whole) (length-replicate missing 0) v.1.limited r in
              rw (begun, open_done lock (take (within s) s ++ replicate missing 0) whole v.0 ((openable _ (length whole)).1 o));
        }

-- (b)
of_whole : (lock : Lock) (s out : List ℕ) → Accepted (opened lock s out)
    → rescued lock s out ≡ rescue (opened lock s out) (all_of (opened lock s out).reply.size)
of_whole lock s out z =
    let a = sym (open_answer lock s out) ∙ z in
    let o = open_zero lock s out z in
    rescue_opened lock s out a
    ∙ ap (λ (n : ℕ). rescue (opened lock s out) (all_of n)) (sym (ap (λ (l : Left). l.reply.size) (open_done lock s out o.0 ((openable s (length out)).1 o.1))))

-- (d)
module _ (lock : Lock) (s rest x y : List ℕ) (z : Accepted (rescued lock s x).left) (h : stream_size s ≤ length y) where
  abbrev more : List ℕ
  more = s ++ rest

  longer_accepted : Accepted (rescued lock more y).left
  longer_accepted =
      let v = rescue_zero lock s x z in
      let e : stream_size more ≡ stream_size s = same_size lock s rest v.1.headed in
      let k : Rescuable more (length y) =
      record { headed = simp length-append (omega (arith, v.1.headed)); limited = rw e v.1.limited; roomy = rw e h } in
      rescue_answer lock more y ∙ rescue_kept lock more y v.0 k

  longer : Longer (rescued lock s x) (rescued lock more y)
  longer =
      let v = rescue_zero lock s x z in
      let n = recovered_there lock s x (no_rule lock s x z) in
      let m = recovered_there lock more y (no_rule lock more y longer_accepted) in
      let front = there_front lock s rest v.1.headed in
      record {
        accepted = longer_accepted;
        more = omega (arith, n, m, ap length front, length-take (length (package_of lock s)) (package_of lock more));
        same = part_there lock s x z ∙ front ∙ sym (ap₂ take n (part_there lock more y longer_accepted));
      }

-- ---- (f)

module _ (lock : Lock) (i : ℕ) (s t x y : List ℕ) (b : BothHave lock.scheme i s t)
    (zs : Accepted (rescued lock s x).left) (zt : Accepted (rescued lock t y).left) where
  abbrev plain : List ℕ → List ℕ
  plain r = open_all (sheet_step lock (stream_size r)) (drop 8 r)

  -- what a rescue wrote of a block that is there whole
  wrote_block : (r out : List ℕ) → Accepted (rescued lock r out).left → 16 * i + 16 ≤ length r - 8
      → unit 16 i (written_part (rescued lock r out).left) ≡ take (stream_size r - 16 * i) (unit 16 i (plain r))
  wrote_block r out z h =
      ap (unit 16 i) (call_wrote rescue_numbers (remains lock r) out _ (rescue_call lock r out) z)
      ∙ subst (λ (u : ℕ). u * i + u ≤ length r - 8 → unit u i (remains lock r) ≡ take (stream_size r - u * i) (unit u i (plain r))) (sheet_width lock (stream_size r))
      (unit_there lock r i) h

  -- as many units as a stream has, of which block i is one
  units : List ℕ → ℕ
  units r = length (drop 8 r) / (sheet_step lock (stream_size r)).width

  among : (r : List ℕ) → 16 * i + 16 ≤ length r - 8 → i < units r
  unfolding units
  among r h = rw (sheet_width lock (stream_size r), length-drop) (omega (arith, h))

  same_block : unit 16 i (plain s) ≡ unit 16 i (plain t)
  unfolding open_all units
  same_block =
      units_alike lock (stream_size s) i s t b.block b.before (units s) (units t) (among s b.one) (among t b.other)
      ∙ ap (λ (n : ℕ). unit 16 i (open_units (sheet_step lock n) (units t) (drop 8 t))) b.size

  blocks : unit 16 i (written_part (rescued lock s x).left) ≡ unit 16 i (written_part (rescued lock t y).left)
  blocks =
      wrote_block s x zs b.one ∙ ap₂ (λ (n : ℕ) (l : List ℕ). take (n - 16 * i) l) b.size same_block ∙ sym (wrote_block t y zt b.other)

pub rescues_kept : Rescues opened rescued
rescues_kept =
    record {
      call = λ lock s out. rescue_call lock s out;
      uncounted = λ lock s out h. ap (λ (r : Rescue). r.counts) (rescue_refused lock s out (λ z. h (rescue_answer lock s out ∙ z)));
      answers = λ lock s out. rescue_answers lock s out;
      as_opening = λ lock s out. as_opened lock s out;
      begins = λ lock s rest out whole z. begins lock s out z rest whole;
      of_whole = λ lock s out. of_whole lock s out;
      accounts = λ lock s out z. accounted lock s out z;
      longer = λ lock s rest x y z h. longer lock s rest x y z h;
      completed = λ lock s out z. completion lock s out z;
      blocks = λ lock i s t x y b zs zt. blocks lock i s t x y b zs zt;
    }

-- a package of any size, and any number of zeros for its ciphertext
some : (lock : Lock) → judged lock ≡ 0 → (size n : ℕ) → size ≤ 268435456 → (stream : Long (8 + n)) × (stream_size stream.it ≡ size)
    × ((out : List ℕ) → size ≤ length out → Accepted (rescued lock stream.it out).left)
unfolding package_limit
some lock v size n h =
    let s : List ℕ = le_bytes 8 size ++ replicate n 0 in
    let long : length s ≡ 8 + n = length-append (le_bytes 8 size) (replicate n 0) ∙ rw (length_le_bytes, length-replicate) in
    let e : stream_size s ≡ size = size_told size (replicate n 0) (omega (arith, h)) in (
      record { it = s; bytes = append_below (le_bytes 8 size) (replicate n 0) (le_bytes_bytes 8 size) (replicate_below n 0 (lit< tt)); long = long },
      e,
      λ out r. rescue_answer lock s out ∙ rescue_kept lock s out v (record { headed = omega (arith, long); limited = rw e h; roomy = rw e r }),
    )

pub any_cut : AnyCut judged rescued
any_cut = record { some = some }
