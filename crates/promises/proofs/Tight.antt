-- A byte that does not count can be set to another. A block is told by what it opens to, since sealing gives it back; and one that is linked
-- tells the block before it, since the two are summed. Assumes nothing.
use mathlib.Core.Path.{◌≡◌, refl, sym, ap, subst, ◌∙◌}
use mathlib.Core.Logic.{inl, inr}
use mathlib.Core.List.{List, ◌++◌}
use Prim.Native.Nat.{ℕ, zero, suc, ◌+◌, ◌-◌, ◌*◌, ◌/◌, ◌≤◌, ◌<◌}
use native.Mathlib.Omega.{arith}
use borrow.Author.Tests.{eqb-true, eqb-false}
use lib.Dec.{eqb, lit<}
use lib.ListN.{length, get_or, set, take, drop, replicate, length-set, length-append, length-drop}
use lib.Seq.{get_or-set_same, get_or-set_other, take-set-le, get_or-drop, get_or-append-add, drop_at}
use Rattle.octets.specs.Octets.{Bytes, le_bytes}
use Rattle.octets.proofs.Numbers.{length_le_bytes}
use Rattle.octets.proofs.Below.{append_below, replicate_below, le_bytes_bytes}
use Rattle.answers.proofs.Laws.{either}
use Rattle.steps.specs.Steps.{Step, unit, before, open_units, open_all}
use Rattle.steps.specs.Chained.{segment, begins}
use Rattle.steps.specs.Needed.{Needed}
use Rattle.steps.proofs.Units.{length_unit}
use Rattle.steps.proofs.Made.{unit_open}
use Rattle.password.specs.Lock.{Lock}
use Rattle.password.specs.Verdict.{judged}
use Rattle.lengths.specs.Lengths.{stream_size, package_limit, length_allowed, rounded, filling_for, takes_extra, least}
use Rattle.lengths.proofs.StreamSize.{size_told, size_front}
use Rattle.lengths.proofs.Rules.{Fitting}
use Rattle.sheet.specs.Sheet.{sheet_step}
use Rattle.sheet.proofs.Lengths.{openable_blocks}
use Rattle.sheet.proofs.Keyed.{sheet_width, sheet_sized, sheet_reverses, sheet_cut, sheet_tells}
use Rattle.stretch.specs.Stretch.{stretched}
use Rattle.stretch.proofs.Laws.{Reachable, reachable_opens, stretch_zero, slice_opened}
use Rattle.promises.specs.Words.{Accepted, written_part}
use Rattle.promises.specs.BlockLaw.{block_at, Linked}
use Rattle.promises.specs.Stretch.{Counting, Elsewhere, Unlike, Tight}
use Rattle.promises.proofs.BlockLaw.{before_alike}
use Rattle.promises.proofs.Stretch.{stretch_wrote, stretch_accepted}

-- ---- another byte elsewhere

set_bytes : (s : List ℕ) (k v : ℕ) → k < length s → v < 256 → Bytes s → Bytes (set s k v)
set_bytes s k v l h b =
    record {
      at = λ i. elim (either (eqb i k)) [
        | inl e ↦ let q = eqb-true i k e in rw (q, get_or-set_same s k v 0 l) h
        | inr e ↦ rw (get_or-set_other s k i v 0 (eqb-false i k e)) (b.at i)
      ];
    }

module _ (scheme from to : ℕ) (s : List ℕ) (j : ℕ) (b : Bytes s) (l : 8 + j < length s) (n : Counting scheme (stream_size s) from to j → ⊥) where
  abbrev old : ℕ
  old = get_or s (8 + j) 0

  abbrev changed : List ℕ
  changed = set s (8 + j) (1 - old)

  elsewhere : Elsewhere (Counting scheme (stream_size s) from to) s j
  elsewhere =
      record {
        it = changed;
        bytes = set_bytes s (8 + j) (1 - old) l (omega arith) b;
        agreeing =
            record {
              long = sym (length-set s (8 + j) (1 - old));
              size = size_front s changed (sym (take-set-le 8 s (8 + j) (1 - old) (omega arith)));
              bytes = λ i p. get_or-drop 8 s i 0
                  ∙ sym (get_or-drop 8 changed i 0
                  ∙ get_or-set_other s (8 + j) (8 + i) (1 - old) 0 (λ e. let q : i ≡ j = omega (arith, e) in n (subst (Counting scheme (stream_size s) from to) q p)));
            };
        other = λ e. omega (arith, e, get_or-drop 8 s j 0, get_or-drop 8 changed j 0, get_or-set_same s (8 + j) (1 - old) 0 l);
      }

-- ---- streams of two blocks

two : (x : List ℕ) → List ℕ
two x = le_bytes 8 32 ++ x

module _ (x : List ℕ) (h : length x ≡ 32) where
  two_long : length (two x) ≡ 40
  unfolding two
  two_long = length-append (le_bytes 8 32) x ∙ rw (length_le_bytes, h)

  two_size : stream_size (two x) ≡ 32
  unfolding two
  two_size = size_told 32 x (lit< tt)

  two_blocks : drop 8 (two x) ≡ x
  unfolding two
  two_blocks = drop_at (le_bytes 8 32) x 8 (length_le_bytes 8 32)

  two_fits : Fitting (length (two x)) (stream_size (two x))
  unfolding package_limit length_allowed rounded filling_for takes_extra least
  two_fits = rw (two_long, two_size) (record { headed = omega arith; limited = omega arith; long = refl })

  -- of which each block can be reached
  two_reached : (from to : ℕ) → from ≤ to → to ≤ 32 → Reachable (two x) from to (to - from)
  two_reached from to a b = record { fits = two_fits; order = a; within = rw two_size b; roomy = omega arith }

zeros_bytes : Bytes (two (replicate 32 0))
unfolding two
zeros_bytes = append_below (le_bytes 8 32) (replicate 32 0) (le_bytes_bytes 8 32) (replicate_below 32 0 (omega arith))

-- the second block does not count for the first
second_free : (scheme size : ℕ) → Counting scheme size 0 16 16 → ⊥
second_free scheme size (inl m) = omega (arith, m.1)
second_free scheme size (inr m) = omega (arith, m.0.1)

speaks : (lock : Lock) → judged lock ≡ 0 → Unlike (Counting lock.scheme) stretched lock
speaks lock v =
    let s : List ℕ = two (replicate 32 0) in
    let e = elsewhere lock.scheme 0 16 s 16 zeros_bytes (omega (arith, two_long (replicate 32 0) refl)) (second_free lock.scheme (stream_size s)) in
    record {
      one = s;
      other = e.it;
      from = 0;
      to = 16;
      out = replicate 16 0;
      differ = λ q. e.other (ap (λ (t : List ℕ). get_or (drop 8 t) 16 0) q);
      agreeing = e.agreeing;
      accepted = stretch_accepted lock s 0 16 (replicate 16 0) v (two_reached (replicate 32 0) refl 0 16 (omega arith) (omega arith));
    }

-- ---- one block

module _ (lock : Lock) (s t : List ℕ) (i : ℕ) (out : List ℕ) (long : length s ≡ length t) (size : stream_size s ≡ stream_size t)
    (z : Accepted (stretched lock s (16 * i) (16 * i + 16) out)) (e : stretched lock s (16 * i) (16 * i + 16) out ≡ stretched lock t (16 * i) (16 * i + 16) out) where
  abbrev step : Step
  step = sheet_step lock (stream_size s)

  reach : Reachable s (16 * i) (16 * i + 16) (length out)
  reach = (stretch_zero lock s (16 * i) (16 * i + 16) out z).1

  -- the block is there
  there : 16 * i + 16 ≤ length (drop 8 s)
  there = omega (arith, openable_blocks s (stream_size s) (reachable_opens reach), reach.within)

  lengths : length (drop 8 s) ≡ length (drop 8 t)
  lengths = length-drop 8 s ∙ rw long (sym (length-drop 8 t))

  -- a block of what is opened, by its step
  opens_to : (x : List ℕ) → length (drop 8 x) ≡ length (drop 8 s)
      → unit 16 i (open_all step (drop 8 x)) ≡ step.back i (before step i (drop 8 x)) (unit 16 i (drop 8 x))
  unfolding open_all
  opens_to x h =
      let w = sheet_width lock (stream_size s) in
      subst (λ (u : ℕ). unit u i (open_units step (length (drop 8 x) / step.width) (drop 8 x)) ≡ step.back i (before step i (drop 8 x)) (unit u i (drop 8 x))) w
      (unit_open step (sheet_sized lock (stream_size s)) (drop 8 x) i (length (drop 8 x) / step.width) (rw (w, h) (omega (arith, there))))

  sixteen : 16 * i + 16 - 16 * i ≡ 16
  sixteen = omega arith

  -- one stretch, so one block of the packages, and so of what the steps give
  same_block : step.back i (before step i (drop 8 s)) (unit 16 i (drop 8 s)) ≡ step.back i (before step i (drop 8 t)) (unit 16 i (drop 8 t))
  unfolding unit
  same_block =
      let from : ℕ = 16 * i in
      let to : ℕ = 16 * i + 16 in
      let y : Accepted (stretched lock t from to out) = subst Accepted e z in
      let k = (stretch_zero lock t from to out y).1 in
      let one = rw sixteen at (slice_opened lock s from to reach.order reach.within) in
      let other = rw sixteen at (slice_opened lock t from to k.order k.within) in
      sym (opens_to s refl) ∙ sym one ∙ sym (stretch_wrote lock s from to out z) ∙ ap written_part e ∙ stretch_wrote lock t from to out y ∙ other
      ∙ ap (λ (n : ℕ). take 16 (drop (16 * i) (open_all (sheet_step lock n) (drop 8 t)))) (sym size) ∙ opens_to t (sym lengths)

  -- blocks of sixteen bytes
  own_long : (x : List ℕ) → length (drop 8 x) ≡ length (drop 8 s) → length (unit 16 i (drop 8 x)) ≡ 16
  own_long x h = length_unit 16 i (drop 8 x) (omega (arith, h, there))

  before_long : (j : ℕ) → j ≡ i → (x : List ℕ) → length (drop 8 x) ≡ length (drop 8 s) → length (before step j (drop 8 x)) ≡ 16
  unfolding before
  before_long zero q x h = (sheet_reverses lock (stream_size s)).first.long ∙ sheet_width lock (stream_size s)
  before_long (suc j) q x h = rw (sheet_width lock (stream_size s)) (length_unit 16 j (drop 8 x) (omega (arith, q, h, there)))

  -- what the step is told of the block before tells the block
  same_before : (j : ℕ) → j ≡ i → block_at i s ≡ block_at i t → before step j (drop 8 s) ≡ before step j (drop 8 t) → block_at (i - 1) s ≡ block_at (i - 1) t
  unfolding before
  same_before zero q b h = let k : i - 1 ≡ i = omega (arith, q) in rw k b
  same_before (suc j) q b h = let k : i - 1 ≡ j = omega (arith, q) in rw k (rw (sheet_width lock (stream_size s)) at h)

  -- after one block, by sealing it again
  sealed_again : (p : List ℕ) → length p ≡ 16 → step.back i p (unit 16 i (drop 8 s)) ≡ step.back i p (unit 16 i (drop 8 t)) → block_at i s ≡ block_at i t
  sealed_again p h q =
      let w = sheet_width lock (stream_size s) in
      let r = sheet_reverses lock (stream_size s) in
      sym (r.redo i p _ (h ∙ sym w) (own_long s refl ∙ sym w)) ∙ ap (step.there i p) q ∙ r.redo i p _ (h ∙ sym w) (own_long t (sym lengths) ∙ sym w)

  own : (Linked lock.scheme (stream_size s) i → block_at (i - 1) s ≡ block_at (i - 1) t) → block_at i s ≡ block_at i t
  own h =
      sealed_again (before step i (drop 8 t)) (before_long i refl t (sym lengths))
      (elim (sheet_cut lock (stream_size s) i) [
        | inl b ↦ b.alike _ _ _ ∙ same_block
        | inr b ↦ ap (λ (p : List ℕ). step.back i p (unit 16 i (drop 8 s))) (sym (before_alike lock (stream_size s) i i s t refl (h b))) ∙ same_block
      ])

  pub before_told : Linked lock.scheme (stream_size s) i → block_at i s ≡ block_at i t → block_at (i - 1) s ≡ block_at (i - 1) t
  before_told h b =
      same_before i refl b
      (sheet_tells lock (stream_size s) i h.0 h.1 _ _ (unit 16 i (drop 8 s)) (before_long i refl s refl) (before_long i refl t (sym lengths))
      (same_block ∙ ap (step.back i (before step i (drop 8 t))) (sym b)))

-- ---- fewer blocks

abbrev zeros : List ℕ
zeros = replicate 16 0

abbrev ones : List ℕ
ones = replicate 16 1

module _ (lock : Lock) (v : judged lock ≡ 0) (c : lock.scheme ≡ 2) where
  abbrev first : List ℕ
  first = two (zeros ++ zeros)

  -- another block before the second
  abbrev second : List ℕ
  second = two (ones ++ zeros)

  reached : Accepted (stretched lock first 16 32 zeros)
  reached = stretch_accepted lock first 16 32 zeros v (two_reached (zeros ++ zeros) refl 16 32 (omega arith) (omega arith))

  linked : Linked lock.scheme (stream_size first) 1
  unfolding begins segment
  linked = (c, rw (two_size (zeros ++ zeros) refl))

  apart : block_at 0 first ≡ block_at 0 second → ⊥
  unfolding unit
  apart h =
      let q = rw (two_blocks (zeros ++ zeros) refl, two_blocks (ones ++ zeros) refl) at h in
      omega (arith, ap (λ (x : List ℕ). get_or x 0 0) q)

  agree : (j : ℕ) → Needed 16 (λ i. ⊥) 16 32 j → get_or (zeros ++ zeros) j 0 ≡ get_or (ones ++ zeros) j 0
  agree j (inl m) = let e : 16 + (j - 16) ≡ j = omega (arith, m.1, m.2) in rw (← e) (get_or-append-add zeros zeros (j - 16) 0 ∙ sym (get_or-append-add ones zeros (j - 16) 0))
  agree j (inr m) = absurd m.1

  two_stretches : stretched lock first 16 32 zeros ≡ stretched lock second 16 32 zeros → ⊥
  unfolding unit
  two_stretches e =
      apart
      (before_told lock first second 1 zeros
      (two_long (zeros ++ zeros) refl ∙ sym (two_long (ones ++ zeros) refl))
      (two_size (zeros ++ zeros) refl ∙ sym (two_size (ones ++ zeros) refl)) reached e linked
      (rw (two_blocks (zeros ++ zeros) refl, two_blocks (ones ++ zeros) refl)))

  fewer : (u : Unlike (λ size. Needed 16 (λ i. ⊥)) stretched lock)
      × (stretched lock u.one u.from u.to u.out ≡ stretched lock u.other u.from u.to u.out → ⊥)
  fewer = (
    record {
      one = first;
      other = second;
      from = 16;
      to = 32;
      out = zeros;
      differ = λ q. two_stretches (ap (λ (s : List ℕ). stretched lock s 16 32 zeros) q);
      agreeing =
          record {
            long = two_long (zeros ++ zeros) refl ∙ sym (two_long (ones ++ zeros) refl);
            size = two_size (zeros ++ zeros) refl ∙ sym (two_size (ones ++ zeros) refl);
            bytes = λ j m. rw (two_blocks (zeros ++ zeros) refl, two_blocks (ones ++ zeros) refl) (agree j m);
          };
      accepted = reached;
    },
    two_stretches,
  )

pub tight : Tight judged stretched
tight =
    record {
      elsewhere = λ scheme from to s j b l n. elsewhere scheme from to s j b l n;
      speaks = λ lock v. speaks lock v;
      own = λ lock s t i out l k z e h. own lock s t i out l k z e h;
      before = λ lock s t i out l k z e h b. before_told lock s t i out l k z e h b;
      fewer = λ lock v c. fewer lock v c;
    }
