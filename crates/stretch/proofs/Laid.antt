-- What is opened from a block on is a part of what is opened from the start, and so are the bytes that the code lays: those of one block,
-- and those of the blocks after it. Assumes nothing.
use mathlib.Core.Path.{◌≡◌, refl, sym, ap, ap₂, subst, ◌∙◌}
use mathlib.Core.Logic.{inl, inr}
use mathlib.Core.List.{List, [], ◌++◌, append-nil, append_assoc}
use Prim.Native.Nat.{ℕ, zero, suc, ◌+◌, ◌-◌, ◌*◌, ◌/◌, ◌%◌, ◌≤◌, ◌<◌}
use native.Mathlib.Nat.{zero-add}
use native.Mathlib.Omega.{arith}
use borrow.Author.Tests.{ltb-true, ltb-false}
use lib.Dec.{ltb}
use Rattle.std.specs.Prelude.{Ok, min}
use lib.ListN.{length, take, drop, replicate, length-take, length-drop, drop_of_length-le}
use lib.Seq.{paste, take_all, drop-drop, length-paste}
use Rattle.octets.specs.Octets.{zero_from}
use Rattle.octets.proofs.Parts.{part_part, paste_on, paste_whole}
use Rattle.answers.specs.Rules.{first_of}
use Rattle.answers.specs.Ended.{left, reply}
use Rattle.answers.proofs.Laws.{either}
use Rattle.answers.proofs.Endings.{laid}
use Rattle.steps.specs.Steps.{Step, before, open_all, resumed}
use Rattle.steps.proofs.Made.{length_open_all}
use Rattle.steps.proofs.Ranges.{all_from}
use Rattle.blocks.specs.Blocks.{step_by, step_from, stream_start}
use Rattle.blocks.specs.declared.Mode.{Mode}
use Rattle.blocks.specs.declared.Place.{Place}
use Rattle.blocks.proofs.Aes.{by_width, by_first, by_sized, from_start}
use Rattle.password.specs.Lock.{Lock}
use Rattle.password.specs.Verdict.{unlocked, unlocked_of}
use Rattle.password.specs.declared.Unlocked.{Unlocked}
use Rattle.password.proofs.Laws.{unlocked_zero}
use Rattle.lengths.specs.Lengths.{stream_size}
use Rattle.sheet.specs.Scheme.{mode_of}
use Rattle.sheet.specs.Sheet.{sheet_step}
use Rattle.sheet.proofs.Keyed.{step_under}
use Rattle.stretch.specs.Plain.{plain}
use Rattle.stretch.specs.Stretch.{block_before, stretch_rules, stretched}
use Rattle.stretch.specs.declared.ciphertext.Ciphertext.{Ciphertext}
use Rattle.stretch.proofs.Laws.{Reachable, reachable, slice_opened, stretch_holds, stretch_after, stretch_done, length_stretch}

-- ---- the blocks of any ciphertext t, under any mode and any round keys

module _ (m : Mode) (w : List ℕ) (rounds : ℕ) (t : List ℕ) where
  abbrev step : Step
  step = step_by m w rounds

  abbrev opened : List ℕ
  opened = open_all step t

  length_opened : length opened ≡ 16 * (length t / 16)
  length_opened = length_open_all step (by_sized m w rounds) t ∙ rw (by_width m w rounds)

  placed : (i : ℕ) → before step i t ≡ block_before t i
  unfolding before block_before
  placed zero = by_first m w rounds
  placed (suc i) = rw (by_width m w rounds)

  -- taken up at a block, the ciphertext is opened from there on
  from_block : (p : Place) (i : ℕ) → p.number ≡ i → p.before ≡ block_before t i → i ≤ length t / 16
      → open_all (step_from p m w rounds) (drop (16 * i) t) ≡ drop (16 * i) opened
  from_block p i hn hb h =
      ap₂ (λ (n : ℕ) (b : List ℕ). open_all (resumed n b step) (drop (16 * i) t)) hn (hb ∙ sym (placed i))
      ∙ subst (λ (u : ℕ). open_all (resumed i (before step i t) step) (drop (u * i) t) ≡ drop (u * i) opened) (by_width m w rounds)
      (all_from step (by_sized m w rounds) t i (rw (by_width m w rounds) h))

  pub blocks_laid : (p : Place) (i size : ℕ) (out end : List ℕ) → p.number ≡ i → p.before ≡ block_before t i → 16 * i + size ≤ 16 * (length t / 16)
      → end ≡ paste out 0 (open_all (step_from p m w rounds) (take (length t - 16 * i) (drop (16 * i) t))) size
      → end ≡ paste out 0 (drop (16 * i) opened) size
  blocks_laid p i size out end hn hb h e =
      let all : take (length t - 16 * i) (drop (16 * i) t) ≡ drop (16 * i) t =
      take_all (length t - 16 * i) (drop (16 * i) t) (simp length-drop (omega arith)) in
      e ∙ ap (λ (x : List ℕ). paste out 0 x size) (ap (open_all (step_from p m w rounds)) all ∙ from_block p i hn hb (omega arith))

  -- ---- the bytes

  -- of one block
  pub within_laid : (from size : ℕ) (out block end : List ℕ) → from % 16 + size ≤ 16
      → block ≡ paste (replicate 16 0) 0 (drop (16 * (from / 16)) opened) 16 → end ≡ paste out 0 (drop (from % 16) block) size
      → end ≡ paste out 0 (drop from opened) size
  within_laid from size out block end h b e =
      let at : 16 * (from / 16) + from % 16 ≡ from = omega arith in
      let whole : block ≡ take 16 (drop (16 * (from / 16)) opened) = b ∙ paste_whole (replicate 16 0) (drop (16 * (from / 16)) opened) 16 refl in
      let cut : take size (drop (from % 16) block) ≡ take size (drop from opened) =
      ap (λ (x : List ℕ). take size (drop (from % 16) x)) whole ∙ part_part size (from % 16) 16 (16 * (from / 16)) opened h ∙ rw at in
      e ∙ ap (λ (x : List ℕ). take 0 out ++ x ++ drop (0 + size) out) cut

  -- and then of the blocks after it, laid behind them
  pub bytes_laid : (from size n : ℕ) (out first rest : List ℕ) → from + size ≤ 16 * (length t / 16) → size ≤ length out → n ≤ size
      → (n < size → 16 * ((from + n) / 16) ≡ from + n) → first ≡ paste out 0 (drop from opened) n
      → rest ≡ paste (take (length first - n) (drop n first)) 0 (drop (16 * ((from + n) / 16)) opened) (size - n)
      → take n first ++ (rest ++ drop (length first - n) (drop n first)) ≡ paste out 0 (drop from opened) size
  bytes_laid from size n out first rest h ho hn hb ef er =
      let k : ℕ = size - n in
      let y : List ℕ = drop (16 * ((from + n) / 16)) opened in
      let long : length (drop from opened) ≡ 16 * (length t / 16) - from = length-drop from opened ∙ rw length_opened in
      let more : length y ≡ 16 * (length t / 16) - 16 * ((from + n) / 16) = length-drop (16 * ((from + n) / 16)) opened ∙ rw length_opened in
      let same : length first ≡ length out = ap length ef ∙ length-paste out 0 (drop from opened) n (omega arith) (omega arith) in
      let all : take (length first - n) (drop n first) ≡ drop n first = take_all (length first - n) (drop n first) (simp length-drop (omega arith)) in
      let none : drop (length first - n) (drop n first) ≡ [] = drop_of_length-le (drop n first) {i = length first - n} (simp length-drop (omega arith)) in
      let second : rest ≡ take k y ++ drop (n + k) first =
      er ∙ ap (λ (x : List ℕ). paste x 0 y k) all ∙ rw (zero-add, drop-drop) in
      let joined : take n first ++ (rest ++ drop (length first - n) (drop n first)) ≡ paste first n y k =
      ap₂ (λ (x z : List ℕ). take n first ++ (x ++ z)) second none ∙ ap (λ (x : List ℕ). take n first ++ x) (append-nil (take k y ++ drop (n + k) first))
      ∙ sym (append_assoc (take n first) (take k y) (drop (n + k) first)) in
      let next : (k ≤ length y) × (take k y ≡ take k (drop n (drop from opened))) =
      elim (either (ltb n size)) [
        | inl l ↦ let e = hb (ltb-true n size l) in (omega arith, rw (e, drop-drop))
        | inr l ↦ let e : k ≡ 0 = omega (arith, ltb-false n size l) in (omega arith, rw e)
      ] in
      let end : n + k ≡ size = omega arith in
      joined ∙ ap (λ (x : List ℕ). paste x n y k) ef
      ∙ paste_on out (drop from opened) y 0 n k n (omega arith) next.0 (zero-add n) (omega arith) next.1 ∙ rw end

-- ---- the same of a ciphertext that the code has, cut where its `head` ends

module _ (c : Ciphertext) where
  pub lent_blocks : (first : List ℕ) (i size : ℕ) (out end : List ℕ) → first ≡ block_before c.blocks.now i
      → 16 * i + size ≤ 16 * (length c.blocks.now / 16)
      → end ≡ paste out 0 (open_all (step_from (record { number = i; before = first }) c.mode c.key.bytes c.key.rounds)
      (take (length c.blocks.now - 16 * i) (drop (16 * i) c.blocks.now))) size
      → end ≡ paste out 0 (drop (16 * i) (plain c)) size
  lent_blocks first i size out end =
      blocks_laid c.mode c.key.bytes c.key.rounds c.blocks.now (record { number = i; before = first }) i size out end refl

  pub lent_within : (from size : ℕ) (out block end : List ℕ) → from % 16 + size ≤ 16
      → block ≡ paste (replicate 16 0) 0 (drop (16 * (from / 16)) (plain c)) 16 → end ≡ paste out 0 (drop (from % 16) block) size
      → end ≡ paste out 0 (drop from (plain c)) size
  lent_within = within_laid c.mode c.key.bytes c.key.rounds c.blocks.now

  pub lent_bytes : (from size n : ℕ) (out first rest : List ℕ) → from + size ≤ 16 * (length c.blocks.now / 16) → size ≤ length out
      → n ≡ min size ((16 - from % 16) % 16) → first ≡ paste out 0 (drop from (plain c)) n
      → rest ≡ paste (take (length first - n) (drop n first)) 0 (drop (16 * ((from + n) / 16)) (plain c)) (size - n)
      → take n first ++ (rest ++ drop (length first - n) (drop n first)) ≡ paste out 0 (drop from (plain c)) size
  lent_bytes from size n out first rest h ho hn =
      bytes_laid c.mode c.key.bytes c.key.rounds c.blocks.now from size n out first rest h ho (omega arith) (λ l. omega arith)

-- ---- the call

pub stretch_written : (lock : Lock) (step : Step) (s out mid end : List ℕ) (from to n : ℕ) → first_of (stretch_rules lock s from to (length out)) ≡ 0
    → n ≡ to - from → step ≡ sheet_step lock (stream_size s) → mid ≡ paste out 0 (drop from (open_all step (drop 8 s))) n → end ≡ zero_from n mid
    → left (reply 0 n) end ≡ stretched lock s from to out
stretch_written lock step s out mid end from to n k z e pm d =
    let o = stretch_holds lock s from to out k in
    let x : List ℕ = open_all (sheet_step lock (stream_size s)) (drop 8 s) in
    let part = slice_opened lock s from to o.1.order o.1.within in
    let long : length (take (to - from) (drop from x)) ≡ to - from = ap length (sym part) ∙ length_stretch lock s from to out o.1 in
    let w : end ≡ take n (drop from x) ++ replicate (length out - n) 0 =
    laid out (drop from x) mid end 0 n n (zero-add n) (omega (arith, o.1.roomy)) (omega (arith, long, length-take (to - from) (drop from x)))
    (pm ∙ ap (λ (y : Step). paste out 0 (drop from (open_all y (drop 8 s))) n) e) d in
    rw (w, z, ← part) (sym (stretch_done lock s from to out o.0 o.1))

-- the same of what a lock unlocks, by the mode that the code makes
module _ (lock : Lock) (u : Unlocked) (e : unlocked_of (Ok u) ≡ unlocked lock) where
  pub unlocked_stretch : (mode : Mode) (s out mid end : List ℕ) (from to n : ℕ) → Reachable s from to (length out) → n ≡ to - from
      → mode ≡ mode_of u.fields (stream_size s)
      → mid ≡ paste out 0 (drop from (open_all (step_by mode u.key.bytes u.key.rounds) (take (length s - 8) (drop 8 s)))) n
      → end ≡ zero_from n mid → left (reply 0 n) end ≡ stretched lock s from to out
  unlocked_stretch mode s out mid end from to n k z m pm =
      let step : step_by mode u.key.bytes u.key.rounds ≡ sheet_step lock (stream_size s) =
      sym (from_start mode u.key.bytes u.key.rounds) ∙ step_under lock u e mode stream_start (stream_size s) m refl in
      let all : take (length s - 8) (drop 8 s) ≡ drop 8 s = take_all (length s - 8) (drop 8 s) (simp length-drop (omega arith)) in
      let rules = stretch_after lock s from to out (unlocked_zero lock u e) ∙ (reachable s from to (length out)).1 k in
      stretch_written lock (step_by mode u.key.bytes u.key.rounds) s out mid end from to n rules z step
      (pm ∙ ap (λ (y : List ℕ). paste out 0 (drop from (open_all (step_by mode u.key.bytes u.key.rounds) y)) n) all)
