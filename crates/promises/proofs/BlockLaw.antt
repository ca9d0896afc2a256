-- Our opener keeps the law of blocks: it is the law of any step, of which each scheme is one. Assumes nothing.
use mathlib.Core.Path.{◌≡◌, refl, sym, ap, subst, ◌∙◌}
use mathlib.Core.Logic.{◌⊎◌, inl, inr}
use mathlib.Core.List.{List, []}
use Prim.Native.Nat.{ℕ, zero, suc, ◌-◌, ◌*◌, ◌/◌, ◌≤◌, ◌<◌}
use native.Mathlib.Omega.{arith}
use borrow.Author.Tests.{eqb-true, eqb-false, ltb-true, ltb-false}
use lib.Dec.{ltb, eqb}
use lib.ListN.{length, take, drop, length-drop, drop_of_length-le}
use lib.Seq.{take-nil}
use Rattle.answers.specs.Rules.{first_of}
use Rattle.answers.proofs.Laws.{either}
use Rattle.steps.specs.Steps.{Step, unit, before, open_units, open_all, Starts}
use Rattle.steps.proofs.Units.{unit_cut}
use Rattle.steps.proofs.Made.{length_open, unit_open}
use Rattle.steps.proofs.Alike.{opened_alike}
use Rattle.password.specs.Lock.{Lock}
use Rattle.lengths.specs.Lengths.{stream_size}
use Rattle.sheet.specs.Sheet.{stream_rules, open_rules, sheet_step, package_of, opened}
use Rattle.sheet.proofs.Keyed.{sheet_width, sheet_sized, sheet_cut}
use Rattle.sheet.proofs.Laws.{open_answer, package_front}
use Rattle.promises.specs.Words.{written_part}
use Rattle.promises.specs.BlockLaw.{block_at, Linked, Agree, BlockLaw}
use Rattle.promises.specs.Demand1.{open_numbers}
use Rattle.promises.proofs.Ended.{call_wrote}
use Rattle.promises.proofs.Demand1.{demand_1}

-- what an opening wrote: the package, or nothing
module _ (lock : Lock) (s out : List ℕ) where
  wrote_package : (opened lock s out).reply.answer ≡ 0 → written_part (opened lock s out) ≡ package_of lock s
  wrote_package = call_wrote open_numbers (package_of lock s) out (opened lock s out) (demand_1.opening lock s out)

  wrote_none : ((opened lock s out).reply.answer ≡ 0 → ⊥) → written_part (opened lock s out) ≡ []
  wrote_none z = rw ((demand_1.opening lock s out).ends.refused z).none

-- where the blocks before block i agree, so does what the step is told of them
pub before_alike : (lock : Lock) (size i j : ℕ) (s t : List ℕ) → j ≡ i → block_at (i - 1) s ≡ block_at (i - 1) t
    → before (sheet_step lock size) j (drop 8 s) ≡ before (sheet_step lock size) j (drop 8 t)
unfolding before
before_alike lock size i zero s t q h = refl
before_alike lock size i (suc j) s t q h = let k : i - 1 ≡ j = omega (arith, q) in rw (sheet_width lock size, ← k) h

-- two streams that agree in block i of a package of that size and, where it is linked, in the block before it
module _ (lock : Lock) (size i : ℕ) (s t : List ℕ) (block : block_at i s ≡ block_at i t)
    (linked : Linked lock.scheme size i → block_at (i - 1) s ≡ block_at (i - 1) t) where
  joint : Starts (sheet_step lock size) i ⊎ (before (sheet_step lock size) i (drop 8 s) ≡ before (sheet_step lock size) i (drop 8 t))
  joint =
      elim (sheet_cut lock size i) [
        | inl b ↦ inl b
        | inr b ↦ inr (before_alike lock size i i s t refl (linked b))
      ]

  -- so many units of the one, and so many of the other
  pub units_alike : (n m : ℕ) → i < n → i < m → unit 16 i (open_units (sheet_step lock size) n (drop 8 s)) ≡ unit 16 i (open_units (sheet_step lock size) m (drop 8 t))
  units_alike n m l k =
      let width = sheet_width lock size in
      let sized = sheet_sized lock size in
      subst (λ (u : ℕ). unit u i (open_units (sheet_step lock size) n (drop 8 s)) ≡ unit u i (open_units (sheet_step lock size) m (drop 8 t))) width
      (opened_alike (sheet_step lock size) (drop 8 s) (drop 8 t) sized i n l (rw width block) joint
      ∙ unit_open (sheet_step lock size) sized (drop 8 t) i n l ∙ sym (unit_open (sheet_step lock size) sized (drop 8 t) i m k))

module _ (lock : Lock) (i : ℕ) (s t : List ℕ) (a : Agree lock.scheme i s t) where
  abbrev size : ℕ
  size = stream_size s

  abbrev step : Step
  step = sheet_step lock size

  -- behind n units there is none
  past : (n : ℕ) → n ≤ i → (x : List ℕ) → unit 16 i (open_units step n x) ≡ []
  unfolding unit
  past n h x =
      let e : length (open_units step n x) ≡ 16 * n = length_open step (sheet_sized lock size) x n ∙ rw (sheet_width lock size) in
      ap (take 16) (drop_of_length-le (open_units step n x) {i = 16 * i} (omega arith)) ∙ take-nil 16

  -- as many units of each, and so all of them: block i agrees, where there is one
  same_units : (n : ℕ) → unit 16 i (open_units step n (drop 8 s)) ≡ unit 16 i (open_units step n (drop 8 t))
  same_units n =
      elim (either (ltb i n)) [
        | inl l ↦ units_alike lock size i s t a.block a.before n n (ltb-true i n l) (ltb-true i n l)
        | inr l ↦ past n (ltb-false i n l) (drop 8 s) ∙ sym (past n (ltb-false i n l) (drop 8 t))
      ]

  all_alike : unit 16 i (open_all step (drop 8 s)) ≡ unit 16 i (open_all step (drop 8 t))
  unfolding open_all
  all_alike =
      let n = length (drop 8 s) / step.width in
      let e : length (drop 8 t) ≡ length (drop 8 s) = length-drop 8 t ∙ rw (← a.long) (sym (length-drop 8 s)) in
      same_units n ∙ ap (λ (m : ℕ). unit 16 i (open_units step (m / step.width) (drop 8 t))) (sym e)

  -- cut to the size
  package_alike : unit 16 i (package_of lock s) ≡ unit 16 i (package_of lock t)
  package_alike =
      ap (unit 16 i) (package_front lock s)
      ∙ unit_cut 16 i size (open_all step (drop 8 s)) ∙ ap (take (size - 16 * i)) all_alike ∙ sym (unit_cut 16 i size (open_all step (drop 8 t)))
      ∙ ap (λ (m : ℕ). unit 16 i (take m (open_all (sheet_step lock m) (drop 8 t)))) a.size
      ∙ ap (unit 16 i) (sym (package_front lock t))

  module _ (out : List ℕ) where
    same_rules : open_rules lock s (length out) ≡ open_rules lock t (length out)
    unfolding open_rules stream_rules
    same_rules = rw (a.long, a.size)

    same_answer : (opened lock s out).reply.answer ≡ (opened lock t out).reply.answer
    same_answer = open_answer lock s out ∙ ap first_of same_rules ∙ sym (open_answer lock t out)

    same : unit 16 i (written_part (opened lock s out)) ≡ unit 16 i (written_part (opened lock t out))
    same =
        elim (either (eqb (opened lock s out).reply.answer 0)) [
          | inl e ↦ let z = eqb-true _ _ e in
              ap (unit 16 i) (wrote_package lock s out z) ∙ package_alike ∙ sym (ap (unit 16 i) (wrote_package lock t out (sym same_answer ∙ z)))
          | inr e ↦ let z = eqb-false _ _ e in
              ap (unit 16 i) (wrote_none lock s out z ∙ sym (wrote_none lock t out (λ w. z (same_answer ∙ w))))
        ]

pub block_law : BlockLaw opened
block_law = record { same = λ lock i s t out a. same lock i s t a out }
