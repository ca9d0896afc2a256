-- Every row of the table P1 to P12, by a law for each kind of row: the table's numbers are computed, the lists are variables.
-- Assumes nothing.
use mathlib.Core.Path.{◌≡◌, refl, sym, ap, ◌∙◌}
use mathlib.Core.Logic.{inl, inr}
use mathlib.Core.Bool.{Bool, true, false, not, ◌&&◌}
use mathlib.Core.List.{List, [], ◌∷◌, ◌++◌, append_assoc}
use Prim.Native.Nat.{ℕ, ◌+◌, ◌-◌, ◌≤◌, ◌<◌}
use native.Mathlib.Omega.{arith}
use borrow.Author.Tests.{lt-ltb, le-ltb}
use lib.Dec.{T, ltb, eqb, ltb→lt, lit≤, lit<}
use lib.ListN.{length, take, drop, take-append-drop}
use Rattle.answers.specs.Rules.{Rule, first_of, AllHold}
use Rattle.answers.proofs.Laws.{either, both, broke, held, all_hold}
use Rattle.answers.proofs.Rows.{◌and◌}
use Rattle.blocks.specs.Blocks.{ecb_under, chained_under}
use Rattle.descriptor.specs.Info.{info_rules, scheme_rules, parse_rules, numbers_of, header_size, size_extra, alg_id, key_size, algorithms, look_up, suite_of, bad_header_size, bad_name, described, parsed}
use Rattle.descriptor.proofs.Laws.{parsed_answer, parsed_fields}
use Rattle.password.specs.Verdict.{judged, key_of}
use Rattle.lengths.specs.Lengths.{stream_size, package_limit, least, takes_extra, filling_for, rounded, sealed_size, large, length_rules, size_rules}
use Rattle.lengths.proofs.Fillings.{untaken}
use Rattle.sheet.specs.Frame.{stream_of}
use Rattle.sheet.specs.Scheme.{step_of}
use Rattle.sheet.specs.Sheet.{stream_rules, package_rules, open_rules, seal_rules, opened, sealed, sheet_key, sheet_step, sealing, filled_with, sealing_of}
use Rattle.sheet.proofs.Lengths.{sealable}
use Rattle.sheet.proofs.Laws.{open_after, open_refused, seal_after, seal_refused, seal_done}
use Rattle.promises.specs.Cases.{◌is◌, Case, seals, chooses, refuses, answers, passes, names, table, Outside, Claim, Every}

-- what a row claims of our entries
abbrev Ours : Case → Type 0
Ours = Claim parsed judged opened sealed

-- ---- sealing and opening

chooses_row : (extra : Bool) (size count : ℕ) → filling_for extra size ≡ count → size ≤ 268435456 → Ours (chooses extra size (8 + (size + count)) count)
unfolding package_limit sealed_size rounded sealing_of stream_of filled_with sealing sheet_step step_of ecb_under chained_under sheet_key key_of described
chooses_row extra size count f l lock «package» filling out v n g r =
    let z : filling_for extra (length «package») ≡ count = ap (filling_for extra) n ∙ f in
    let k = (sealable extra (length «package») (length out)).1 (record { limited = omega arith; roomy = rw z (omega arith) }) in
    seal_done lock «package» filling extra out v k ∙ rw (z, n)

-- where the size takes no extra block
seals_row : (size count : ℕ) → takes_extra size ≡ false → least size ≡ count → size ≤ 268435456 → Ours (seals size (8 + (size + count)) count)
seals_row size count t f l extra = chooses_row extra size count (untaken extra size t ∙ f) l

module _ (size : ℕ) (h : 268435456 < size) where
  package_large : (extra : Bool) (n room : ℕ) → n ≡ size → first_of (package_rules extra n room) ≡ 14
  unfolding package_rules size_rules large package_limit
  package_large extra n room e = broke _ _ (lt-ltb 268435456 n (omega arith))

  stream_large : (s : List ℕ) (room : ℕ) → 8 ≤ length s → stream_size s ≡ size → first_of (stream_rules s room) ≡ 14
  unfolding stream_rules length_rules large package_limit
  stream_large s room l e = held _ _ (le-ltb _ _ l) ∙ broke _ _ (lt-ltb 268435456 (stream_size s) (omega arith))

  refuses_row : Ours (refuses size 14)
  refuses_row lock v = (
    λ «package» filling extra out n g.
        let e : first_of (seal_rules lock extra (length «package») (length out)) ≡ 14 =
        seal_after lock «package» filling extra out v ∙ package_large extra (length «package») (length out) n in
        seal_refused lock «package» filling extra out (λ z. omega arith) ∙ rw e,
    λ s out l n.
        let e : first_of (open_rules lock s (length out)) ≡ 14 = open_after lock s out v ∙ stream_large s (length out) l n in
        open_refused lock s out (λ z. omega arith) ∙ rw e,
  )

-- ---- parsing

-- where the first k rules on EncryptionInfo hold those after them decide, and then the scheme's
abbrev later : (k : ℕ) (info : List ℕ) (scheme : ℕ) → List Rule
later k info scheme = drop k (info_rules info) ++ scheme_rules scheme

after_first : (k : ℕ) (info : List ℕ) (scheme : ℕ) → AllHold (take k (info_rules info)) → (parsed info scheme).answer ≡ first_of (later k info scheme)
unfolding parse_rules
after_first k info scheme h =
    parsed_answer info scheme
    ∙ ap (λ (rs : List Rule). first_of (rs ++ scheme_rules scheme)) (sym (take-append-drop k (info_rules info)))
    ∙ ap first_of (append_assoc (take k (info_rules info)) (drop k (info_rules info)) (scheme_rules scheme))
    ∙ all_hold (take k (info_rules info)) (later k info scheme) h

abbrev above : ℕ → List Rule → Bool
above m [] = true
above m (r ∷ rs) = ltb m r.number && above m rs

-- rules numbered above m give 0 or a number above m
first_above : (m : ℕ) (rs : List Rule) → T (above m rs) → 0 < first_of rs → m < first_of rs
unfolding first_of
first_above m [] t h = absurd (omega arith)
first_above m (r ∷ rs) t h =
    let k = both (ltb m r.number) (above m rs) t in
    elim (either r.broken) [
      | inl e ↦ rw (broke r rs e) (ltb→lt m r.number k.0)
      | inr e ↦ rw (held r rs e) (first_above m rs k.1 (rw (held r rs e) at h))
    ]

-- past the first k rules none of their numbers is given
past : (k low : ℕ) (info : List ℕ) (scheme : ℕ) → 0 < low → T (above k (later k info scheme)) → AllHold (take k (info_rules info))
    → Outside low k (parsed info scheme).answer
past k low info scheme p t h l u =
    let e : (parsed info scheme).answer ≡ first_of (later k info scheme) = after_first k info scheme h in
    let m : k < first_of (later k info scheme) = first_above k (later k info scheme) t (omega arith) in
    omega arith

p8 : Ours (passes (header_size is 32 ∷ length is 116 ∷ []) 3 4)
unfolding info_rules numbers_of scheme_rules bad_header_size
p8 info scheme f h = past 4 3 info scheme (lit< tt) tt (h.0 and h.1.0 and (rw f.0) and (rw (f.0, f.1.0)) and tt)

p8_other : (n : ℕ) → not (eqb n 116) ≡ true → Ours (answers (header_size is 32 ∷ length is n ∷ []) 4)
unfolding info_rules numbers_of
p8_other n e info scheme f h = after_first 3 info scheme h ∙ broke _ _ (rw (f.0, f.1.0) e)

p9 : (n : ℕ) → bad_header_size n ≡ true → Ours (answers (header_size is n ∷ []) 3)
unfolding info_rules numbers_of
p9 n e info scheme f h = after_first 2 info scheme h ∙ broke _ _ (rw f.0 e)

p10 : (x count : ℕ) → bad_name 140 x ≡ false → 140 - 32 - x ≡ count
    → Ours (names (header_size is 140 ∷ length is 224 ∷ size_extra is x ∷ []) count)
unfolding info_rules numbers_of scheme_rules bad_header_size described
p10 x count e c info scheme f h = (
  past 5 3 info scheme (lit< tt) tt (h.0 and h.1.0 and (rw f.0) and (rw (f.0, f.1.0)) and (rw (f.0, f.1.1.0) e) and tt),
  λ z. rw (parsed_fields info scheme (sym (parsed_answer info scheme) ∙ z)) (rw (f.0, f.1.1.0) c),
)

p11 : (x : ℕ) → bad_name 140 x ≡ true → Ours (answers (header_size is 140 ∷ length is 224 ∷ size_extra is x ∷ []) 5)
unfolding info_rules numbers_of
p11 x e info scheme f h = after_first 4 info scheme h ∙ broke _ _ (rw (f.0, f.1.1.0) e)

p12 : Ours (answers (alg_id is 0x660f ∷ key_size is 128 ∷ []) 8)
unfolding info_rules numbers_of algorithms look_up suite_of
p12 info scheme f h = after_first 7 info scheme h ∙ broke _ _ (rw (f.0, f.1.0))

-- ---- the table

pub cases : Every parsed judged opened sealed table
unfolding least takes_extra filling_for bad_header_size bad_name
cases =
    seals_row 0 0 refl refl (lit≤ tt)  -- P1
    and seals_row 1 15 refl refl (lit≤ tt)  -- P2
    and seals_row 15 1 refl refl (lit≤ tt)  -- P3
    and seals_row 16 0 refl refl (lit≤ tt)  -- P4
    and seals_row 17 15 refl refl (lit≤ tt)  -- P5
    and chooses_row false 4096 0 refl (lit≤ tt)  -- P6
    and chooses_row true 4096 16 refl (lit≤ tt)
    and chooses_row false 268435456 0 refl (lit≤ tt)  -- P7
    and chooses_row true 268435456 16 refl (lit≤ tt)
    and refuses_row 268435457 (lit< tt)
    and p8  -- P8
    and p8_other 115 refl
    and p8_other 117 refl
    and p9 31 refl  -- P9
    and p9 4097 refl
    and p10 0 108 refl refl  -- P10
    and p10 108 0 refl refl
    and p11 107 refl  -- P11
    and p11 109 refl
    and p12  -- P12
    and tt
