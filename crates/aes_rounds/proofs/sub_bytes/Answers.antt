-- Each turn looks one byte more up.
use mathlib.Core.Path.{◌≡◌, refl, ap, ap₂, ◌∙◌}
use mathlib.Core.List.{List, [], ◌∷◌, ◌++◌, map}
use Prim.Native.Nat.{ℕ, zero, suc, ◌<◌}
use native.Mathlib.Numerals.{add-one}
use native.Mathlib.Omega.{arith}
use borrow.Author.Rules.{rules}
use lib.ListN.{length, get_or, set, take, drop}
use Rattle.fips197.specs.Tables.{look}
use Rattle.aes_rounds.proofs.sub_bytes.Goals as goal

-- the first i elements mapped where they stand
abbrev upto : (ℕ → ℕ) → ℕ → List ℕ → List ℕ
upto f i s = map f (take i s) ++ drop i s

next : (f : ℕ → ℕ) (i : ℕ) (s : List ℕ) → i < length s → set (upto f i s) i (f (get_or (upto f i s) i 0)) ≡ upto f (suc i) s
next f i [] h = absurd (omega arith)
next f zero (x ∷ s) h = refl
next f (suc i) (x ∷ s) h = ap (◌∷◌ (f x)) (next f i s (omega arith))

pub loop-x-preserved : goal.loop-x-preserved
loop-x-preserved g c =
    let l = c.loop-x in
    let f = look c.args.table.now in
    let within : l.x-index < length c.args.s = search rules in
    ap₂ (λ (t : List ℕ) (y : ℕ). set t l.x-index y) l.invariant (c.look.ensures ∙ ap (λ (t : List ℕ). f (get_or t l.x-index 0)) l.invariant)
    ∙ next f l.x-index c.args.s within ∙ rw add-one
