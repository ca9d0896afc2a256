-- What is so of each row of the table is so of what is looked up in it: that is what a row gives, or what there is for none. Assumes
-- nothing.
use mathlib.Core.Path.{◌≡◌, refl, ap, ◌∙◌}
use mathlib.Core.Bool.{false, true≢false}
use mathlib.Core.Logic.{inl, inr}
use mathlib.Core.List.{List, [], ◌∷◌, map}
use Prim.Native.Nat.{ℕ, ◌+◌, ◌/◌, ◌≤◌}
use native.Mathlib.Omega.{arith}
use borrow.Author.Tests.{eqb-true}
use lib.Dec.{eqb, lit≤}
use Rattle.answers.specs.Rules.{OneOf}
use Rattle.answers.proofs.Laws.{either}
use Rattle.answers.proofs.Rows.{◌and◌}
use Rattle.descriptor.specs.Info.{Algorithm, algorithms, look_up, Suite, suite, suite_of, alg_id_of}

-- a row: one of three key sizes, as many rounds as AES has for it (six more than its key has words), and an AlgID that is not 0. Its
-- bits give its AlgID, and its AlgID its bits and rounds
record Row (x : Algorithm) : Type 0 where
  size : OneOf (128 ∷ 192 ∷ 256 ∷ []) x.bits
  few : x.bits ≤ 256
  rounds : x.rounds ≡ x.bits / 32 + 6
  named : eqb x.alg_id 0 ≡ false
  low : x.alg_id ≤ 0x6610
  by_bits : alg_id_of x.bits ≡ x.alg_id
  by_id : suite_of x.alg_id ≡ suite 0 x.bits x.rounds

abbrev Rows : List Algorithm → Type 0
Rows [] = Unit
Rows (x ∷ xs) = Row x × Rows xs

rows : Rows algorithms
unfolding algorithms look_up suite_of alg_id_of
rows =
    record { size = inl refl; few = lit≤ tt; rounds = refl; named = refl; low = lit≤ tt; by_bits = refl; by_id = refl }
    and record { size = inr (inl refl); few = lit≤ tt; rounds = refl; named = refl; low = lit≤ tt; by_bits = refl; by_id = refl }
    and record { size = inr (inr (inl refl)); few = lit≤ tt; rounds = refl; named = refl; low = lit≤ tt; by_bits = refl; by_id = refl }
    and tt

-- what every row with that number gives, and what there is for none, is as P says: so is what is found
found : {A : Type 0} (P : A → Type 0) (xs : List Algorithm) (column : Algorithm → ℕ) (n : ℕ) (gives : Algorithm → A) (none : A) → Rows xs
    → ((x : Algorithm) → Row x → n ≡ column x → P (gives x)) → P none → P (look_up xs column n gives none)
unfolding look_up
found P [] column n gives none r f z = z
found P (x ∷ xs) column n gives none r f z =
    elim (either (eqb n (column x))) [
      | inl e ↦ rw e (f x r.0 (eqb-true n (column x) e))
      | inr e ↦ rw e (found P xs column n gives none r.1 f z)
    ]

-- ---- by AlgID

-- an AlgID that is known: its key size is one of three, and it has as many rounds as AES has for it
pub record Known (alg_id : ℕ) (x : Suite) : Type 0 where
  pub low : alg_id ≤ 0x6610
  pub bits : OneOf (128 ∷ 192 ∷ 256 ∷ []) x.bits.0
  pub rounds : x.rounds ≡ x.bits.0 / 32 + 6

pub suite_known : (alg_id : ℕ) → (suite_of alg_id).answer ≡ 0 → Known alg_id (suite_of alg_id)
unfolding suite_of
suite_known alg_id =
    found (λ (s : Suite). s.answer ≡ 0 → Known alg_id s) algorithms _ alg_id _ _ rows
    (λ x r e h. record { low = omega (arith, r.low); bits = r.size; rounds = r.rounds })
    (λ h. absurd (omega arith))

-- one that is not is refused by number 6
pub suite_unknown : (alg_id : ℕ) → ((suite_of alg_id).answer ≡ 0 → ⊥) → (suite_of alg_id).answer ≡ 6
unfolding suite_of
suite_unknown alg_id =
    found (λ (s : Suite). (s.answer ≡ 0 → ⊥) → s.answer ≡ 6) algorithms _ alg_id _ _ rows (λ x r e h. absurd (h refl)) (λ h. refl)

-- ---- by key size

-- a key size that has a row: its AlgID gives it back, with its rounds
pub record KeyRow (bits : ℕ) : Type 0 where
  pub few : bits ≤ 256
  pub named : eqb (alg_id_of bits) 0 ≡ false
  pub low : alg_id_of bits ≤ 0x6610
  pub suite_is : suite_of (alg_id_of bits) ≡ suite 0 bits (bits / 32 + 6)

row_of : (bits : ℕ) (xs : List Algorithm) → Rows xs → OneOf (map (λ x. x.bits) xs) bits → KeyRow bits
row_of bits [] r o = absurd o
row_of bits (x ∷ xs) r (inl e) =
    let k = r.0 in
    rw e (record { few = k.few; named = rw k.by_bits k.named; low = rw k.by_bits k.low; suite_is = ap suite_of k.by_bits ∙ k.by_id ∙ rw k.rounds })
row_of bits (x ∷ xs) r (inr o) = row_of bits xs r.1 o

pub key_row : (bits : ℕ) → OneOf (128 ∷ 192 ∷ 256 ∷ []) bits → KeyRow bits
unfolding algorithms
key_row bits = row_of bits algorithms rows

-- no other has an AlgID
pub key_known : (bits : ℕ) → eqb (alg_id_of bits) 0 ≡ false → OneOf (128 ∷ 192 ∷ 256 ∷ []) bits
unfolding alg_id_of
key_known bits =
    found (λ (a : ℕ). eqb a 0 ≡ false → OneOf (128 ∷ 192 ∷ 256 ∷ []) bits) algorithms _ bits _ _ rows (λ x r e h. rw e r.size)
    (λ h. absurd (true≢false h))

-- so many bits in bytes
pub in_bytes : (n : ℕ) → OneOf (128 ∷ 192 ∷ 256 ∷ []) n → OneOf (16 ∷ 24 ∷ 32 ∷ []) (n / 8)
in_bytes n (inl e) = inl (ap (λ (k : ℕ). k / 8) e)
in_bytes n (inr (inl e)) = inr (inl (ap (λ (k : ℕ). k / 8) e))
in_bytes n (inr (inr (inl e))) = inr (inr (inl (ap (λ (k : ℕ). k / 8) e)))
in_bytes n (inr (inr (inr e))) = absurd e
