-- Equations between sums of doubled variables, decided by computing: a term is, for each variable, a polynomial in the doubling
-- with coefficients 0 and 1, and two terms are equal where their sum's polynomials vanish. It holds for any group in which each
-- element is its own negative, with any doubling that respects the sum. Assumes nothing.
use mathlib.Core.Path.{◌≡◌, refl, sym, ap, ap₂, ◌∙◌}
use mathlib.Core.Bool.{Bool, true, false, not, ◌&&◌}
use mathlib.Core.List.{List, [], ◌∷◌}
use Prim.Native.Nat.{ℕ, zero, suc}
use lib.Dec.{T}
use Rattle.answers.proofs.Laws.{both}

-- a sum of doubled variables, as it is written
pub data Term : Type 0 where
  var : ℕ → Term
  none : Term
  sum : Term → Term → Term
  twice : Term → Term

-- ---- polynomials, the lowest coefficient first, and a list of one for each variable

abbrev unlike : Bool → Bool → Bool
unlike true b = not b
unlike false b = b

-- element by element, the longer list's rest as it is
abbrev merge : {A : Type 0} → (A → A → A) → List A → List A → List A
merge f [] q = q
merge f (a ∷ p) [] = a ∷ p
merge f (a ∷ p) (b ∷ q) = f a b ∷ merge f p q

abbrev raised : List (List Bool) → List (List Bool)
raised [] = []
raised (p ∷ ps) = (false ∷ p) ∷ raised ps

abbrev lone : ℕ → List (List Bool)
lone zero = (true ∷ []) ∷ []
lone (suc i) = [] ∷ lone i

abbrev pub polys : Term → List (List Bool)
polys (var i) = lone i
polys none = []
polys (sum a b) = merge (merge unlike) (polys a) (polys b)
polys (twice a) = raised (polys a)

abbrev vanishes : List Bool → Bool
vanishes [] = true
vanishes (b ∷ p) = not b && vanishes p

abbrev pub vanish : List (List Bool) → Bool
vanish [] = true
vanish (p ∷ ps) = vanishes p && vanish ps

-- ---- what they stand for

module _ {A : Type 0} (o : A) (◌⊕◌ : A → A → A) (dbl : A → A) where
  infixl 70 ◌⊕◌
  abbrev pub value : (ℕ → A) → Term → A
  value ρ (var i) = ρ i
  value ρ none = o
  value ρ (sum a b) = value ρ a ⊕ value ρ b
  value ρ (twice a) = dbl (value ρ a)

  abbrev factor : Bool → A → A
  factor true v = v
  factor false v = o

  abbrev at : List Bool → A → A
  at [] v = o
  at (b ∷ p) v = factor b v ⊕ at p (dbl v)

  abbrev total : List (List Bool) → (ℕ → A) → A
  total [] ρ = o
  total (p ∷ ps) ρ = at p (ρ 0) ⊕ total ps (λ i. ρ (suc i))

  module _ (assoc : (a b c : A) → (a ⊕ b) ⊕ c ≡ a ⊕ (b ⊕ c)) (comm : (a b : A) → a ⊕ b ≡ b ⊕ a) (self : (a : A) → a ⊕ a ≡ o)
      (zero_l : (a : A) → o ⊕ a ≡ a) (dbl-sum : (a b : A) → dbl (a ⊕ b) ≡ dbl a ⊕ dbl b) where
    zero_r : (a : A) → a ⊕ o ≡ a
    zero_r a = comm a o ∙ zero_l a

    dbl_zero : dbl o ≡ o
    dbl_zero = ap dbl (sym (self o)) ∙ dbl-sum o o ∙ self (dbl o)

    swap : (a b c d : A) → (a ⊕ b) ⊕ (c ⊕ d) ≡ (a ⊕ c) ⊕ (b ⊕ d)
    swap a b c d =
        assoc a b (c ⊕ d) ∙ ap (◌⊕◌ a) (sym (assoc b c d) ∙ ap (λ y. y ⊕ d) (comm b c) ∙ assoc c b d) ∙ sym (assoc a c (b ⊕ d))

    factor_sum : (b c : Bool) (v : A) → factor (unlike b c) v ≡ factor b v ⊕ factor c v
    factor_sum true true v = sym (self v)
    factor_sum true false v = sym (zero_r v)
    factor_sum false true v = sym (zero_l v)
    factor_sum false false v = sym (zero_l o)

    factor_dbl : (b : Bool) (v : A) → factor b (dbl v) ≡ dbl (factor b v)
    factor_dbl true v = refl
    factor_dbl false v = sym dbl_zero

    at_sum : (p q : List Bool) (v : A) → at (merge unlike p q) v ≡ at p v ⊕ at q v
    at_sum [] q v = sym (zero_l (at q v))
    at_sum (b ∷ p) [] v = sym (zero_r (at (b ∷ p) v))
    at_sum (b ∷ p) (c ∷ q) v = ap₂ ◌⊕◌ (factor_sum b c v) (at_sum p q (dbl v)) ∙ swap _ _ _ _

    at_dbl : (p : List Bool) (v : A) → at p (dbl v) ≡ dbl (at p v)
    at_dbl [] v = sym dbl_zero
    at_dbl (b ∷ p) v = ap₂ ◌⊕◌ (factor_dbl b v) (at_dbl p (dbl v)) ∙ sym (dbl-sum _ _)

    total_sum : (p q : List (List Bool)) (ρ : ℕ → A) → total (merge (merge unlike) p q) ρ ≡ total p ρ ⊕ total q ρ
    total_sum [] q ρ = sym (zero_l (total q ρ))
    total_sum (b ∷ p) [] ρ = sym (zero_r (total (b ∷ p) ρ))
    total_sum (b ∷ p) (c ∷ q) ρ = ap₂ ◌⊕◌ (at_sum b c (ρ 0)) (total_sum p q (λ i. ρ (suc i))) ∙ swap _ _ _ _

    total_raised : (p : List (List Bool)) (ρ : ℕ → A) → total (raised p) ρ ≡ dbl (total p ρ)
    total_raised [] ρ = sym dbl_zero
    total_raised (p ∷ ps) ρ = ap₂ ◌⊕◌ (zero_l _ ∙ at_dbl p (ρ 0)) (total_raised ps (λ i. ρ (suc i))) ∙ sym (dbl-sum _ _)

    total_lone : (i : ℕ) (ρ : ℕ → A) → total (lone i) ρ ≡ ρ i
    total_lone zero ρ = zero_r _ ∙ zero_r _
    total_lone (suc i) ρ = zero_l _ ∙ total_lone i (λ j. ρ (suc j))

    total_polys : (t : Term) (ρ : ℕ → A) → total (polys t) ρ ≡ value ρ t
    total_polys (var i) ρ = total_lone i ρ
    total_polys none ρ = refl
    total_polys (sum a b) ρ = total_sum (polys a) (polys b) ρ ∙ ap₂ ◌⊕◌ (total_polys a ρ) (total_polys b ρ)
    total_polys (twice a) ρ = total_raised (polys a) ρ ∙ ap dbl (total_polys a ρ)

    at_vanishes : (p : List Bool) (v : A) → T (vanishes p) → at p v ≡ o
    at_vanishes [] v t = refl
    at_vanishes (true ∷ p) v t = absurd t
    at_vanishes (false ∷ p) v t = zero_l _ ∙ at_vanishes p (dbl v) t

    total_vanish : (p : List (List Bool)) (ρ : ℕ → A) → T (vanish p) → total p ρ ≡ o
    total_vanish [] ρ t = refl
    total_vanish (p ∷ ps) ρ t =
        ap₂ ◌⊕◌ (at_vanishes p (ρ 0) (both (vanishes p) (vanish ps) t).0)
        (total_vanish ps (λ i. ρ (suc i)) (both (vanishes p) (vanish ps) t).1) ∙ zero_l o

    -- two terms are equal where their sum vanishes
    pub solve : (a b : Term) (ρ : ℕ → A) → T (vanish (polys (sum a b))) → value ρ a ≡ value ρ b
    solve a b ρ t =
        sym (zero_r _) ∙ ap (◌⊕◌ (value ρ a)) (sym (self (value ρ b))) ∙ sym (assoc _ _ _)
        ∙ ap (λ y. y ⊕ value ρ b) (sym (total_polys (sum a b) ρ) ∙ total_vanish (polys (sum a b)) ρ t) ∙ zero_l _
