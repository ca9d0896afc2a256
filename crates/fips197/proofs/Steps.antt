-- What a turn of a loop or a part of the work adds to what is done: the laws that the proofs of the code cite. Assumes nothing.
use mathlib.Core.Path.{◌≡◌, refl, sym, ap, ◌∙◌}
use mathlib.Core.List.{List, [], ◌∷◌, ◌++◌}
use Prim.Native.Nat.{ℕ, zero, suc, ◌+◌, ◌-◌, ◌≤◌, ◌<◌}
use native.Mathlib.Numerals.{add-one}
use native.Mathlib.Omega.{arith}
use lib.ListN.{length, get_or, take, set, length-set}
use lib.Seq.{take-suc, take_all, take-suc-set}
use Rattle.std.proofs.lemmas.List.{ext_get_or}
use Rattle.fips197.specs.Cipher.{tabulate, round, inv_round, rounds, inv_rounds}
use Rattle.fips197.proofs.States.{opened}

-- ---- a state in four columns

abbrev pub column : List ℕ → ℕ → List ℕ
column s i = get_or s i 0 ∷ get_or s (i + 1) 0 ∷ get_or s (i + 2) 0 ∷ get_or s (i + 3) 0 ∷ []

-- a step that works column by column, where its four results are joined
pub by_columns : (f : List ℕ → List ℕ) (s r a b c d : List ℕ) → length s ≡ 16 → r ≡ a ++ b ++ c ++ d
    → a ≡ f (column s 0) → b ≡ f (column s 4) → c ≡ f (column s 8) → d ≡ f (column s 12)
    → f (column s 0) ++ f (column s 4) ++ f (column s 8) ++ f (column s 12) ≡ f (tabulate 16 (λ i. get_or s i 0))
    → r ≡ f s
by_columns f s r a b c d h e ea eb ec ed whole = e ∙ rw (ea, eb, ec, ed) (whole ∙ ap f (opened 16 s h))

-- ---- a list made place by place

pub length_tabulate : (n : ℕ) (f : ℕ → ℕ) → length (tabulate n f) ≡ n
length_tabulate zero f = refl
length_tabulate (suc n) f = ap suc (length_tabulate n (λ i. f (suc i)))

pub get_d_tabulate : (n : ℕ) (f : ℕ → ℕ) (i : ℕ) → i < n → get_or (tabulate n f) i 0 ≡ f i
get_d_tabulate zero f i h = absurd (omega arith)
get_d_tabulate (suc n) f zero h = refl
get_d_tabulate (suc n) f (suc i) h = get_d_tabulate n (λ j. f (suc j)) i (omega arith)

-- a list of n that holds at each place what f gives there
pub tabulated : (n : ℕ) (f : ℕ → ℕ) (t : List ℕ) → length t ≡ n → ((i : ℕ) → i < n → get_or t i 0 ≡ f i) → t ≡ tabulate n f
tabulated n f t size each =
    ext_get_or 0 t (tabulate n f) (size ∙ sym (length_tabulate n f))
    (λ i h. let l : i < n = omega arith in each i l ∙ sym (get_d_tabulate n f i l))

-- of n places the first i hold what f gives there
pub record Tabulated (n : ℕ) (f : ℕ → ℕ) (i : ℕ) (t : List ℕ) : Type 0 where
  pub few : i ≤ n
  pub size : length t ≡ n
  pub front : take i t ≡ take i (tabulate n f)

module _ (n : ℕ) (f : ℕ → ℕ) where
  pub filled_none : (t : List ℕ) → length t ≡ n → Tabulated n f 0 t
  filled_none t h = record { few = omega arith; size = h; front = refl }

  -- a turn of a loop
  pub filled_more : (i : ℕ) (t : List ℕ) (v : ℕ) → i < n → Tabulated n f i t → v ≡ f i → Tabulated n f (i + 1) (set t i v)
  filled_more i t v h done e =
      let old = done.size in
      let new : v ≡ get_or (tabulate n f) i 0 = e ∙ sym (get_d_tabulate n f i h) in
      let within : i < length (tabulate n f) = rw length_tabulate h in
      record {
        few = omega arith;
        size = length-set t i v ∙ old;
        front = rw (add-one, take-suc-set t i v (omega arith), take-suc (tabulate n f) i 0 within, done.front, new);
      }

  pub filled_all : (i : ℕ) (t : List ℕ) → n ≤ i → Tabulated n f i t → t ≡ tabulate n f
  filled_all i t h done =
      let old = done.size in
      let whole : length (tabulate n f) ≤ i = rw length_tabulate h in
      sym (take_all i t (omega arith)) ∙ done.front ∙ take_all i (tabulate n f) whole

-- ---- a round more, and a round less to go

pub rounds_none : (key : ℕ → List ℕ) (s : List ℕ) → rounds key 0 s ≡ s
unfolding rounds
rounds_none key s = refl

pub rounds_more : (key : ℕ → List ℕ) (n : ℕ) (s t u : List ℕ) → 0 < n → t ≡ rounds key (n - 1) s → u ≡ round key n t → u ≡ rounds key (n + 1 - 1) s
unfolding rounds
rounds_more key zero s t u h e g = absurd (omega arith)
rounds_more key (suc n) s t u h e g =
    let before : suc n - 1 ≡ n = omega arith in
    let after : suc n + 1 - 1 ≡ suc n = omega arith in
    rw after (g ∙ ap (round key (suc n)) (rw before at e))

pub inv_rounds_less : (key : ℕ → List ℕ) (n : ℕ) (s : List ℕ) → 0 < n → inv_rounds key n s ≡ inv_rounds key (n - 1) (inv_round key n s)
unfolding inv_rounds
inv_rounds_less key zero s h = absurd (omega arith)
inv_rounds_less key (suc n) s h = let e : suc n - 1 ≡ n = omega arith in rw e
