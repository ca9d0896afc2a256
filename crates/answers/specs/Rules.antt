-- Numbered rules in a fixed order, and the first that is broken (01, "The numbered replies": the first that applies is given).
-- Assumes nothing.
use Rattle.std.specs.Prelude.{◌≡◌, ◌⊎◌, Bool, true, false, cond, ◌&&◌, List, [], ◌∷◌, ◌++◌, ℕ, zero, suc, ltb, eqb}

-- a reply's number, and whether what it is given for is the case
pub record Rule : Type 0 where
  pub number : ℕ
  pub broken : Bool

abbrev pub rule : ℕ → Bool → Rule
rule n b = record { number = n; broken = b }

-- the number of the first broken rule, 0 where none is broken
unfoldable pub first_of : List Rule → ℕ
first_of [] = 0
first_of (r ∷ rs) = cond r.broken r.number (first_of rs)

-- the answer of a list of rules and then another: the first's where it is not 0
unfoldable pub after : (answer rest : ℕ) → ℕ
after zero rest = rest
after (suc n) rest = suc n

-- the rule on room (no. 16): the output is shorter than what is to be written
unfoldable pub room_rules : (room size : ℕ) → List Rule
room_rules room size = rule 16 (ltb room size) ∷ []

-- no rule is broken
abbrev pub AllHold : List Rule → Type 0
AllHold [] = Unit
AllHold (r ∷ rs) = (r.broken ≡ false) × AllHold rs

-- a rule numbered n is broken, and every rule before it holds
pub record First (n : ℕ) (rs : List Rule) : Type 0 where
  pub before : List Rule
  pub rest : List Rule
  pub order : rs ≡ before ++ (rule n true ∷ rest)
  pub hold : AllHold before

-- the test of the rule numbered n, false where there is none: what an accepted input satisfies is looked up by number
abbrev pub test_of : ℕ → List Rule → Bool
test_of n [] = false
test_of n (r ∷ rs) = cond (eqb r.number n) r.broken (test_of n rs)

-- the numbers that the rules can give
abbrev pub numbers : List Rule → List ℕ
numbers [] = []
numbers (r ∷ rs) = r.number ∷ numbers rs

-- every number is above 0, so that answer 0 is no rule's
abbrev pub above_zero : List ℕ → Bool
above_zero [] = true
above_zero (n ∷ ns) = ltb 0 n && above_zero ns

abbrev pub numbered : List Rule → Bool
numbered rs = above_zero (numbers rs)

-- n is one of the list
abbrev pub OneOf : List ℕ → ℕ → Type 0
OneOf [] n = ⊥
OneOf (m ∷ ms) n = (n ≡ m) ⊎ OneOf ms n
