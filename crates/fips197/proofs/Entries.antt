-- The rules of the written tables, at every entry: one test computed over a whole table, and a lemma that carries it to any
-- entry (FIPS 197 5.1.1, 5.2, 5.3.2). Assumes nothing.
use mathlib.Core.Path.{◌≡◌, refl, ap, ◌∙◌}
use mathlib.Core.Logic.{⊎_elim}
use mathlib.Core.Bool.{Bool, true, false, ◌&&◌, ◌||◌}
use mathlib.Core.List.{List, [], ◌∷◌}
use Prim.Native.Nat.{ℕ, zero, suc, ◌+◌, ◌-◌, ◌≤◌, ◌<◌}
use native.Mathlib.Nat.{add-zero, zero-add, add-suc, suc-add, le_of_suc-le-suc, not-suc-le-zero}
use native.Mathlib.Omega.{arith}
use lib.Dec.{T, eqb, ltb, eqb→eq, ltb→lt}
use lib.ListN.{length, get_or, get_or-eq_default}
use lib.Pow.{are_bytes}
use borrow.Author.Tests.{ltb-true, ltb-false, ne_eqb}
use Rattle.answers.proofs.Laws.{either, both}
use Rattle.octets.specs.Octets.{Bytes}
use Rattle.octets.proofs.Below.{nil_bytes, cons_below}
use Rattle.fips197.specs.Field.{xor, double, bit, mul_by, mul, powers, inverse, power}
use Rattle.fips197.specs.Tables.{rotate, affine, substituted, look, sbox, inv_sbox, round_constants, round_constant}

-- the test passes at each entry and its place, counted from i
abbrev pub every : (ℕ → ℕ → Bool) → ℕ → List ℕ → Bool
every f i [] = true
every f i (x ∷ t) = f i x && every f (suc i) t

from : (f : ℕ → ℕ → Bool) (t : List ℕ) (i : ℕ) → T (every f i t) → (k : ℕ) → k < length t → T (f (i + k) (get_or t k 0))
from f [] i h k l = absurd (not-suc-le-zero l)
from f (x ∷ t) i h zero l = rw add-zero (both (f i x) (every f (suc i) t) h).0
from f (x ∷ t) i h (suc k) l =
    rw (add-suc, ← suc-add) (from f t (suc i) (both (f i x) (every f (suc i) t) h).1 k (le_of_suc-le-suc l))

-- a test that passes over the whole table passes at any entry
pub at : (f : ℕ → ℕ → Bool) (t : List ℕ) → T (every f 0 t) → (k : ℕ) → k < length t → T (f k (get_or t k 0))
at f t h k l = rw zero-add at (from f t 0 h k l)

-- ---- a number looked up

same : (t : List ℕ) (k d e : ℕ) → k < length t → get_or t k d ≡ get_or t k e
same [] k d e l = absurd (not-suc-le-zero l)
same (x ∷ t) zero d e l = refl
same (x ∷ t) (suc k) d e l = same t k d e (le_of_suc-le-suc l)

-- within the table the entry, past it the number itself
pub look_in : (t : List ℕ) (x : ℕ) → x < length t → look t x ≡ get_or t x 0
unfolding look
look_in t x l = same t x x 0 l

look_past : (t : List ℕ) (x : ℕ) → length t ≤ x → look t x ≡ x
unfolding look
look_past t x l = get_or-eq_default t x l

-- what is tested at every entry holds at every number, where it holds of the numbers past the table
lookup : (f g : ℕ → ℕ) (t : List ℕ) → T (every (λ k y. eqb (f y) (g k)) 0 t) → ((x : ℕ) → length t ≤ x → f x ≡ g x) → (x : ℕ) → f (look t x) ≡ g x
lookup f g t h past x =
    ⊎_elim
    (λ b. let l = ltb-true x (length t) b in
    ap f (look_in t x l) ∙ eqb→eq (f (get_or t x 0)) (g x) (at (λ k y. eqb (f y) (g k)) t h x l))
    (λ b. let l = ltb-false x (length t) b in ap f (look_past t x l) ∙ past x l) (either (ltb x (length t)))

-- ---- the tables undo each other

pub unsub : (x : ℕ) → look inv_sbox (look sbox x) ≡ x
unfolding sbox inv_sbox look
unsub = lookup (look inv_sbox) (λ x. x) sbox tt (λ x l. look_past inv_sbox x l)

pub resub : (x : ℕ) → look sbox (look inv_sbox x) ≡ x
unfolding sbox inv_sbox look
resub = lookup (look sbox) (λ x. x) inv_sbox tt (λ x l. look_past sbox x l)

-- ---- the substitution table is the inverse in the field, turned

-- entry y at x is x's inverse i, turned; and i is x's inverse indeed
stands : ℕ → ℕ → Bool
stands y i = eqb y (affine i)

inverts : ℕ → ℕ → Bool
inverts x i = eqb x 0 || eqb (mul x i) 1

entries : (x : ℕ) → x < 256 → T (stands (get_or sbox x 0) (inverse x) && inverts x (inverse x))
unfolding stands inverts sbox inverse powers affine rotate mul mul_by bit double xor
entries = at (λ x y. stands y (inverse x) && inverts x (inverse x)) sbox tt

module _ (x : ℕ) (l : x < 256) where
  pub sub_rule : look sbox x ≡ substituted x
  unfolding stands substituted sbox
  sub_rule =
      look_in sbox x l
      ∙ eqb→eq (get_or sbox x 0) (affine (inverse x)) (both (stands (get_or sbox x 0) (inverse x)) (inverts x (inverse x)) (entries x l)).0

  pub inverse_rule : 0 < x → mul x (inverse x) ≡ 1
  unfolding inverts
  inverse_rule p =
      let e : eqb x 0 ≡ false = ne_eqb x 0 (λ z. omega arith) in
      eqb→eq (mul x (inverse x)) 1 (rw e at (both (stands (get_or sbox x 0) (inverse x)) (inverts x (inverse x)) (entries x l)).1)

pub inverse_zero : inverse 0 ≡ 0
unfolding inverse powers mul mul_by bit double xor
inverse_zero = refl

-- ---- bytes give bytes

written : (t : List ℕ) → T (are_bytes t) → Bytes t
written [] h = nil_bytes
written (x ∷ t) h = cons_below (ltb→lt x 256 (both (ltb x 256) (are_bytes t) h).0) (written t (both (ltb x 256) (are_bytes t) h).1)

look_byte : (t : List ℕ) → length t ≡ 256 → Bytes t → (x : ℕ) → x < 256 → look t x < 256
look_byte t h b x l = rw (look_in t x (omega (arith, l))) (b.at x)

pub length_sbox : length sbox ≡ 256
unfolding sbox
length_sbox = refl

pub length_inv_sbox : length inv_sbox ≡ 256
unfolding inv_sbox
length_inv_sbox = refl

pub sbox_bytes : Bytes sbox
unfolding sbox
sbox_bytes = written sbox tt

pub inv_sbox_bytes : Bytes inv_sbox
unfolding inv_sbox
inv_sbox_bytes = written inv_sbox tt

pub sub_byte : (x : ℕ) → x < 256 → look sbox x < 256
sub_byte = look_byte sbox length_sbox sbox_bytes

pub inv_sub_byte : (x : ℕ) → x < 256 → look inv_sbox x < 256
inv_sub_byte = look_byte inv_sbox length_inv_sbox inv_sbox_bytes

-- ---- the inverse table by its own rule: the byte whose inverse in the field, turned, is x (5.3.2)

stands_back : (x : ℕ) → x < 256 → T (eqb (substituted (get_or inv_sbox x 0)) x)
unfolding substituted inv_sbox inverse powers affine rotate mul mul_by bit double xor
stands_back = at (λ x y. eqb (substituted y) x) inv_sbox tt

pub inv_sub_rule : (x : ℕ) → x < 256 → substituted (look inv_sbox x) ≡ x
inv_sub_rule x l =
    ap substituted (look_in inv_sbox x (omega (arith, length_inv_sbox))) ∙ eqb→eq (substituted (get_or inv_sbox x 0)) x (stands_back x l)

-- ---- the round constants are the powers of x

pub constant_rule : (j : ℕ) → j < 10 → round_constant (j + 1) ≡ power j
unfolding round_constant round_constants power double xor
constant_rule j l =
    let e : j + 1 - 1 ≡ j = omega arith in
    rw e (eqb→eq (get_or round_constants j 0) (power j) (at (λ k y. eqb y (power k)) round_constants tt j l))

pub constant_byte : (j : ℕ) → round_constant j < 256
unfolding round_constant round_constants
constant_byte j = (written round_constants tt).at (j - 1)
