-- A rule is broken or holds, so the answer is that of the first that is broken, by induction over the list. Assumes nothing.
use mathlib.Core.Path.{◌≡◌, refl, sym, ap, subst, ◌∙◌}
use mathlib.Core.Logic.{◌⊎◌, inl, inr, ◌↔◌}
use mathlib.Core.Bool.{Bool, true, false, cond, not, ◌&&◌, ◌||◌, true≢false}
use mathlib.Core.List.{List, [], ◌∷◌, ◌++◌}
use Prim.Native.Nat.{ℕ, zero, suc, ◌+◌, ◌≤◌, ◌<◌}
use native.Mathlib.Omega.{arith}
use borrow.Author.Tests.{eqb-true, eqb-false, eq-eqb, ltb-false, lt-ltb, le-ltb}
use lib.Dec.{T, ltb, eqb, ltb→lt}
use Rattle.answers.specs.Rules.{Rule, rule, first_of, after, room_rules, AllHold, First, above_zero, numbered, test_of, numbers, OneOf}

-- a test is true or false
pub either : (b : Bool) → (b ≡ true) ⊎ (b ≡ false)
either true = inl refl
either false = inr refl

-- where two tests pass together each does
pub both : (a b : Bool) → T (a && b) → T a × T b
both true b h = (tt, h)
both false b h = absurd h

pub pass : (a b : Bool) → T a → T b → T (a && b)
pass true b h k = k
pass false b h k = absurd h

-- where either would pass and none does
pub neither : {a b : Bool} → (a || b) ≡ false → (a ≡ false) × (b ≡ false)
neither {a = true} h = absurd (true≢false h)
neither {a = false} h = (refl, h)

-- ---- one answer after another

pub after_none : (n rest : ℕ) → n ≡ 0 → after n rest ≡ rest
unfolding after
after_none n rest e = rw e

pub after_some : (n rest : ℕ) → (n ≡ 0 → ⊥) → after n rest ≡ n
unfolding after
after_some zero rest h = absurd (h refl)
after_some (suc n) rest h = refl

pub after_zero : (n rest : ℕ) → after n rest ≡ 0 → (n ≡ 0) × (rest ≡ 0)
unfolding after
after_zero zero rest h = (refl, h)
after_zero (suc n) rest h = absurd (omega (arith, h))

-- ---- the first that is broken

module _ (r : Rule) (rs : List Rule) where
  pub broke : r.broken ≡ true → first_of (r ∷ rs) ≡ r.number
  unfolding first_of
  broke e = rw e

  pub held : r.broken ≡ false → first_of (r ∷ rs) ≡ first_of rs
  unfolding first_of
  held e = rw e

  above : T (numbered (r ∷ rs)) → (0 < r.number) × T (numbered rs)
  above t = let s = both (ltb 0 r.number) (numbered rs) t in (ltb→lt 0 r.number s.0, s.1)

-- where every rule holds, those after them decide
pub all_hold : (rs ts : List Rule) → AllHold rs → first_of (rs ++ ts) ≡ first_of ts
all_hold [] ts h = refl
all_hold (r ∷ rs) ts h = held r (rs ++ ts) h.0 ∙ all_hold rs ts h.1

of_none : (rs : List Rule) → AllHold rs → first_of rs ≡ 0
unfolding first_of
of_none [] h = refl
of_none (r ∷ rs) h = held r rs h.0 ∙ of_none rs h.1

to_none : (rs : List Rule) → T (numbered rs) → first_of rs ≡ 0 → AllHold rs
to_none [] t h = tt
to_none (r ∷ rs) t h =
    let a = above r rs t in
    elim (either r.broken) [
      | inl e ↦ absurd (omega (arith, broke r rs e, h, a.0))
      | inr e ↦ (e, to_none rs a.1 (sym (held r rs e) ∙ h))
    ]

-- answer 0 exactly where every rule holds
pub none_broken : (rs : List Rule) → T (numbered rs) → (first_of rs ≡ 0) ↔ AllHold rs
none_broken rs t = (λ h. to_none rs t h, λ h. of_none rs h)

to_first : (n : ℕ) (rs : List Rule) → 0 < n → first_of rs ≡ n → First n rs
unfolding first_of
to_first n [] p h = absurd (omega (arith, h))
to_first n (r ∷ rs) p h =
    elim (either r.broken) [
      | inl e ↦
          let q : r ≡ rule n true = λ i. record { number = (sym (broke r rs e) ∙ h) i; broken = e i } in
          record { before = []; rest = rs; order = ap (λ (x : Rule). x ∷ rs) q; hold = tt }
      | inr e ↦
          let f : First n rs = to_first n rs p (sym (held r rs e) ∙ h) in
          record { before = r ∷ f.before; rest = f.rest; order = ap (◌∷◌ r) f.order; hold = (e, f.hold) }
    ]

of_first : (n : ℕ) (rs : List Rule) → First n rs → first_of rs ≡ n
of_first n rs f = ap first_of f.order ∙ all_hold f.before (rule n true ∷ f.rest) f.hold ∙ broke (rule n true) f.rest refl

-- answer n above 0 exactly where a rule numbered n is broken and every rule before it holds
pub first_broken : (n : ℕ) (rs : List Rule) → 0 < n → (first_of rs ≡ n) ↔ First n rs
first_broken n rs p = (λ h. to_first n rs p h, λ f. of_first n rs f)

picked : (t b : Bool) (x : Bool) → b ≡ false → x ≡ false → cond t b x ≡ false
picked true b x e f = e
picked false b x e f = f

held_test : (n : ℕ) (rs : List Rule) → AllHold rs → test_of n rs ≡ false
held_test n [] h = refl
held_test n (r ∷ rs) h = picked (eqb r.number n) r.broken (test_of n rs) h.0 (held_test n rs h.1)

-- where the answer is 0 the rule numbered n holds
pub rule_holds : (n : ℕ) (rs : List Rule) → T (numbered rs) → first_of rs ≡ 0 → test_of n rs ≡ false
rule_holds n rs t h = held_test n rs (to_none rs t h)

-- two lists end to end: where the first answers 0 the second decides
pub then : (rs ts : List Rule) → T (numbered rs) → first_of rs ≡ 0 → first_of (rs ++ ts) ≡ first_of ts
then rs ts t h = all_hold rs ts (to_none rs t h)

-- and where it answers another number, that number stands
pub stop : (rs ts : List Rule) → (first_of rs ≡ 0 → ⊥) → first_of (rs ++ ts) ≡ first_of rs
unfolding first_of
stop [] ts h = absurd (h refl)
stop (r ∷ rs) ts h =
    elim (either r.broken) [
      | inl e ↦ broke r (rs ++ ts) e ∙ sym (broke r rs e)
      | inr e ↦ held r (rs ++ ts) e ∙ stop rs ts (λ z. h (held r rs e ∙ z)) ∙ sym (held r rs e)
    ]

-- so the answer of both is the first's, or the second's after it
pub in_turn : (rs ts : List Rule) → T (numbered rs) → first_of (rs ++ ts) ≡ after (first_of rs) (first_of ts)
in_turn rs ts t =
    elim (either (eqb (first_of rs) 0)) [
      | inl e ↦ let z : first_of rs ≡ 0 = eqb-true _ _ e in then rs ts t z ∙ sym (after_none (first_of rs) (first_of ts) z)
      | inr e ↦ let n : first_of rs ≡ 0 → ⊥ = eqb-false _ _ e in stop rs ts n ∙ sym (after_some (first_of rs) (first_of ts) n)
    ]

-- where both together answer 0 each of them does
pub both_zero : (rs ts : List Rule) → T (numbered rs) → first_of (rs ++ ts) ≡ 0 → (first_of rs ≡ 0) × (first_of ts ≡ 0)
both_zero rs ts t h =
    elim (either (eqb (first_of rs) 0)) [
      | inl e ↦ let z : first_of rs ≡ 0 = eqb-true _ _ e in (z, sym (then rs ts t z) ∙ h)
      | inr e ↦ let n : first_of rs ≡ 0 → ⊥ = eqb-false _ _ e in absurd (n (sym (stop rs ts n) ∙ h))
    ]

-- lists end to end hold exactly where both do
pub both_hold : (rs ts : List Rule) → AllHold (rs ++ ts) ↔ (AllHold rs × AllHold ts)
both_hold [] ts = (λ h. (tt, h), λ h. h.1)
both_hold (r ∷ rs) ts =
    let k = both_hold rs ts in
    (λ h. let g = k.0 h.1 in ((h.0, g.0), g.1), λ h. (h.0.0, k.1 (h.0.1, h.1)))

one_more : (n m : ℕ) (ms : List ℕ) → OneOf (0 ∷ ms) n → OneOf (0 ∷ m ∷ ms) n
one_more n m ms (inl e) = inl e
one_more n m ms (inr e) = inr (inr e)

-- the answer is 0 or the number of one of the rules
pub listed : (rs : List Rule) → OneOf (0 ∷ numbers rs) (first_of rs)
unfolding first_of
listed [] = inl refl
listed (r ∷ rs) =
    elim (either r.broken) [
      | inl e ↦ inr (inl (broke r rs e))
      | inr e ↦ rw (held r rs e) (one_more (first_of rs) r.number (numbers rs) (listed rs))
    ]

pub listed_in : (rs : List Rule) (ns : List ℕ) → numbers rs ≡ ns → OneOf (0 ∷ ns) (first_of rs)
listed_in rs ns e = subst (λ (ms : List ℕ). OneOf (0 ∷ ms) (first_of rs)) e (listed rs)

-- a number is none of a list: this is computed
abbrev pub none_of : (m : ℕ) → List ℕ → Bool
none_of m [] = true
none_of m (k ∷ ms) = not (eqb m k) && none_of m ms

pub not_one : (m : ℕ) (ms : List ℕ) → T (none_of m ms) → OneOf ms m → ⊥
not_one m [] t o = o
not_one m (k ∷ ms) t (inl e) = absurd (subst (λ (b : Bool). T (not b && none_of m ms)) (eq-eqb m k e) t)
not_one m (k ∷ ms) t (inr o) = not_one m ms (both (not (eqb m k)) (none_of m ms) t).1 o

-- a number that is not the second's is given where the first gives it
module _ (rs ts : List Rule) (t : T (numbered rs)) (n : ℕ) (some : n ≡ 0 → ⊥) (absent : OneOf (numbers ts) n → ⊥) where
  by_second : OneOf (0 ∷ numbers ts) n → ⊥
  by_second (inl e) = some e
  by_second (inr o) = absent o

  to_front : first_of (rs ++ ts) ≡ n → first_of rs ≡ n
  to_front h =
      elim (either (eqb (first_of rs) 0)) [
        | inl e ↦ absurd (by_second (subst (OneOf (0 ∷ numbers ts)) (sym (then rs ts t (eqb-true _ _ e)) ∙ h) (listed ts)))
        | inr e ↦ sym (stop rs ts (eqb-false _ _ e)) ∙ h
      ]

  pub front_decides : (first_of (rs ++ ts) ≡ n) ↔ (first_of rs ≡ n)
  front_decides = (to_front, λ h. stop rs ts (λ z. some (sym h ∙ z)) ∙ h)

-- a number that is not the first's is given where the first gives 0
pub front_holds : (rs ts : List Rule) (n : ℕ) → (OneOf (0 ∷ numbers rs) n → ⊥) → first_of (rs ++ ts) ≡ n → first_of rs ≡ 0
front_holds rs ts n absent h =
    elim (either (eqb (first_of rs) 0)) [
      | inl e ↦ eqb-true _ _ e
      | inr e ↦ absurd (absent (subst (OneOf (0 ∷ numbers rs)) (sym (stop rs ts (eqb-false _ _ e)) ∙ h) (listed rs)))
    ]

-- rules that are left out do not count for a number that is none of theirs
pub left_out : (rs ts us : List Rule) (n : ℕ) → (OneOf (numbers ts) n → ⊥) → first_of (rs ++ (ts ++ us)) ≡ n → first_of (rs ++ us) ≡ n
left_out [] [] us n absent h = h
left_out [] (t ∷ ts) us n absent h =
    elim (either t.broken) [
      | inl e ↦ absurd (absent (inl (sym h ∙ broke t (ts ++ us) e)))
      | inr e ↦ left_out [] ts us n (λ o. absent (inr o)) (sym (held t (ts ++ us) e) ∙ h)
    ]
left_out (r ∷ rs) ts us n absent h =
    elim (either r.broken) [
      | inl e ↦ broke r (rs ++ us) e ∙ sym (broke r (rs ++ (ts ++ us)) e) ∙ h
      | inr e ↦ held r (rs ++ us) e ∙ left_out rs ts us n absent (sym (held r (rs ++ (ts ++ us)) e) ∙ h)
    ]

-- lists end to end have the numbers of both
pub numbers_both : (rs ts : List Rule) → numbers (rs ++ ts) ≡ numbers rs ++ numbers ts
numbers_both [] ts = refl
numbers_both (r ∷ rs) ts = ap (◌∷◌ r.number) (numbers_both rs ts)

-- a list whose numbers are known: whether they are above 0 is computed
pub by_numbers : (rs : List Rule) (ns : List ℕ) → numbers rs ≡ ns → T (above_zero ns) → T (numbered rs)
by_numbers rs ns e t = rw e t

-- the answer is at most the sum of the numbers
abbrev pub sum : List ℕ → ℕ
sum [] = 0
sum (m ∷ ms) = m + sum ms

pub one_within : (ms : List ℕ) (n : ℕ) → OneOf ms n → n ≤ sum ms
one_within [] n o = absurd o
one_within (m ∷ ms) n (inl e) = omega (arith, e)
one_within (m ∷ ms) n (inr o) = omega (arith, one_within ms n o)

pub answer_within : (rs : List Rule) → first_of rs ≤ sum (numbers rs)
answer_within rs = omega (arith, one_within (0 ∷ numbers rs) (first_of rs) (listed rs))

-- ---- the rule on room

pub room_numbers : (room size : ℕ) → numbers (room_rules room size) ≡ 16 ∷ []
unfolding room_rules
room_numbers room size = refl

pub room_broken : (room size : ℕ) → room < size → first_of (room_rules room size) ≡ 16
unfolding room_rules
room_broken room size h = broke (rule 16 (ltb room size)) [] (lt-ltb room size h)

-- it holds exactly where the room is no less
pub roomy : (room size : ℕ) → (first_of (room_rules room size) ≡ 0) ↔ (size ≤ room)
unfolding room_rules
roomy room size = (
  λ h. ltb-false room size (to_none (room_rules room size) tt h).0,
  λ h. of_none (room_rules room size) (le-ltb room size h, tt),
)
