-- The rounds and the schedule grow by one step and by spans of them; a round's range decides its function and its word. Assumes
-- nothing.
use Rattle.std.proofs.Common.{◌≡◌, ℕ, ◌+◌, ◌-◌, ◌<◌, ◌≤◌, List, length, get_or, take, set, sym, refl, ◌∙◌, add-one, arith, take_all, get_or-take, take-suc-set, le-ltb, lt-ltb}
use Rattle.sha1_rounds.specs.Compression as fips
use Rattle.sha1_rounds.specs.declared.State.{State}

module _ (t p q r s : ℕ) where
  pub first : t < 20 → fips.ranged t p q r s ≡ p
  unfolding fips.ranged
  first h = simp (lt-ltb t 20 h)

  pub second : 20 ≤ t → t < 40 → fips.ranged t p q r s ≡ q
  unfolding fips.ranged
  second g h = simp (le-ltb t 20 g, lt-ltb t 40 h)

  pub third : 40 ≤ t → t < 60 → fips.ranged t p q r s ≡ r
  unfolding fips.ranged
  third g h = simp (le-ltb t 20 (omega arith), le-ltb t 40 g, lt-ltb t 60 h)

  pub last : 60 ≤ t → fips.ranged t p q r s ≡ s
  unfolding fips.ranged
  last g = simp (le-ltb t 20 (omega arith), le-ltb t 40 (omega arith), le-ltb t 60 g)

-- the round words' ranges
module _ (k : List ℕ) (e : k ≡ fips.round_words) (t : ℕ) where
  pub first_word : t < 20 → get_or k 0 0 ≡ fips.constant t
  unfolding fips.constant
  first_word h = rw e (sym (first t _ _ _ _ h))

  pub second_word : 20 ≤ t → t < 40 → get_or k 1 0 ≡ fips.constant t
  unfolding fips.constant
  second_word g h = rw e (sym (second t _ _ _ _ g h))

  pub third_word : 40 ≤ t → t < 60 → get_or k 2 0 ≡ fips.constant t
  unfolding fips.constant
  third_word g h = rw e (sym (third t _ _ _ _ g h))

  pub last_word : 60 ≤ t → get_or k 3 0 ≡ fips.constant t
  unfolding fips.constant
  last_word g = rw e (sym (last t _ _ _ _ g))

pub ruleset round_word = (first_word, second_word, third_word, last_word)

pub rounds_none : (w : List ℕ) (s : State) → s ≡ fips.steps w 0 s
unfolding fips.steps
rounds_none w s = refl

pub rounds_more : (w : List ℕ) (t : ℕ) (s : State) → fips.steps w (t + 1) s ≡ fips.step t (get_or w t 0) (fips.steps w t s)
unfolding fips.steps
rounds_more w t s = rw add-one

-- the state r after `from` rounds goes on to x after `to`: what `span` ensures
abbrev pub Spanned : List ℕ → ℕ → ℕ → State → State → Type 0
Spanned w from to r x = (s : State) → r ≡ fips.steps w from s → x ≡ fips.steps w to s

-- four spans are all the rounds
pub rounds_all : (w : List ℕ) {s r₁ r₂ r₃ r₄ : State} → Spanned w 0 20 s r₁ → Spanned w 20 40 r₁ r₂ → Spanned w 40 60 r₂ r₃ → Spanned w 60 80 r₃ r₄
    → r₄ ≡ fips.steps w 80 s
rounds_all w {s = s} f₁ f₂ f₃ f₄ = f₄ s (f₃ s (f₂ s (f₁ s (rounds_none w s))))

pub words_none : (m w : List ℕ) → take 0 w ≡ fips.words m 0
unfolding fips.words
words_none m w = refl

-- the schedule's next word, stored where it belongs
pub words_more : (m w : List ℕ) (t v : ℕ) → t < length w → take t w ≡ fips.words m t → v ≡ fips.schedule_word m t (take t w)
    → take (t + 1) (set w t v) ≡ fips.words m (t + 1)
unfolding fips.words fips.longer
words_more m w t v h e f = rw (add-one, take-suc-set w t v h, f, e)

-- below sixteen a word is the message's, past that the recurrence reads only words before it
pub word_early : (m w : List ℕ) (t : ℕ) → t < 16 → get_or m t 0 ≡ fips.schedule_word m t w
unfolding fips.schedule_word
word_early m w t h = simp (lt-ltb t 16 h)

pub word_later : (m n w : List ℕ) (t : ℕ) → 16 ≤ t → fips.schedule_word m t w ≡ fips.schedule_word n t (take t w)
unfolding fips.schedule_word
word_later m n w t h =
    simp (
      le-ltb t 16 h,
      get_or-take t w (t - 3) 0 (omega arith),
      get_or-take t w (t - 8) 0 (omega arith),
      get_or-take t w (t - 14) 0 (omega arith),
      get_or-take t w (t - 16) 0 (omega arith),
    )

-- the schedule's words p up to `from` go on to q up to `to`: what `extend` ensures
abbrev pub Extended : ℕ → ℕ → List ℕ → List ℕ → Type 0
Extended from to p q = (m : List ℕ) → p ≡ fips.words m from → q ≡ fips.words m to

-- after the first sixteen words, four spans are the schedule
pub words_all : (m : List ℕ) {p q r s w : List ℕ} → p ≡ fips.words m 16 → Extended 16 32 p q → Extended 32 48 q r → Extended 48 64 r s
    → Extended 64 80 s (take 80 w) → length w ≡ 80 → w ≡ fips.words m 80
words_all m {w = w} e f g h i l = sym (take_all 80 w (omega (arith, l))) ∙ i m (h m (g m (f m e)))

-- all the rounds over the schedule, added to what came in
pub compressed : (m w : List ℕ) (s : State) {r x : State} → w ≡ fips.words m 80 → r ≡ fips.steps w 80 s → x ≡ fips.sums s r → x ≡ fips.compress s m
unfolding fips.compress
compressed m w s e f g = rw (g, f, e)
