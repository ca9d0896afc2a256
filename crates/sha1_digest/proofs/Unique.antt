-- A state's five words are read back from its bytes (FIPS 180-4 6.1.2), so the bytes that a contract gives of a state are those of one
-- state alone: `hash` and `six`, and what is above them, have one result. Assumes nothing.
use mathlib.Core.Path.{◌≡◌, sym, ap, ◌∙◌}
use mathlib.Core.List.{List, [], ◌∷◌}
use Prim.Native.Nat.{ℕ, ◌*◌, ◌<◌}
use native.Mathlib.Omega.{arith}
use lib.ListN.{get_or}
use Rattle.octets.specs.Octets.{be_at}
use Rattle.sha1_rounds.specs.declared.State.{State}
use Rattle.sha1_digest.specs.Sha1 as fips
use Rattle.sha1_digest.proofs.Short.{Words, word_at}

-- the words of a state, each below 2 ^ 32 where the state is the code's
abbrev pub five : State → List ℕ
five s = s.a ∷ s.b ∷ s.c ∷ s.d ∷ s.e ∷ []

read_back : (n : ℕ) (s : State) → Words (five s) → n < 5 → be_at 4 (4 * n) (fips.output s) ≡ get_or (five s) n 0
unfolding fips.output
read_back n s b h = word_at n (five s) b h

module _ (s t : State) (hs : Words (five s)) (ht : Words (five t)) (e : fips.output s ≡ fips.output t) where
  same_word : (n : ℕ) → n < 5 → get_or (five s) n 0 ≡ get_or (five t) n 0
  same_word n h = sym (read_back n s hs h) ∙ ap (be_at 4 (4 * n)) e ∙ read_back n t ht h

  pub output_injective : s ≡ t
  output_injective =
      let a = same_word 0 (omega arith) in
      let b = same_word 1 (omega arith) in
      let c = same_word 2 (omega arith) in
      let d = same_word 3 (omega arith) in
      let f = same_word 4 (omega arith) in
      λ i. record { a = a i; b = b i; c = c i; d = d i; e = f i }
