-- A run of blocks grows by one; a block reads its own 64 bytes alone. Assumes nothing.
use mathlib.Core.Path.{◌≡◌, refl, sym, ap, ◌∙◌}
use mathlib.Core.List.{List}
use Prim.Native.Nat.{ℕ, zero, suc, ◌+◌, ◌*◌, ◌≤◌, ◌<◌}
use native.Mathlib.Numerals.{add-one}
use native.Mathlib.Omega.{arith}
use lib.ListN.{length, take, drop, set}
use lib.Seq.{take-suc-set}
use Rattle.octets.specs.Octets.{be_at}
use Rattle.octets.proofs.Numbers.{be_at_part}
use Rattle.sha1_rounds.specs.declared.State.{State}
use Rattle.sha1_digest.specs.Sha1 as fips

pub block_none : (p m : List ℕ) (o : ℕ) → take 0 m ≡ fips.block_words p o 0
unfolding fips.block_words
block_none p m o = refl

-- a block's next word, stored where it belongs
pub block_more : (p m : List ℕ) (o t v : ℕ) → t < length m → take t m ≡ fips.block_words p o t → v ≡ be_at 4 (o + 4 * t) p
    → take (t + 1) (set m t v) ≡ fips.block_words p o (t + 1)
unfolding fips.block_words
block_more p m o t v h e f = rw (add-one, take-suc-set m t v h, f, e)

pub chain_none : (p : List ℕ) (s : State) → s ≡ fips.chain p 0 s
unfolding fips.chain
chain_none p s = refl

pub chain_more : (p : List ℕ) (n : ℕ) (s : State) → fips.chain p (n + 1) s ≡ fips.compress (fips.chain p n s) (fips.block_words p (64 * n) 16)
unfolding fips.chain
chain_more p n s = rw add-one

-- the words of a block are those of its 64 bytes
block_part : (t o : ℕ) (p : List ℕ) → t ≤ 16 → fips.block_words (take 64 (drop o p)) 0 t ≡ fips.block_words p o t
unfolding fips.block_words
block_part zero o p h = refl
block_part (suc t) o p h =
    let e : 0 + 4 * t ≡ 4 * t = omega arith in
    rw (block_part t o p (omega arith), e, be_at_part 4 (4 * t) 64 o p (omega arith))

pub block_same : (o u : ℕ) (p q : List ℕ) → take 64 (drop o p) ≡ take 64 (drop u q) → fips.block_words p o 16 ≡ fips.block_words q u 16
block_same o u p q e = sym (block_part 16 o p (omega arith)) ∙ ap (λ (l : List ℕ). fips.block_words l 0 16) e ∙ block_part 16 u q (omega arith)
