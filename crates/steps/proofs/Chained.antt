-- Chaining in segments is reversible over any reversible operation on blocks, a segment begins without a look at the block before it, and
-- each segment is CBC from its vector. Assumes nothing.
use mathlib.Core.Path.{◌≡◌, refl, sym, ap, ◌∙◌}
use mathlib.Core.Logic.{◌⊎◌, inl, inr}
use mathlib.Core.Bool.{Bool, true, false, cond}
use mathlib.Core.List.{List}
use Prim.Native.Nat.{ℕ, zero, suc, ◌+◌, ◌-◌, ◌*◌, ◌≤◌, ◌<◌}
use native.Mathlib.Nat.{add-zero}
use native.Mathlib.Omega.{arith}
use borrow.Author.Tests.{eq-eqb, ne_eqb}
use lib.ListN.{length}
use lib.Seq.{take_all}
use Rattle.octets.specs.Octets.{Bytes}
use Rattle.octets.proofs.Below.{replicate_below}
use Rattle.steps.specs.Steps.{unit, FullUnit, before, open_units, seal_units, open_all, seal_all, resumed, Starts, Sized, Reverses}
use Rattle.steps.specs.Ecb.{Blocks}
use Rattle.steps.specs.Chained.{segment, begins, link, chained, linked, Sum}
use Rattle.steps.proofs.Units.{grown_alike}
use Rattle.steps.proofs.Made.{open_grown}

-- ---- the segments

-- block 256 k begins segment k, where the package reaches it; block 0 always does
pub segment_begins : (size k : ℕ) → 4096 * k ≤ size - 1 → begins size (256 * k) ≡ true
unfolding begins segment
segment_begins size k h = eq-eqb (256 * k) (256 * segment size (256 * k)) (omega arith)

-- block 256 k + j is in segment k: for 256 blocks, and in the last segment for all that follow
pub in_segment : (size k j : ℕ) → 4096 * k ≤ size - 1 → (j < 256) ⊎ (size ≤ 4096 * suc k) → segment size (256 * k + j) ≡ k
unfolding segment
in_segment size k j h (inl l) = omega arith
in_segment size k j h (inr l) = omega arith

-- ---- what is added to a block

-- what is chosen from bytes is bytes
chosen_bytes : (b : Bool) (x y : List ℕ) → Bytes x → Bytes y → Bytes (cond b x y)
chosen_bytes true x y hx hy = hx
chosen_bytes false x y hx hy = hy

module _ (f g : List ℕ → List ℕ) (add : List ℕ → List ℕ → List ℕ) (start : ℕ → List ℕ) (size : ℕ) where
  pub chained_sized : Sum add → ((x : List ℕ) → length (f x) ≡ 16) → ((x : List ℕ) → length (g x) ≡ 16) → Sized (chained f g add start size)
  unfolding chained
  chained_sized s a b =
      record { some = omega arith; there = λ i p x. a (add x (link start size i p)); back = λ i p x. s.long (g x) (link start size i p) ∙ b x }

  -- ---- there and back

  module _ (s : Sum add) (a : Blocks f g) (b : Blocks g f) (v : (k : ℕ) → Bytes (start k)) where
    link_bytes : (i : ℕ) (p : List ℕ) → FullUnit 16 p → Bytes (link start size i p)
    unfolding link
    link_bytes i p h = chosen_bytes (begins size i) (start (segment size i)) p (v (segment size i)) h.bytes

    added : (i : ℕ) (p x : List ℕ) → FullUnit 16 p → FullUnit 16 x → FullUnit 16 (add x (link start size i p))
    added i p x h w =
        record { long = s.long x (link start size i p) ∙ w.long; bytes = s.bytes x (link start size i p) w.bytes (link_bytes i p h) }

    pub chained_reverses : Reverses (chained f g add start size)
    unfolding chained
    chained_reverses =
        record {
          sized = chained_sized s a.long b.long;
          first = record { long = refl; bytes = replicate_below 16 0 (omega arith) };
          there = λ i p x h w. a.bytes (add x (link start size i p)) (added i p x h w);
          back = λ i p x h w. s.bytes (g x) (link start size i p) (b.bytes x w) (link_bytes i p h);
          undo = λ i p x h w. let l = link start size i p in ap (λ (y : List ℕ). add y l) (a.undo (add x l) (s.long x l ∙ w)) ∙ s.undo x l;
          redo = λ i p x h w. ap f (s.undo (g x) (link start size i p)) ∙ b.undo x w;
        }

  -- where a segment begins the block before does not count
  pub chained_starts : (i : ℕ) → begins size i ≡ true → Starts (chained f g add start size) i
  unfolding chained link
  chained_starts i e = record { alike = λ p q x. rw e }

  -- where none begins it does: what was added is told by a sum that tells it
  pub chained_tells : ((x p q : List ℕ) → length p ≡ length x → length q ≡ length x → add x p ≡ add x q → p ≡ q) → ((x : List ℕ) → length (g x) ≡ 16)
      → (i : ℕ) → begins size i ≡ false → (p q x : List ℕ) → length p ≡ 16 → length q ≡ 16
      → (chained f g add start size).back i p x ≡ (chained f g add start size).back i q x → p ≡ q
  unfolding chained link
  chained_tells told long i e p q x hp hq h = told (g x) p q (hp ∙ sym (long x)) (hq ∙ sym (long x)) (rw e at h)

  -- ---- one block, with which segment 0 begins

  first_begins : begins size 0 ≡ true
  first_begins = segment_begins size 0 (omega arith)

  first_segment : segment size 0 ≡ 0
  unfolding segment
  first_segment = omega arith

  pub chained_open_one : (s : List ℕ) → length s ≡ 16 → open_all (chained f g add start size) s ≡ add (g s) (start 0)
  unfolding open_all open_units unit chained link
  chained_open_one s h = rw (h, first_begins, first_segment, take_all 16 s (omega arith))

  pub chained_seal_one : (s : List ℕ) → length s ≡ 16 → seal_all (chained f g add start size) s ≡ f (add s (start 0))
  unfolding seal_all seal_units unit chained link
  chained_seal_one s h = rw (h, first_begins, first_segment, take_all 16 s (omega arith))

  -- ---- a segment by itself

  module _ (k m : ℕ) (within : (j : ℕ) → j < m → segment size (256 * k + j) ≡ k) where
    -- what is added to block j of segment k: the vector, or the block before it in the segment
    linked_at : (j : ℕ) (p s : List ℕ) → j < m
        → link start size (256 * k + j) (before (resumed (256 * k) p (chained f g add start size)) j s) ≡ before (linked f g add (start k)) j s
    unfolding link begins before chained linked
    linked_at zero p s h = let e = within 0 h in rw (e, eq-eqb (256 * k + 0) (256 * k) (add-zero (256 * k)))
    linked_at (suc j) p s h = let e = within (suc j) h in rw (e, ne_eqb (256 * k + suc j) (256 * k) (λ q. omega arith))

    -- m blocks of segment k, from its first, are opened as CBC opens them from the segment's vector
    pub segment_linked : (p s : List ℕ) → open_units (resumed (256 * k) p (chained f g add start size)) m s ≡ open_units (linked f g add (start k)) m s
    unfolding chained linked
    segment_linked p s =
        grown_alike (open_grown (resumed (256 * k) p (chained f g add start size)) s) (open_grown (linked f g add (start k)) s) m
        (λ j l q. ap (add (g _)) (linked_at j p s l))
