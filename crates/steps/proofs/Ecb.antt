-- Each block is opened by itself, so ECB over a block operation and its inverse is reversible, and what seals opens under the inverse.
-- Assumes nothing.
use mathlib.Core.Path.{◌≡◌, refl, ap, ◌∙◌}
use mathlib.Core.List.{List, ◌++◌}
use Prim.Native.Nat.{ℕ, ◌/◌}
use native.Mathlib.Omega.{arith}
use lib.ListN.{length, take, drop, length-drop}
use lib.Seq.{take_all}
use Rattle.octets.proofs.Below.{replicate_below}
use Rattle.steps.specs.Steps.{unit, open_units, open_all, seal_all, Starts, Sized, Reverses}
use Rattle.steps.specs.Ecb.{ecb, Blocks}
use Rattle.steps.proofs.Units.{grown_alike}
use Rattle.steps.proofs.Made.{open_grown, seal_grown}

module _ (f g : List ℕ → List ℕ) where
  pub ecb_starts : (i : ℕ) → Starts (ecb f g) i
  unfolding ecb
  ecb_starts i = record { alike = λ p q x. refl }

  pub ecb_sized : ((x : List ℕ) → length (f x) ≡ 16) → ((x : List ℕ) → length (g x) ≡ 16) → Sized (ecb f g)
  unfolding ecb
  ecb_sized a b = record { some = omega arith; there = λ i p x. a x; back = λ i p x. b x }

  pub ecb_reverses : Blocks f g → Blocks g f → Reverses (ecb f g)
  unfolding ecb
  ecb_reverses a b =
      record {
        sized = ecb_sized a.long b.long;
        first = record { long = refl; bytes = replicate_below 16 0 (omega arith) };
        there = λ i p x v w. a.bytes x w;
        back = λ i p x v w. b.bytes x w;
        undo = λ i p x v w. a.undo x w;
        redo = λ i p x v w. b.undo x w;
      }

  -- to seal is to open by the other operation
  pub ecb_turned : (s : List ℕ) → seal_all (ecb f g) s ≡ open_all (ecb g f) s
  unfolding open_all seal_all ecb
  ecb_turned s = grown_alike (seal_grown (ecb f g) s) (open_grown (ecb g f) s) (length s / 16) (λ i l q. refl)

  -- one block, and two
  pub open_one : (s : List ℕ) → length s ≡ 16 → open_all (ecb f g) s ≡ g s
  unfolding open_all open_units unit ecb
  open_one s h = rw h (ap g (take_all 16 s (omega arith)))

  pub open_two : (s : List ℕ) → length s ≡ 32 → open_all (ecb f g) s ≡ g (take 16 s) ++ g (drop 16 s)
  unfolding open_all open_units unit ecb
  open_two s h = rw h (ap (λ (t : List ℕ). g (take 16 s) ++ g t) (take_all 16 (drop 16 s) (simp length-drop (omega arith))))

module _ (f g : List ℕ → List ℕ) (s : List ℕ) where
  pub seal_one : length s ≡ 16 → seal_all (ecb f g) s ≡ f s
  seal_one h = ecb_turned f g s ∙ open_one g f s h

  pub seal_two : length s ≡ 32 → seal_all (ecb f g) s ≡ f (take 16 s) ++ f (drop 16 s)
  seal_two h = ecb_turned f g s ∙ open_two g f s h
