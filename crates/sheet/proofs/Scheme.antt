-- What every scheme gives, by its lines: both ways give a unit, and undo each other under a key of bytes; which blocks are opened without
-- a look at the one before; and the code's mode is the scheme's step. Assumes nothing.
use mathlib.Core.Path.{◌≡◌, refl}
use mathlib.Core.Bool.{Bool, true, false, cond}
use mathlib.Core.List.{List}
use mathlib.Core.Logic.{◌⊎◌, inl, inr}
use Prim.Native.Nat.{ℕ, ◌≤◌}
use native.Mathlib.Omega.{arith}
use borrow.Author.Tests.{eqb-true, eqb-false, eq-eqb}
use lib.Dec.{eqb}
use lib.ListN.{length}
use Rattle.octets.specs.Octets.{Bytes}
use Rattle.answers.proofs.Laws.{either}
use Rattle.aes.specs.Aes.{key_length, expanded, expanded_of}
use Rattle.aes.specs.declared.round_keys.RoundKeys.{RoundKeys}
use Rattle.steps.specs.Steps.{Step, Starts, Sized, Reverses}
use Rattle.steps.specs.Chained.{begins}
use Rattle.blocks.specs.Blocks.{ecb_under, chained_under, step_from, size_of, stream_start}
use Rattle.blocks.specs.declared.Place.{Place}
use Rattle.blocks.proofs.Aes.{under_width, under_starts, under_sized, under_reverses, chained_width, chained_under_starts, chained_under_tells, chained_under_sized, chained_under_reverses, ecb_started, chained_started}
use Rattle.descriptor.specs.declared.Descriptor.{Descriptor}
use Rattle.sheet.specs.Scheme.{step_of, mode_of}

chosen : (b : Bool) (P : Step → Type 0) (x y : Step) → (b ≡ true → P x) → (b ≡ false → P y) → P (cond b x y)
chosen true P x y f g = f refl
chosen false P x y f g = g refl

module _ (d : Descriptor) (key : List ℕ) (size : ℕ) where
  -- what is so of each line
  by_scheme : (P : Step → Type 0) → (d.scheme ≡ 2 → P (chained_under key d.salt size)) → P (ecb_under key) → P (step_of d key size)
  unfolding step_of
  by_scheme P f g = chosen (eqb d.scheme 2) P (chained_under key d.salt size) (ecb_under key) (λ e. f (eqb-true d.scheme 2 e)) (λ e. g)

  pub step_width : (step_of d key size).width ≡ 16
  step_width = by_scheme (λ (s : Step). s.width ≡ 16) (λ e. chained_width key d.salt size) (under_width key)

  pub step_sized : Sized (step_of d key size)
  step_sized = by_scheme Sized (λ e. chained_under_sized key d.salt size) (under_sized key)

  pub step_reverses : Bytes key → Reverses (step_of d key size)
  step_reverses b = by_scheme Reverses (λ e. chained_under_reverses key b d.salt size) (under_reverses key b)

  -- every block starts but, under scheme 2, those that no segment begins with
  pub step_starts : (i : ℕ) → (d.scheme ≡ 2 → begins size i ≡ true) → Starts (step_of d key size) i
  step_starts i h = by_scheme (λ (s : Step). Starts s i) (λ e. chained_under_starts key d.salt size i (h e)) (under_starts key i)

  pub step_cut : (i : ℕ) → Starts (step_of d key size) i ⊎ ((d.scheme ≡ 2) × (begins size i ≡ false))
  step_cut i =
      elim (either (eqb d.scheme 2)) [
        | inl e ↦ elim (either (begins size i)) [
          | inl b ↦ inl (step_starts i (λ q. b))
          | inr b ↦ inr (eqb-true _ _ e, b)
        ]
        | inr e ↦ inl (step_starts i (λ q. absurd (eqb-false d.scheme 2 e q)))
      ]

  -- and one of these, with its own cipher block, tells the one before
  pub step_tells : (i : ℕ) → d.scheme ≡ 2 → begins size i ≡ false → (p q x : List ℕ) → length p ≡ 16 → length q ≡ 16
      → (step_of d key size).back i p x ≡ (step_of d key size).back i q x → p ≡ q
  unfolding step_of
  step_tells i e b p q x hp hq = rw (eq-eqb d.scheme 2 e) (chained_under_tells key d.salt size i b p q x hp hq)

  -- ---- as the code takes it

  pub mode_started : key_length (length key) ≡ true → (e : RoundKeys) (p : Place) → expanded_of e ≡ expanded key → p ≡ stream_start
      → step_from p (mode_of d size) e.bytes e.rounds ≡ step_of d key size
  unfolding step_of mode_of
  mode_started t e p q s =
      elim (either (eqb d.scheme 2)) [
        | inl b ↦ rw b (chained_started key t e p q s d.salt size)
        | inr b ↦ rw b (ecb_started key t e p q s)
      ]

-- a mode chains no more bytes than the package has
pub mode_size : (d : Descriptor) (size : ℕ) → size_of (mode_of d size) ≤ size
unfolding mode_of
mode_size d size =
    elim (either (eqb d.scheme 2)) [
      | inl b ↦ rw b (omega arith)
      | inr b ↦ rw b (omega arith)
    ]
