-- What the fields open to, and the verifier's hash against the stored one, byte by byte. Assumes nothing.
use mathlib.Core.Path.{◌≡◌, refl, sym, ap, ◌∙◌}
use mathlib.Core.Bool.{true, false}
use mathlib.Core.List.{List}
use Prim.Native.Nat.{ℕ, ◌+◌, ◌<◌}
use native.Mathlib.Omega.{arith}
use lib.ListN.{length, get_or, take, drop, replicate}
use lib.Seq.{paste, ext_get_or, get_or-take, get_or-drop}
use Rattle.octets.specs.Octets.{same}
use Rattle.octets.proofs.Equal.{same_self, same_false}
use Rattle.octets.proofs.Parts.{length_part}
use Rattle.aes.specs.Aes.{key_length, expanded, expanded_of}
use Rattle.aes.specs.declared.round_keys.RoundKeys.{RoundKeys}
use Rattle.steps.specs.Steps.{open_all}
use Rattle.steps.proofs.Made.{length_open_all}
use Rattle.blocks.specs.Blocks.{ecb_under, step_from, stream_start}
use Rattle.blocks.specs.declared.Mode.TheVariants.{Ecb}
use Rattle.blocks.specs.declared.Place.{Place}
use Rattle.blocks.proofs.Aes.{under_width, under_sized, ecb_started, laid_under}
use Rattle.password.specs.Verifier.{verifier_opening}

-- twenty bytes that are those of 48 after the first sixteen, one by one
module _ (x y : List ℕ) (hx : length x ≡ 20) (hy : length y ≡ 48) where
  abbrev stored : List ℕ
  stored = take 20 (drop 16 y)

  stored_at : (i : ℕ) → i < 20 → get_or stored i 0 ≡ get_or y (16 + i) 0
  stored_at i l = get_or-take 20 (drop 16 y) i 0 l ∙ get_or-drop 16 y i 0

  pub agree_all : ((i : ℕ) → i < 20 → get_or x i 0 ≡ get_or y (16 + i) 0) → true ≡ same x stored
  agree_all h =
      let e : x ≡ stored =
      ext_get_or 0 x stored (hx ∙ sym (length_part 20 16 y (omega arith))) (λ i l. h i (omega (arith, l, hx)) ∙ sym (stored_at i (omega (arith, l, hx)))) in
      rw (← e) (sym (same_self x))

  pub agree_not : (i : ℕ) → i < 20 → (get_or x i 0 ≡ get_or y (16 + i) 0 → ⊥) → false ≡ same x stored
  agree_not i l h = sym (same_false x stored (λ e. h (ap (λ (z : List ℕ). get_or z i 0) e ∙ stored_at i l)))

-- 48 bytes decrypted into as many
pub opened_law : (key : RoundKeys) (p : Place) (k s x : List ℕ) → key_length (length k) ≡ true → expanded_of key ≡ expanded k → p ≡ stream_start
    → length s ≡ 48 → x ≡ paste (replicate 48 0) 0 (open_all (step_from p Ecb key.bytes key.rounds) s) 48 → x ≡ verifier_opening k s
unfolding verifier_opening
opened_law key p k s x t q h l e =
    laid_under open_all (step_from p Ecb key.bytes key.rounds) (ecb_under k) 48 (replicate 48 0) s x
    (ecb_started k t key p q h) refl (length_open_all (ecb_under k) (under_sized k) s ∙ rw (under_width k, l)) e
