-- Parts laid in a buffer of zeros, each right after the one before it, are the definitions' lists. Assumes nothing.
use mathlib.Core.Path.{◌≡◌, refl}
use mathlib.Core.List.{List}
use Prim.Native.Nat.{ℕ}
use lib.ListN.{length, replicate, length-append}
use lib.Seq.{paste}
use Rattle.octets.specs.Octets.{le_bytes}
use Rattle.octets.proofs.Numbers.{length_le_bytes}
use Rattle.octets.proofs.Filled.{none, more, more_le, whole}
use Rattle.descriptor.specs.declared.Descriptor.{Descriptor}
use Rattle.crossing.specs.Crossing as Crossing

-- two numbers of eight bytes
pub sixteen_laid : (low high : ℕ) (x y : List ℕ) → x ≡ paste (replicate 16 0) 0 (le_bytes 8 low) 8 → y ≡ paste x 8 (le_bytes 8 high) 8
    → y ≡ Crossing.sixteen low high
unfolding Crossing.sixteen
sixteen_laid low high x y e f = whole (more_le 8 8 0 high y (more_le 0 8 8 low x (none (replicate 16 0) 16 refl) e) f)

module _ (d : Descriptor) where
  -- the numbers of a descriptor
  pub numbers_laid : (b₁ b₂ b₃ b₄ b₅ b₆ : List ℕ) → b₁ ≡ paste (replicate 20 0) 0 (le_bytes 2 d.major) 2
      → b₂ ≡ paste b₁ 2 (le_bytes 2 d.minor) 2 → b₃ ≡ paste b₂ 4 (le_bytes 4 d.alg_id) 4 → b₄ ≡ paste b₃ 8 (le_bytes 4 d.key_size.0) 4
      → b₅ ≡ paste b₄ 12 (le_bytes 4 d.name_place) 4 → b₆ ≡ paste b₅ 16 (le_bytes 4 d.name_length) 4 → b₆ ≡ Crossing.number_bytes d
  unfolding Crossing.number_bytes
  numbers_laid b₁ b₂ b₃ b₄ b₅ b₆ e₁ e₂ e₃ e₄ e₅ e₆ =
      let versions = more_le 2 2 16 d.minor b₂ (more_le 0 2 18 d.major b₁ (none (replicate 20 0) 20 refl) e₁) e₂ in
      let sizes = more_le 8 4 8 d.key_size.0 b₄ (more_le 4 4 12 d.alg_id b₃ versions e₃) e₄ in
      let name = more_le 16 4 0 d.name_length b₆ (more_le 12 4 4 d.name_place b₅ sizes e₅) e₆ in
      whole name

  pub length_numbers : length (Crossing.number_bytes d) ≡ 20
  unfolding Crossing.number_bytes
  length_numbers = simp (length-append, length_le_bytes)

  -- and its fields that are bytes
  pub fields_laid : (n b₁ b₂ b₃ b₄ b₅ : List ℕ) → Crossing.Crosses d → n ≡ Crossing.number_bytes d
      → b₁ ≡ paste (replicate 88 0) 0 n 20 → b₂ ≡ paste b₁ 20 d.salt 16 → b₃ ≡ paste b₂ 36 d.encrypted_verifier 16
      → b₄ ≡ paste b₃ 52 d.encrypted_verifier_hash 32 → b₅ ≡ paste b₄ 84 (le_bytes 4 d.scheme) 4 → b₅ ≡ Crossing.descriptor_bytes d
  unfolding Crossing.descriptor_bytes
  fields_laid n b₁ b₂ b₃ b₄ b₅ f q e₁ e₂ e₃ e₄ e₅ =
      let numbers = more 0 20 68 (Crossing.number_bytes d) b₁ (none (replicate 88 0) 88 refl) length_numbers (rw q at e₁) in
      let verifier = more 36 16 36 d.encrypted_verifier b₃ (more 20 16 52 d.salt b₂ numbers f.salt e₂) f.verifier e₃ in
      whole (more_le 84 4 0 d.scheme b₅ (more 52 32 4 d.encrypted_verifier_hash b₄ verifier f.hash e₄) e₅)
