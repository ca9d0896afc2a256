-- Each block by itself, over any operation on blocks of sixteen bytes (000 section 7: AES-ECB, which has no starting vector). Assumes nothing.
use Rattle.std.specs.Prelude.{◌≡◌, List, ℕ, length, replicate}
use Rattle.octets.specs.Octets.{Bytes}
use Rattle.steps.specs.Steps.{Step, FullUnit}

-- f there and g back, on each block (000 7.2.1)
unfoldable pub ecb : (f g : List ℕ → List ℕ) → Step
ecb f g = record { width = 16; first = replicate 16 0; there = λ i p x. f x; back = λ i p x. g x }

-- f gives sixteen elements whatever it takes, bytes for bytes, and g takes a block back
pub record Blocks (f g : List ℕ → List ℕ) : Type 0 where
  pub long : (x : List ℕ) → length (f x) ≡ 16
  pub bytes : (x : List ℕ) → FullUnit 16 x → Bytes (f x)
  pub undo : (x : List ℕ) → length x ≡ 16 → g (f x) ≡ x
