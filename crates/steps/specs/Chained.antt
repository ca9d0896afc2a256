-- Blocks chained in segments (001, "Standard (CryptoAPI): `EncryptedPackage` decryption"; 003, "Segmenting (0x1000)" and "AES decryption
-- (per segment)": AES-CBC), over any operation on blocks, any sum and any starting vectors. Assumes nothing.
use Rattle.std.specs.Prelude.{◌≡◌, Bool, cond, List, ℕ, ◌-◌, ◌*◌, ◌/◌, min, eqb, length, replicate}
use Rattle.octets.specs.Octets.{Bytes}
use Rattle.steps.specs.Steps.{Step}

-- ---- where the segments of a package lie (003, "Segmenting (0x1000)")

-- the segment of block i, counted from 0, in a package of so many bytes: 256 blocks each, and a block past the package's last segment
-- belongs to it (003, "Edge case: “extra full padding block” from Excel")
unfoldable pub segment : (size i : ℕ) → ℕ
segment size i = min (i / 256) ((size - 1) / 4096)

-- whether a segment begins with block i
unfoldable pub begins : (size i : ℕ) → Bool
begins size i = eqb i (256 * segment size i)

-- what is added to block i: its segment's starting vector, or the cipher block before it
unfoldable pub link : (start : ℕ → List ℕ) (size i : ℕ) (p : List ℕ) → List ℕ
link start size i p = cond (begins size i) (start (segment size i)) p

-- ---- the step

-- f there and g back, on the blocks of a package of so many bytes
unfoldable pub chained : (f g : List ℕ → List ℕ) (add : List ℕ → List ℕ → List ℕ) (start : ℕ → List ℕ) (size : ℕ) → Step
chained f g add start size =
    record {
      width = 16;
      first = replicate 16 0;
      there = λ i p x. f (add x (link start size i p));
      back = λ i p x. add (g x) (link start size i p);
    }

-- one segment by itself: plain CBC from a vector
unfoldable pub linked : (f g : List ℕ → List ℕ) (add : List ℕ → List ℕ → List ℕ) (vector : List ℕ) → Step
linked f g add vector = record { width = 16; first = vector; there = λ i p x. f (add x p); back = λ i p x. add (g x) p }

-- a sum that keeps the length of what is added to, gives bytes for bytes, and is its own inverse, as exclusive or is
pub record Sum (add : List ℕ → List ℕ → List ℕ) : Type 0 where
  pub long : (x p : List ℕ) → length (add x p) ≡ length x
  pub bytes : (x p : List ℕ) → Bytes x → Bytes p → Bytes (add x p)
  pub undo : (x p : List ℕ) → add (add x p) p ≡ x
