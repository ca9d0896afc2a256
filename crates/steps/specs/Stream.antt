-- What it is for an operation on streams of bytes to be reversible. A block cipher on one block, a mode on whole blocks and a
-- stream cipher on any length are all of this form; they differ in the lengths that they take. Assumes nothing.
use Rattle.std.specs.Prelude.{◌≡◌, Bool, true, List, ℕ, length}
use Rattle.octets.specs.Octets.{Bytes}

-- bytes, of a length that the test lets through
pub record Fit (fits : ℕ → Bool) (s : List ℕ) : Type 0 where
  pub long : fits (length s) ≡ true
  pub bytes : Bytes s

-- one direction: `there` keeps length and bytes, and `back` gives again what it took
pub record Undone (fits : ℕ → Bool) (there back : List ℕ → List ℕ) : Type 0 where
  pub long : (s : List ℕ) → Fit fits s → length (there s) ≡ length s
  pub bytes : (s : List ℕ) → Fit fits s → Bytes (there s)
  pub undo : (s : List ℕ) → Fit fits s → back (there s) ≡ s

-- both directions
pub record Reversible (fits : ℕ → Bool) (there back : List ℕ → List ℕ) : Type 0 where
  pub forth : Undone fits there back
  pub home : Undone fits back there
