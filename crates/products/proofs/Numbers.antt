-- The library's numbers of bytes, the lowest first, are `le`. Assumes nothing.
use mathlib.Core.Path.{◌≡◌, sym, ap, ◌∙◌}
use mathlib.Core.List.{List}
use Prim.Native.Nat.{ℕ}
use native.Mathlib.Omega.{arith}
use lib.ListN.{length, get_or}
use Rattle.std.specs.Int.{w32, w64, from_le_bytes, to_le_bytes}
use Rattle.std.proofs.lemmas.Nat.{le_bytes_4}
use Rattle.octets.specs.Octets.{Bytes, le}
use Rattle.fips197.specs.Cipher.{tabulate}
use Rattle.fips197.proofs.States.{opened}

pub le_four : (b : List ℕ) → length b ≡ 4 → from_le_bytes w32 b ≡ le b
unfolding le
le_four b h =
    let e : from_le_bytes w32 b ≡ le (tabulate 4 (λ i. get_or b i 0)) = omega arith in
    e ∙ ap le (opened 4 b h)

pub le_eight : (b : List ℕ) → length b ≡ 8 → from_le_bytes w64 b ≡ le b
unfolding le
le_eight b h =
    let e : from_le_bytes w64 b ≡ le (tabulate 8 (λ i. get_or b i 0)) = omega arith in
    e ∙ ap le (opened 8 b h)

-- the four bytes of their number
pub bytes_four : (b : List ℕ) (v : ℕ) → length b ≡ 4 → Bytes b → v ≡ le b → to_le_bytes w32 v ≡ b
bytes_four b v size bytes e = le_bytes_4 b v size bytes.at (e ∙ sym (le_four b size))
