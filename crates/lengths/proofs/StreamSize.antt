-- Eight bytes tell any size below 2^64, and a stream's first eight are those of its StreamSize. Assumes nothing.
use mathlib.Core.Path.{◌≡◌, sym, ap, ◌∙◌}
use mathlib.Core.List.{List, ◌++◌}
use Prim.Native.Nat.{ℕ, ◌^◌, ◌≤◌, ◌<◌}
use native.Mathlib.Omega.{arith}
use lib.ListN.{length, take}
use Rattle.octets.specs.Octets.{Bytes, le_at, le_bytes}
use Rattle.octets.proofs.Numbers.{le_at_here, le_at_part, le_bytes_le_at}
use Rattle.lengths.specs.Lengths.{stream_size}

pub size_told : (size : ℕ) (s : List ℕ) → size < 256 ^ 8 → stream_size (le_bytes 8 size ++ s) ≡ size
unfolding stream_size
size_told size s h = le_at_here 8 size s h

-- only the first eight bytes count
pub size_front : (s t : List ℕ) → take 8 s ≡ take 8 t → stream_size s ≡ stream_size t
unfolding stream_size
size_front s t e = sym (le_at_part 8 0 8 0 s (omega arith)) ∙ ap (le_at 8 0) e ∙ le_at_part 8 0 8 0 t (omega arith)

pub told_again : (s : List ℕ) → Bytes s → 8 ≤ length s → le_bytes 8 (stream_size s) ≡ take 8 s
unfolding stream_size
told_again s b h = le_bytes_le_at 8 0 s b h
