-- The law of blocks (request 2026-04). Block i of an opened package depends on block i of the ciphertext and, where blocks are chained and
-- no segment begins with block i, on the block before it; of the rest of a stream only its length and StreamSize count. Assumes nothing.
use Rattle.std.specs.Prelude.{◌≡◌, false, List, ℕ, ◌-◌, length, drop}
use Rattle.steps.specs.Steps.{unit}
use Rattle.steps.specs.Chained.{begins}
use Rattle.password.specs.Lock.{Lock}
use Rattle.lengths.specs.Lengths.{stream_size}
use Rattle.promises.specs.Words.{Opener, written_part}

-- block i of a stream's ciphertext, which begins behind StreamSize
abbrev pub block_at : (i : ℕ) (stream : List ℕ) → List ℕ
block_at i stream = unit 16 i (drop 8 stream)

-- the scheme chains block i of a package of that size to the block before it
abbrev pub Linked : (scheme size i : ℕ) → Type 0
Linked scheme size i = (scheme ≡ 2) × (begins size i ≡ false)

-- two streams of one length and one StreamSize that agree in what block i depends on
pub record Agree (scheme i : ℕ) (s t : List ℕ) : Type 0 where
  pub long : length s ≡ length t
  pub size : stream_size s ≡ stream_size t
  pub block : block_at i s ≡ block_at i t
  pub before : Linked scheme (stream_size s) i → block_at (i - 1) s ≡ block_at (i - 1) t

-- they open to packages with the same block i, the last of which may be cut, or both are refused
pub record BlockLaw (opens : Opener) : Type 0 where
  pub same : (lock : Lock) (i : ℕ) (s t out : List ℕ) → Agree lock.scheme i s t
      → unit 16 i (written_part (opens lock s out)) ≡ unit 16 i (written_part (opens lock t out))
