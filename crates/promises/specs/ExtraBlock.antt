-- The extra block (request 2026-02). Under an accepted password a package whose size is above 0 and a multiple of 4,096 seals without an
-- extra block and with one into two streams, and both open to that package. Assumes nothing.
use Rattle.std.specs.Prelude.{◌≡◌, true, false, List, [], ℕ, ◌%◌, ◌≤◌, ◌<◌, length}
use Rattle.octets.specs.Octets.{Bytes}
use Rattle.password.specs.Lock.{Lock}
use Rattle.sheet.specs.Frame.{pair}
use Rattle.promises.specs.Words.{Judge, Opener, Sealer}
use Rattle.promises.specs.Demand3.{Begins, RoundTrip}

-- a package that takes an extra block, and sixteen bytes to fill it
pub record Takes («package» filling : List ℕ) : Type 0 where
  pub package_bytes : Bytes «package»
  pub filling_bytes : Bytes filling
  pub sixteen : length filling ≡ 16
  pub some : 0 < length «package»
  pub multiple : length «package» % 4096 ≡ 0
  pub limited : length «package» ≤ 268435456

-- with no filling, which one choice asks for, and with all sixteen bytes, which the other does, the package is two pairs; each seals into
-- a stream of its length that opens to the package, and the streams are two
pub record Both (opens : Opener) (seals : Sealer) (lock : Lock) («package» filling : List ℕ) : Type 0 where
  pub asks_without : Begins (pair «package» []) filling false
  pub asks_with : Begins (pair «package» filling) filling true
  pub without : RoundTrip opens seals lock (pair «package» [])
  pub with : RoundTrip opens seals lock (pair «package» filling)
  pub two : without.stream ≡ with.stream → ⊥

pub record ExtraBlock (judges : Judge) (opens : Opener) (seals : Sealer) : Type 0 where
  pub under : (lock : Lock) («package» filling : List ℕ) → judges lock ≡ 0 → Takes «package» filling → Both opens seals lock «package» filling
