-- Demand 3. Fix an admitted descriptor, a scheme and a password that is accepted. Every package within the limit, with every filling of
-- an allowed length, seals into a stream that opens to that package. Two pairs of package and filling never seal alike, and every stream
-- that opens is the sealing of exactly one. A pair is lawful where both parts are bytes, the package is of at most 268,435,456 and the
-- filling exactly as long as needed; after a size above 0 that is a multiple of 4,096 it is of 0 bytes or of 16. Assumes nothing.
use Rattle.std.specs.Prelude.{◌≡◌, Bool, false, List, ℕ, ◌+◌, ◌≤◌, length, take}
use Rattle.octets.specs.Octets.{Bytes}
use Rattle.answers.specs.Ended.{gives}
use Rattle.password.specs.Lock.{Lock}
use Rattle.lengths.specs.Lengths.{takes_extra, filling_for}
use Rattle.sheet.specs.Frame.{Pair, Lawful}
use Rattle.sheet.specs.Sheet.{lengths}
use Rattle.promises.specs.Words.{Judge, Opener, Sealer, Accepted, written_part}

-- a sixteen-byte value that begins with the pair's filling, and the choice that makes the filling so long
pub record Begins (p : Pair) (filling : List ℕ) (extra : Bool) : Type 0 where
  pub sixteen : length filling ≡ 16
  pub chosen : length p.filling ≡ filling_for extra (length p.«package»)
  pub begins : take (length p.filling) filling ≡ p.filling

-- the stream opens to the package, in every output that has room
pub record Opens (opens : Opener) (lock : Lock) (stream «package» : List ℕ) : Type 0 where
  pub always : (out : List ℕ) → length «package» ≤ length out → opens lock stream out ≡ gives «package» out

module _ (seals : Sealer) (lock : Lock) (p : Pair) (stream : List ℕ) where
  -- the pair seals into the stream, with every value and choice that begin with its filling and in every output that has room
  pub record Seals : Type 0 where
    pub always : (filling : List ℕ) (extra : Bool) (out : List ℕ) → Begins p filling extra → length stream ≤ length out
        → seals lock p.«package» filling extra out ≡ gives stream out

  -- some call seals the pair into the stream
  pub record Sealed : Type 0 where
    pub filling : List ℕ
    pub extra : Bool
    pub out : List ℕ
    pub begins : Begins p filling extra
    pub accepted : Accepted (seals lock p.«package» filling extra out)
    pub wrote : written_part (seals lock p.«package» filling extra out) ≡ stream

-- the stream that a pair seals into, as long as it has to be, and that opens to its package
pub record RoundTrip (opens : Opener) (seals : Sealer) (lock : Lock) (p : Pair) : Type 0 where
  pub stream : List ℕ
  pub long : length stream ≡ 8 + (length p.«package» + length p.filling)
  pub sealing : Seals seals lock p stream
  pub opening : Opens opens lock stream p.«package»

-- the pair that a stream is the sealing of, whose package is what an opening wrote; and there is no other
pub record Only (seals : Sealer) (lock : Lock) (stream «package» : List ℕ) : Type 0 where
  pub it : Pair
  pub lawful : Lawful lengths it
  pub came_out : it.«package» ≡ «package»
  pub sealing : Seals seals lock it stream
  pub one : (q : Pair) → Lawful lengths q → Sealed seals lock q stream → q ≡ it

-- what is asked under one descriptor, one scheme and one password
pub record Exact (opens : Opener) (seals : Sealer) (lock : Lock) : Type 0 where
  -- (a) every pair seals into a stream that opens to its package
  pub a : (p : Pair) → Lawful lengths p → RoundTrip opens seals lock p
  -- (b) two pairs that seal alike are the same pair
  pub b : (p q : Pair) → Lawful lengths p → Lawful lengths q
      → (stream : List ℕ) → Sealed seals lock p stream → Sealed seals lock q stream → p ≡ q
  -- (c) every stream of bytes that opens is the sealing of exactly one pair
  pub c : (stream out : List ℕ) → Bytes stream → Accepted (opens lock stream out)
      → Only seals lock stream (written_part (opens lock stream out))
  -- (d) two values that agree in the bytes that are needed seal alike; (a) to (c) are said of every value that begins with a filling
  pub d : («package» filling other : List ℕ) (extra : Bool) (out : List ℕ) → length filling ≡ 16 → length other ≡ 16
      → take (filling_for extra (length «package»)) filling ≡ take (filling_for extra (length «package»)) other
      → seals lock «package» filling extra out ≡ seals lock «package» other extra out
  -- (e) for a size that takes no extra block the choice counts for nothing
  pub e : («package» filling : List ℕ) (extra other : Bool) (out : List ℕ) → length filling ≡ 16 → takes_extra (length «package») ≡ false
      → seals lock «package» filling extra out ≡ seals lock «package» filling other out

-- under every descriptor, scheme and password that are accepted: a verdict of 0 says it of all three
pub record Demand3 (judges : Judge) (opens : Opener) (seals : Sealer) : Type 0 where
  pub under : (lock : Lock) → judges lock ≡ 0 → Exact opens seals lock
