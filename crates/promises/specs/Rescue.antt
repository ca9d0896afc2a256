-- A sheet whose download was cut, or that has bytes too many (request 2026-13). (a) What is recovered of it are the same bytes of what opening
-- gives for every complete stream that begins with it. (b) Of a stream that opens rescue leaves what opening leaves. (c) Every byte is
-- recovered or zero, and counted so. (d) A longer part of one stream gives no less, and the same. (e) There is a complete stream that begins
-- with it. (f) Blocks depend on blocks as in opening, wherever the stream is cut. Assumes nothing.
use Rattle.std.specs.Prelude.{◌≡◌, true, List, [], ◌∷◌, ◌++◌, ℕ, ◌+◌, ◌-◌, ◌*◌, ◌/◌, ◌≤◌, ◌<◌, min, length, take, drop, replicate}
use Rattle.octets.specs.Octets.{Bytes}
use Rattle.answers.specs.Ended.{Left}
use Rattle.steps.specs.Steps.{unit}
use Rattle.password.specs.Lock.{Lock}
use Rattle.lengths.specs.Lengths.{stream_size, length_allowed}
use Rattle.rescue.specs.Rescue.{Rescue, rescue, rescue_rules, remains, none}
use Rattle.rescue.specs.declared.Counts.{Counts}
use Rattle.promises.specs.Words.{Judge, Opener, Rescuer, Accepted, Answers, written_part}
use Rattle.promises.specs.Demand1.{Call, verdict_numbers}
use Rattle.promises.specs.BlockLaw.{block_at, Linked}
use Rattle.promises.specs.Possible.{Long}

-- ---- the answer

-- the numbers beside 0: opening's without 15
abbrev pub rescue_numbers : List ℕ
rescue_numbers = verdict_numbers ++ 13 ∷ 14 ∷ 16 ∷ []

-- a rescue beside `whole`, what opening the same stream into the same output left: answered alike, but that in place of 15 the room for
-- StreamSize bytes decides
pub record AsOpening (whole : Left) (size : ℕ) (out : List ℕ) (l : Left) : Type 0 where
  pub alike : (whole.reply.answer ≡ 15 → ⊥) → l.reply.answer ≡ whole.reply.answer
  pub enough : whole.reply.answer ≡ 15 → size ≤ length out → Accepted l
  pub cramped : whole.reply.answer ≡ 15 → length out < size → l.reply.answer ≡ 16

-- ---- (c) the counts

-- the longest ciphertext that no. 15 allows a package of that size
pub record Longest (size most : ℕ) : Type 0 where
  pub allowed : length_allowed size most ≡ true
  pub longest : (n : ℕ) → length_allowed size n ≡ true → n ≤ most

-- what is counted of n bytes of ciphertext of a package of that size, in units of so many bytes: whole units, at most the package; the rest
-- of it; and what stands past the longest
pub record Counted (unit n size : ℕ) (c : Counts) : Type 0 where
  pub recovered : c.recovered ≡ min size (unit * (n / unit))
  pub zeroed : c.recovered + c.zeroed ≡ size
  pub most : ℕ
  pub longest : Longest size most
  pub surplus : c.surplus ≡ n - most

-- nothing is missing, and nothing is too much
abbrev pub all_of : (size : ℕ) → Counts
all_of size = record { recovered = size; zeroed = 0; surplus = 0 }

-- what was recovered
abbrev pub recovered_part : Rescue → List ℕ
recovered_part r = take r.counts.recovered r.left.out

-- an accepted rescue of a stream into an output: it is counted, and what was not recovered is zero
pub record Accounts (stream out : List ℕ) (r : Rescue) : Type 0 where
  pub counted : Counted 16 (length stream - 8) (stream_size stream) r.counts
  pub zeros : drop r.counts.recovered r.left.out ≡ replicate (length out - r.counts.recovered) 0

-- ---- (a) and (e) the complete streams

-- a stream without what is surplus
abbrev pub surplus_aside : (stream : List ℕ) → Rescue → List ℕ
surplus_aside stream r = take (length stream - r.counts.surplus) stream

-- what makes it a complete one, which opens with room for its package
pub record Completion (opens : Opener) (lock : Lock) (begun : List ℕ) (size : ℕ) : Type 0 where
  pub rest : List ℕ
  pub bytes : Bytes begun → Bytes (begun ++ rest)
  pub complete : (whole : List ℕ) → size ≤ length whole → Accepted (opens lock (begun ++ rest) whole)

-- ---- (d) a longer part

-- what it gives beside the shorter
pub record Longer (shorter longer : Rescue) : Type 0 where
  pub accepted : Accepted longer.left
  pub more : shorter.counts.recovered ≤ longer.counts.recovered
  pub same : recovered_part shorter ≡ take shorter.counts.recovered (recovered_part longer)

-- ---- (f) the law of blocks

-- two streams of one StreamSize, of any two lengths, which both have block i whole and agree in what it depends on
pub record BothHave (scheme i : ℕ) (s t : List ℕ) : Type 0 where
  pub size : stream_size s ≡ stream_size t
  pub one : 16 * i + 16 ≤ length s - 8
  pub other : 16 * i + 16 ≤ length t - 8
  pub block : block_at i s ≡ block_at i t
  pub before : Linked scheme (stream_size s) i → block_at (i - 1) s ≡ block_at (i - 1) t

-- ---- the promise

pub record Rescues (opens : Opener) (rescues : Rescuer) : Type 0 where
  -- demand 1: a refusal counts nothing
  pub call : (lock : Lock) (stream out : List ℕ) → Call rescue_numbers (remains lock stream) out (rescues lock stream out).left
  pub uncounted : (lock : Lock) (stream out : List ℕ) → (Accepted (rescues lock stream out).left → ⊥) → (rescues lock stream out).counts ≡ none
  -- the answer, by the rules and beside opening
  pub answers : (lock : Lock) (stream out : List ℕ) → Answers (rescue_rules lock stream (length out)) (rescues lock stream out).left.reply.answer
  pub as_opening : (lock : Lock) (stream out : List ℕ) → AsOpening (opens lock stream out) (stream_size stream) out (rescues lock stream out).left
  -- (a)
  pub begins : (lock : Lock) (stream rest out whole : List ℕ) → Accepted (rescues lock stream out).left
      → let r = rescues lock stream out in
      let l = opens lock (surplus_aside stream r ++ rest) whole in Accepted l → recovered_part r ≡ take r.counts.recovered (written_part l)
  -- (b)
  pub of_whole : (lock : Lock) (stream out : List ℕ) → Accepted (opens lock stream out)
      → rescues lock stream out ≡ rescue (opens lock stream out) (all_of (opens lock stream out).reply.size)
  -- (c)
  pub accounts : (lock : Lock) (stream out : List ℕ) → Accepted (rescues lock stream out).left → Accounts stream out (rescues lock stream out)
  -- (d)
  pub longer : (lock : Lock) (stream rest x y : List ℕ) → Accepted (rescues lock stream x).left → stream_size stream ≤ length y
      → Longer (rescues lock stream x) (rescues lock (stream ++ rest) y)
  -- (e)
  pub completed : (lock : Lock) (stream out : List ℕ) → Accepted (rescues lock stream out).left
      → Completion opens lock (surplus_aside stream (rescues lock stream out)) (stream_size stream)
  -- (f), the last block of which may be cut at StreamSize
  pub blocks : (lock : Lock) (i : ℕ) (s t x y : List ℕ) → BothHave lock.scheme i s t → Accepted (rescues lock s x).left → Accepted (rescues lock t y).left
      → unit 16 i (written_part (rescues lock s x).left) ≡ unit 16 i (written_part (rescues lock t y).left)

-- that it says something: under every accepted lock a package of any size within the limit, of which any number of bytes of ciphertext is
-- there, has a stream that is rescued
pub record AnyCut (judges : Judge) (rescues : Rescuer) : Type 0 where
  pub some : (lock : Lock) → judges lock ≡ 0 → (size n : ℕ) → size ≤ 268435456 → (stream : Long (8 + n)) × (stream_size stream.it ≡ size)
      × ((out : List ℕ) → size ≤ length out → Accepted (rescues lock stream.it out).left)
