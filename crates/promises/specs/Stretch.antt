-- One stretch of a sheet (request 2026-05): its bytes from one place up to, not including, another. (a) They are those of what opening gives.
-- (b) They depend on few bytes of the stream: two streams may differ in all others. (c) Stretches side by side give the whole. Then: that
-- (b) says something, and that fewer blocks would not do. Assumes nothing.
use Rattle.std.specs.Prelude.{◌≡◌, ◌⊎◌, ◌↔◌, List, [], ◌∷◌, ◌++◌, ℕ, ◌+◌, ◌-◌, ◌*◌, ◌≤◌, ◌<◌, length, get_or, drop}
use Rattle.std.proofs.Math.Seq.{slice}
use Rattle.octets.specs.Octets.{Bytes}
use Rattle.answers.specs.Rules.{OneOf}
use Rattle.answers.specs.Ended.{Left, left, reply, gives}
use Rattle.steps.specs.Needed.{Needed, AgreeAt}
use Rattle.password.specs.Lock.{Lock}
use Rattle.lengths.specs.Lengths.{stream_size}
use Rattle.sheet.specs.Sheet.{package_of}
use Rattle.stretch.specs.Stretch.{stretch_rules}
use Rattle.promises.specs.Words.{Judge, Opener, Stretcher, Accepted, Answers, written_part}
use Rattle.promises.specs.Demand1.{Call, verdict_numbers}
use Rattle.promises.specs.BlockLaw.{block_at, Linked}

-- ---- the numbers, beside 0

-- those that opening gives too, whatever the room
abbrev pub early_numbers : List ℕ
early_numbers = verdict_numbers ++ 13 ∷ 14 ∷ 15 ∷ []

abbrev pub stretch_numbers : List ℕ
stretch_numbers = verdict_numbers ++ 13 ∷ 14 ∷ 15 ∷ 20 ∷ 16 ∷ []

-- ---- (a) a part of what opening gives

-- a stretch beside `whole`, what opening the same stream into any output left
pub record PartOf (whole : Left) (from to : ℕ) (out : List ℕ) (l : Left) : Type 0 where
  -- up to 15 both are answered alike
  pub alike : (n : ℕ) → OneOf early_numbers n → (l.reply.answer ≡ n) ↔ (whole.reply.answer ≡ n)
  -- of a stream that opened those bytes come out, and zeros
  pub part : Accepted whole → from ≤ to → to ≤ whole.reply.size → to - from ≤ length out → l ≡ gives (slice from to (written_part whole)) out
  -- unless it ends before it begins, or past the package
  pub outside : Accepted whole → (to < from) ⊎ (whole.reply.size < to) → l ≡ left (reply 20 0) out
  -- or has no room
  pub cramped : Accepted whole → from ≤ to → to ≤ whole.reply.size → length out < to - from → l ≡ left (reply 16 0) out

-- ---- (b) what it depends on

-- the bytes of a ciphertext that count for a stretch of a package of that size: those of the blocks that it meets and, chained, of the block
-- before the first of them, where that is in the same segment
abbrev pub Counting : (scheme size from to : ℕ) → ℕ → Type 0
Counting scheme size from to = Needed 16 (Linked scheme size) from to

-- two streams of one length and one StreamSize that agree in the bytes at these places of the ciphertext, which begins behind StreamSize
pub record Agreeing (places : ℕ → Type 0) (s t : List ℕ) : Type 0 where
  pub long : length s ≡ length t
  pub size : stream_size s ≡ stream_size t
  pub bytes : AgreeAt places (drop 8 s) (drop 8 t)

-- ---- (c) side by side

-- one stretch, the next, and the one over both
pub record SideBySide (one next both : Left) : Type 0 where
  pub accepted : (Accepted one × Accepted next) ↔ Accepted both
  pub joined : Accepted both → written_part one ++ written_part next ≡ written_part both

-- ---- the promise

pub record Stretches (opens : Opener) (stretches : Stretcher) : Type 0 where
  -- demand 1, and the answer by the rules
  pub call : (lock : Lock) (stream : List ℕ) (from to : ℕ) (out : List ℕ)
      → Call stretch_numbers (slice from to (package_of lock stream)) out (stretches lock stream from to out)
  pub answers : (lock : Lock) (stream : List ℕ) (from to : ℕ) (out : List ℕ)
      → Answers (stretch_rules lock stream from to (length out)) (stretches lock stream from to out).reply.answer
  -- (a)
  pub part_of : (lock : Lock) (stream whole : List ℕ) (from to : ℕ) (out : List ℕ)
      → PartOf (opens lock stream whole) from to out (stretches lock stream from to out)
  -- (b): the answer, the size and every byte of the output
  pub independent : (lock : Lock) (s t : List ℕ) (from to : ℕ) (out : List ℕ) → Agreeing (Counting lock.scheme (stream_size s) from to) s t
      → stretches lock s from to out ≡ stretches lock t from to out
  -- (c), each with room
  pub side_by_side : (lock : Lock) (stream : List ℕ) (a b c : ℕ) (x y z : List ℕ) → a ≤ b → b ≤ c
      → b - a ≤ length x → c - b ≤ length y → c - a ≤ length z
      → SideBySide (stretches lock stream a b x) (stretches lock stream b c y) (stretches lock stream a c z)
  pub all_of_it : (lock : Lock) (stream out : List ℕ) → stretches lock stream 0 (stream_size stream) out ≡ opens lock stream out

-- ---- that (b) says something, and no less would do

-- a stream that agrees with another at these places, and has another byte at place j
pub record Elsewhere (places : ℕ → Type 0) (s : List ℕ) (j : ℕ) : Type 0 where
  pub it : List ℕ
  pub bytes : Bytes it
  pub agreeing : Agreeing places s it
  pub other : get_or (drop 8 s) j 0 ≡ get_or (drop 8 it) j 0 → ⊥

-- two streams that differ, agree at some places, and have one stretch that is accepted
pub record Unlike (places : ℕ → ℕ → ℕ → ℕ → Type 0) (stretches : Stretcher) (lock : Lock) : Type 0 where
  pub one : List ℕ
  pub other : List ℕ
  pub from : ℕ
  pub to : ℕ
  pub out : List ℕ
  pub differ : one ≡ other → ⊥
  pub agreeing : Agreeing (places (stream_size one) from to) one other
  pub accepted : Accepted (stretches lock one from to out)

pub record Tight (judges : Judge) (stretches : Stretcher) : Type 0 where
  -- each byte of a ciphertext that does not count can be another
  pub elsewhere : (scheme from to : ℕ) (s : List ℕ) (j : ℕ) → Bytes s → 8 + j < length s → (Counting scheme (stream_size s) from to j → ⊥)
      → Elsewhere (Counting scheme (stream_size s) from to) s j
  -- under every accepted lock (b) speaks of two streams
  pub speaks : (lock : Lock) → judges lock ≡ 0 → Unlike (Counting lock.scheme) stretches lock
  -- where a stretch is one whole block, what comes out and the block before, if that counts, tell the block
  pub own : (lock : Lock) (s t : List ℕ) (i : ℕ) (out : List ℕ) → length s ≡ length t → stream_size s ≡ stream_size t
      → Accepted (stretches lock s (16 * i) (16 * i + 16) out)
      → stretches lock s (16 * i) (16 * i + 16) out ≡ stretches lock t (16 * i) (16 * i + 16) out
      → (Linked lock.scheme (stream_size s) i → block_at (i - 1) s ≡ block_at (i - 1) t) → block_at i s ≡ block_at i t
  -- and the block tells the one before
  pub before : (lock : Lock) (s t : List ℕ) (i : ℕ) (out : List ℕ) → length s ≡ length t → stream_size s ≡ stream_size t
      → Accepted (stretches lock s (16 * i) (16 * i + 16) out)
      → stretches lock s (16 * i) (16 * i + 16) out ≡ stretches lock t (16 * i) (16 * i + 16) out
      → Linked lock.scheme (stream_size s) i → block_at i s ≡ block_at i t → block_at (i - 1) s ≡ block_at (i - 1) t
  -- so under scheme 2 the blocks that a stretch meets are not enough: two streams agree in them and give two stretches
  pub fewer : (lock : Lock) → judges lock ≡ 0 → lock.scheme ≡ 2 → (u : Unlike (λ size. Needed 16 (λ i. ⊥)) stretches lock)
      × (stretches lock u.one u.from u.to u.out ≡ stretches lock u.other u.from u.to u.out → ⊥)
