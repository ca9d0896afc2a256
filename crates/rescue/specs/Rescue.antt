-- What can be had of a sheet that was cut, or that has too many bytes (request 2026-13): the answer, the size, the counts and every byte of
-- the output, for every input. Assumes nothing.
use Rattle.std.specs.Prelude.{Result, Ok, Err, true, List, ◌∷◌, ◌++◌, ℕ, zero, suc, ◌-◌, ◌*◌, ◌/◌, min, ltb, length, replicate}
use Rattle.answers.specs.Rules.{Rule, rule, first_of, room_rules}
use Rattle.answers.specs.Ended.{Left, left, reply, ended}
use Rattle.answers.specs.Refusals.{number}
use Rattle.answers.specs.declared.Refusal.{Refusal}
use Rattle.password.specs.Lock.{Lock}
use Rattle.password.specs.Verdict.{verdict_rules}
use Rattle.lengths.specs.Lengths.{stream_size, rounded, size_rules}
use Rattle.sheet.specs.Sheet.{sheet_step, package_of}
use Rattle.rescue.specs.declared.Counts.{Counts}
use Rattle.rescue.specs.declared.Rescued as Given

-- ---- the rules, in order

-- on the stream, of whatever length: 13 and 14 as for opening, 16 on the room for StreamSize bytes
unfoldable pub head_rules : (stream : List ℕ) (room : ℕ) → List Rule
head_rules stream room = rule 13 (ltb (length stream) 8) ∷ (size_rules (stream_size stream) ++ room_rules room (stream_size stream))

-- all of them, after the verdict's rules
unfoldable pub rescue_rules : Lock → (stream : List ℕ) (room : ℕ) → List Rule
rescue_rules lock stream room = verdict_rules lock ++ head_rules stream room

-- ---- the counts

-- how many bytes of a package of that size n bytes of ciphertext give: those of its whole units, at most so many
unfoldable pub recoverable : (unit n size : ℕ) → ℕ
recoverable unit n size = min size (unit * (n / unit))

-- the longest ciphertext that no. 15 allows a package of that size: with an extra block, where it takes one
unfoldable pub longest : (size : ℕ) → ℕ
longest size = rounded true size

unfoldable pub counted : (unit n size : ℕ) → Counts
counted unit n size =
    record { recovered = recoverable unit n size; zeroed = size - recoverable unit n size; surplus = n - longest size }

unfoldable pub none : Counts
none = record { recovered = 0; zeroed = 0; surplus = 0 }

-- ---- what a call leaves

-- its reply and the output, and its counts
pub record Rescue : Type 0 where
  pub left : Left
  pub counts : Counts

abbrev pub rescue : Left → Counts → Rescue
rescue l c = record { left = l; counts = c }

-- the same as `open` gives it, over the output: no count on a refusal
abbrev pub rescued_of : Result Given.Rescued Refusal → (out : List ℕ) → Rescue
rescued_of (Ok r) out = rescue (left (reply 0 r.size) out) r.counts
rescued_of (Err r) out = rescue (left (reply (number r) 0) out) none

-- the package as far as it goes, since of a stream that is cut whole units alone are opened, and zeros for the rest of it
unfoldable pub remains : Lock → (stream : List ℕ) → List ℕ
remains lock stream = let there : List ℕ = package_of lock stream in there ++ replicate (stream_size stream - length there) 0

-- by the answer: with 0 one thing, with any other another
unfoldable pub if_done : {A : Type 0} → (answer : ℕ) → A → A → A
if_done zero x y = x
if_done (suc n) x y = y

-- `open`
unfoldable pub rescued : Lock → (stream out : List ℕ) → Rescue
rescued lock stream out =
    let size : ℕ = stream_size stream in
    let answer : ℕ = first_of (rescue_rules lock stream (length out)) in
    rescue (ended answer size (remains lock stream) out) (if_done answer (counted (sheet_step lock size).width (length stream - 8) size) none)
