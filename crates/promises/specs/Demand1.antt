-- Demand 1. Whatever comes in, each call ends with one answer from its own list of numbers. A refusal has size 0 and changes no byte; an
-- acceptance leaves exactly what it names, of `size` bytes, and zeros from there to the end of the output, whatever it held before.
-- EveryCall.antt says the first half of every public call. Assumes nothing.
use Rattle.std.specs.Prelude.{◌≡◌, Bool, List, [], ◌∷◌, ◌++◌, ℕ, ◌-◌, ◌≤◌, length, replicate}
use Rattle.answers.specs.Rules.{OneOf}
use Rattle.answers.specs.Ended.{Left}
use Rattle.descriptor.specs.Info.{zeroed}
use Rattle.descriptor.specs.Info.{Parsed}
use Rattle.password.specs.Lock.{Lock}
use Rattle.sheet.specs.Sheet.{package_of, filled_with, sealing_of}
use Rattle.promises.specs.Words.{Parser, Judge, Opener, Sealer, Accepted}

-- ---- the numbers of each entry, beside 0 (01, "The numbered replies")

abbrev pub parse_numbers : List ℕ
parse_numbers = 1 ∷ 2 ∷ 3 ∷ 4 ∷ 5 ∷ 6 ∷ 7 ∷ 8 ∷ 9 ∷ 10 ∷ 19 ∷ []

abbrev pub verdict_numbers : List ℕ
verdict_numbers = parse_numbers ++ 11 ∷ 12 ∷ []

abbrev pub open_numbers : List ℕ
open_numbers = verdict_numbers ++ 13 ∷ 14 ∷ 15 ∷ 16 ∷ []

abbrev pub seal_numbers : List ℕ
seal_numbers = verdict_numbers ++ 14 ∷ 16 ∷ []

-- ---- how a call ends

-- a refusal: its size is 0, and what it gives or leaves is what every refusal of the call does
pub record Refusal {A : Type 0} (always : A) (size : ℕ) (given : A) : Type 0 where
  pub none : size ≡ 0
  pub same : given ≡ always

-- a call that may answer 0 or these numbers, and what it gives or leaves
pub record Concludes {A : Type 0} (numbers : List ℕ) (always : A) (n size : ℕ) (given : A) : Type 0 where
  pub answer : OneOf (0 ∷ numbers) n
  pub refused : (n ≡ 0 → ⊥) → Refusal always size given

-- a call on an output: refused, its size is 0 and every byte of the output is as it was
abbrev pub Untouched : (out : List ℕ) → Left → Type 0
Untouched out l = Refusal out l.reply.size l.out

abbrev pub OnOutput : (numbers out : List ℕ) → Left → Type 0
OnOutput numbers out l = Concludes numbers out l.reply.answer l.reply.size l.out

-- the content fits the output, has the size that the reply tells, and has zeros after it
pub record Holds (content out : List ℕ) (l : Left) : Type 0 where
  pub size : l.reply.size ≡ length content
  pub room : l.reply.size ≤ length out
  pub bytes : l.out ≡ content ++ replicate (length out - l.reply.size) 0

-- a call on an output, and what it writes where it is accepted
pub record Call (numbers content out : List ℕ) (l : Left) : Type 0 where
  pub ends : OnOutput numbers out l
  pub accepted : Accepted l → Holds content out l

-- a parse, which has no size: a refused one is zero in every field
abbrev pub Parse : Parsed → Type 0
Parse p = Concludes parse_numbers zeroed p.answer 0 p.fields

-- a verdict, which is an answer alone
abbrev pub Verdict : ℕ → Type 0
Verdict n = Concludes {A = Unit} verdict_numbers tt n 0 tt

-- ---- the demand

pub record Demand1 (parses : Parser) (judges : Judge) (opens : Opener) (seals : Sealer) : Type 0 where
  pub parsing : (info : List ℕ) (scheme : ℕ) → Parse (parses info scheme)
  pub judging : (lock : Lock) → Verdict (judges lock)
  -- what is written is the package of the stream
  pub opening : (lock : Lock) (stream out : List ℕ) → Call open_numbers (package_of lock stream) out (opens lock stream out)
  -- what is written is the stream of the package, filled with the first of the sixteen bytes, with an extra block or without
  pub sealing : (lock : Lock) («package» filling : List ℕ) (extra : Bool) (out : List ℕ) → length filling ≡ 16
      → Call seal_numbers (sealing_of lock (filled_with «package» filling extra)) out (seals lock «package» filling extra out)
