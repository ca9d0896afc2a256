-- What a call with an output leaves, by its answer (01, "The numbered replies": a refusal carries size 0 and changes no lent byte; after
-- answer 0 every output byte past the written part is zero). Assumes nothing.
use Rattle.std.specs.Prelude.{List, ◌++◌, ℕ, zero, suc, ◌-◌, length, replicate}

-- its answer, and the number of bytes written
pub record Reply : Type 0 where
  pub answer : ℕ
  pub size : ℕ

-- its reply, and the output
pub record Left : Type 0 where
  pub reply : Reply
  pub out : List ℕ

abbrev pub left : Reply → List ℕ → Left
left r o = record { reply = r; out = o }

abbrev pub reply : ℕ → ℕ → Reply
reply answer size = record { answer = answer; size = size }

-- one that gives a content: answer 0, the content's size, the content, and zeros to the end of the output
abbrev pub gives : (content out : List ℕ) → Left
gives content out = left (reply 0 (length content)) (content ++ replicate (length out - length content) 0)

-- by its answer: with 0 the content of that size and zeros after it; with any other size 0, and the output as it was
unfoldable pub ended : (answer size : ℕ) (content out : List ℕ) → Left
ended zero size content out = left (reply 0 size) (content ++ replicate (length out - size) 0)
ended (suc n) size content out = left (reply (suc n) 0) out
