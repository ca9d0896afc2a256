-- What a call leaves, read field by field: an entry with an output answers by a list of rules and ends by `ended`. Assumes nothing.
use mathlib.Core.Path.{◌≡◌, refl, sym, ap, ◌∙◌}
use mathlib.Core.List.{List, ◌∷◌}
use Prim.Native.Nat.{ℕ, zero, suc, ◌-◌, ◌≤◌}
use native.Mathlib.Omega.{arith}
use lib.Dec.{T}
use lib.ListN.{length, take, replicate}
use lib.Seq.{take_at}
use Rattle.answers.specs.Rules.{Rule, first_of, numbered, OneOf}
use Rattle.answers.specs.Ended.{Left, ended, gives}
use Rattle.answers.proofs.Laws.{none_broken, first_broken}
use Rattle.promises.specs.Words.{Accepted, Answers, written_part}
use Rattle.promises.specs.Demand1.{OnOutput, Call}

-- a call that ends so ends as demand 1 asks if its answer is listed
pub ended_ends : (numbers : List ℕ) (n size : ℕ) (content out : List ℕ) → OneOf (0 ∷ numbers) n → OnOutput numbers out (ended n size content out)
unfolding ended
ended_ends numbers zero size content out o = record { answer = o; refused = λ h. absurd (h refl) }
ended_ends numbers (suc n) size content out o = record { answer = o; refused = λ h. record { none = refl; same = refl } }

-- and keeps demand 1 if besides, where that is 0, its content is of its size and has room
pub ended_call : (numbers : List ℕ) (n size : ℕ) (content out : List ℕ) → OneOf (0 ∷ numbers) n
    → (n ≡ 0 → (size ≡ length content) × (size ≤ length out)) → Call numbers content out (ended n size content out)
unfolding ended
ended_call numbers zero size content out o r =
    record { ends = ended_ends numbers 0 size content out o; accepted = λ h. record { size = (r refl).0; room = (r refl).1; bytes = refl } }
ended_call numbers (suc n) size content out o r =
    record { ends = ended_ends numbers (suc n) size content out o; accepted = λ h. absurd (omega arith) }

-- the first broken rule's number is the answer by the rules
pub by_rules : (rs : List Rule) → T (numbered rs) → Answers rs (first_of rs)
by_rules rs t = record { none = none_broken rs t; first = λ m p. first_broken m rs p }

-- what an accepted call wrote
pub call_wrote : (numbers content out : List ℕ) (l : Left) → Call numbers content out l → Accepted l → written_part l ≡ content
call_wrote numbers content out l c z =
    let h = c.accepted z in
    ap (take l.reply.size) h.bytes ∙ take_at content _ l.reply.size (sym h.size)

-- what a call wrote that gives a content
pub wrote : (content out : List ℕ) → written_part (gives content out) ≡ content
wrote content out = take_at content (replicate (length out - length content) 0) (length content) refl
