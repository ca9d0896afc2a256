-- A ciphertext that comes in pieces, cut anywhere: each piece gives the units that it completes, opened, and leaves the rest for the
-- next. What is handed out ends where the package does (004 2.3.4.4: StreamSize). Assumes nothing.
use Rattle.std.specs.Prelude.{List, [], ◌∷◌, ◌++◌, ℕ, ◌+◌, ◌-◌, ◌*◌, ◌/◌, length, take, drop}
use Rattle.steps.specs.Steps.{Step, before, open_units, resumed}

-- between two pieces: how many units were opened, the last of them as it came, and the bytes of one that is not complete
pub record Kept : Type 0 where
  pub done : ℕ
  pub last : List ℕ
  pub rest : List ℕ

-- what a piece leaves, and what it gives
pub record Fed : Type 0 where
  pub kept : Kept
  pub out : List ℕ

abbrev pub gave : (done : ℕ) (last rest out : List ℕ) → Fed
gave done last rest out = record { kept = record { done = done; last = last; rest = rest }; out = out }

-- before the first piece
unfoldable pub begun : Step → Kept
begun step = record { done = 0; last = step.first; rest = [] }

-- the step of what comes next
abbrev pub onward : Step → Kept → Step
onward step k = resumed k.done k.last step

-- n units of s, which has come and has not been opened, in a package of that size
unfoldable pub took : Step → (size : ℕ) → Kept → (n : ℕ) (s : List ℕ) → Fed
took step size k n s =
    gave (k.done + n) (before (onward step k) n s) (drop (step.width * n) s)
    (take (size - step.width * k.done) (open_units (onward step k) n s))

-- a piece: every unit that is whole, with the rest that was left in front of it
unfoldable pub fed : Step → (size : ℕ) → Kept → (piece : List ℕ) → Fed
fed step size k piece = took step size k (length (k.rest ++ piece) / step.width) (k.rest ++ piece)

-- one after the other: what the second leaves, and what both give
abbrev pub joined : Fed → Fed → Fed
joined a b = record { kept = b.kept; out = a.out ++ b.out }

-- pieces, in order
unfoldable pub feeds : Step → (size : ℕ) → Kept → (pieces : List (List ℕ)) → Fed
feeds step size k [] = record { kept = k; out = [] }
feeds step size k (p ∷ ps) = joined (fed step size k p) (feeds step size (fed step size k p).kept ps)
