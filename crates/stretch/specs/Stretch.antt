-- One stretch of a sheet (request 2026-05): the bytes of the package from one place up to, not including, another. The answer, the size and
-- every byte of the output, for every input. Assumes nothing.
use Rattle.std.specs.Prelude.{Bool, ◌||◌, List, [], ◌∷◌, ◌++◌, ℕ, zero, suc, ◌-◌, ltb, length, replicate}
use Rattle.std.proofs.Math.Seq.{slice}
use Rattle.answers.specs.Rules.{Rule, rule, first_of, room_rules}
use Rattle.answers.specs.Ended.{Left, ended}
use Rattle.steps.specs.Steps.{unit}
use Rattle.password.specs.Lock.{Lock}
use Rattle.password.specs.Verdict.{verdict_rules}
use Rattle.lengths.specs.Lengths.{stream_size, length_rules}
use Rattle.sheet.specs.Sheet.{package_of}

-- ---- the rules, in order

-- 20: the stretch ends before it begins, or past a package of that size
unfoldable pub out_of_range : (from to size : ℕ) → Bool
out_of_range from to size = ltb to from || ltb size to

unfoldable pub range_rules : (from to size : ℕ) → List Rule
range_rules from to size = rule 20 (out_of_range from to size) ∷ []

-- on the stream: 13 to 15 on its lengths, 20 on the ends of the stretch, 16 on the room for it
unfoldable pub part_rules : (stream : List ℕ) (from to room : ℕ) → List Rule
part_rules stream from to room =
    length_rules (length stream) (stream_size stream) ++ (range_rules from to (stream_size stream) ++ room_rules room (to - from))

-- all of them, after the verdict's rules
unfoldable pub stretch_rules : Lock → (stream : List ℕ) (from to room : ℕ) → List Rule
stretch_rules lock stream from to room = verdict_rules lock ++ part_rules stream from to room

-- ---- what a call leaves

-- `open`: those bytes of the package
unfoldable pub stretched : Lock → (stream : List ℕ) (from to : ℕ) (out : List ℕ) → Left
stretched lock stream from to out =
    ended (first_of (stretch_rules lock stream from to (length out))) (to - from) (slice from to (package_of lock stream)) out

-- ---- where the code takes a ciphertext up

-- the block before block i; before the first there are zeros
unfoldable pub block_before : (ciphertext : List ℕ) (i : ℕ) → List ℕ
block_before s zero = replicate 16 0
block_before s (suc i) = unit 16 i s
