-- Opening and sealing: the answer, the size and every byte of the output, for every input (01, "The package stream" and "The numbered
-- replies"; 004 2.3.4.4). Assumes nothing.
use Rattle.std.specs.Prelude.{Bool, List, ◌++◌, ℕ, length, take}
use Rattle.answers.specs.Rules.{Rule, first_of, room_rules}
use Rattle.answers.specs.Ended.{Left, ended}
use Rattle.steps.specs.Steps.{Step, open_all, seal_all}
use Rattle.password.specs.Lock.{Lock, descriptor_of}
use Rattle.password.specs.Verdict.{key_of, verdict_rules}
use Rattle.lengths.specs.Lengths.{stream_size, package_limit, allowed, filling_for, sealed_size, length_rules, size_rules}
use Rattle.sheet.specs.Frame.{Pair, pair, Lengths, stream_of, pair_of}
use Rattle.sheet.specs.Scheme.{step_of}

-- the limit and the fillings of 01
unfoldable pub lengths : Lengths
lengths = record { limit = package_limit; allowed = allowed }

-- ---- the rules, in order

-- on a stream that is to be opened: 13 to 15 on its lengths, 16 on the room for its package
unfoldable pub stream_rules : (stream : List ℕ) (room : ℕ) → List Rule
stream_rules stream room = length_rules (length stream) (stream_size stream) ++ room_rules room (stream_size stream)

-- on a package that is to be sealed: 14 on its size, 16 on the room for its stream
unfoldable pub package_rules : (extra : Bool) (size room : ℕ) → List Rule
package_rules extra size room = size_rules size ++ room_rules room (sealed_size extra size)

-- all of each, after the verdict's rules
unfoldable pub open_rules : Lock → (stream : List ℕ) (room : ℕ) → List Rule
open_rules lock stream room = verdict_rules lock ++ stream_rules stream room

unfoldable pub seal_rules : Lock → (extra : Bool) (size room : ℕ) → List Rule
seal_rules lock extra size room = verdict_rules lock ++ package_rules extra size room

-- ---- what is written

-- the key of a lock
unfoldable pub sheet_key : Lock → List ℕ
sheet_key lock = key_of (descriptor_of lock) lock.password

-- the step of a package of that size under it, and its two ways
unfoldable pub sheet_step : Lock → (size : ℕ) → Step
sheet_step lock size = step_of (descriptor_of lock) (sheet_key lock) size

unfoldable pub sealing : Lock → (size : ℕ) → List ℕ → List ℕ
sealing lock size = seal_all (sheet_step lock size)

unfoldable pub opening : Lock → (size : ℕ) → List ℕ → List ℕ
opening lock size = open_all (sheet_step lock size)

-- the package of a stream
unfoldable pub package_of : Lock → (stream : List ℕ) → List ℕ
package_of lock stream = (pair_of (opening lock) stream).«package»

-- a package with the first of sixteen filling bytes, as many as the choice makes its filling long
unfoldable pub filled_with : («package» filling : List ℕ) (extra : Bool) → Pair
filled_with «package» filling extra = pair «package» (take (filling_for extra (length «package»)) filling)

-- the stream of a pair
unfoldable pub sealing_of : Lock → Pair → List ℕ
sealing_of lock p = stream_of (sealing lock) p

-- ---- what a call leaves

-- `open`
unfoldable pub opened : Lock → (stream out : List ℕ) → Left
opened lock stream out =
    ended (first_of (open_rules lock stream (length out))) (stream_size stream) (package_of lock stream) out

-- `seal`, with sixteen bytes to fill the last block, and the choice of an extra one
unfoldable pub sealed : Lock → («package» filling : List ℕ) (extra : Bool) (out : List ℕ) → Left
sealed lock «package» filling extra out =
    ended (first_of (seal_rules lock extra (length «package») (length out))) (sealed_size extra (length «package»))
    (sealing_of lock (filled_with «package» filling extra)) out
