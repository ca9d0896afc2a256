use mathlib.Core.Path.{◌≡◌}
use mathlib.Core.List.{◌++◌}
use Prim.Native.Nat.{◌*◌, ◌<◌}
use lib.ListN.{length, take}
use lib.Seq.{paste}
use Rattle.steps.specs.Steps.{before, seal_all}
use Rattle.blocks.specs.Blocks.{step_from}
use Rattle.blocks.proofs.encrypt_by.Given as goal

-- the blocks so far are laid, and the last of them stands before the next
abbrev pub invariant-loop-k : goal.invariant-loop-k
invariant-loop-k l =
    (length l.out ≡ length l.initial.out)
    × (l.out ≡ paste l.initial.out l.at (seal_all (step_from l.place l.mode l.encryption.w.now l.encryption.rounds) (take l.size (l.src ++ l.filling))) (16 * l.k))
    × (16 * l.k < l.size → l.before ≡ before (step_from l.place l.mode l.encryption.w.now l.encryption.rounds) l.k (seal_all (step_from l.place l.mode l.encryption.w.now l.encryption.rounds) (take l.size (l.src ++ l.filling))))
