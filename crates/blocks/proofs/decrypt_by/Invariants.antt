use mathlib.Core.Path.{◌≡◌}
use Prim.Native.Nat.{◌*◌, ◌<◌, min}
use lib.ListN.{length}
use lib.Seq.{paste}
use Rattle.steps.specs.Steps.{before, open_all}
use Rattle.blocks.specs.Blocks.{step_from}
use Rattle.blocks.proofs.decrypt_by.Given as goal

-- the blocks so far are laid, the last of them cut where less of it is wanted
abbrev pub invariant-loop-k : goal.invariant-loop-k
invariant-loop-k l =
    (length l.out ≡ length l.initial.out)
    × (l.out ≡ paste l.initial.out 0 (open_all (step_from l.place l.mode l.decryption.w.now l.decryption.rounds) l.src) (min l.size (16 * l.k)))
    × (16 * l.k < l.size → l.before ≡ before (step_from l.place l.mode l.decryption.w.now l.decryption.rounds) l.k l.src)
