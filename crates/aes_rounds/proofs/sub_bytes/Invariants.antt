use mathlib.Core.Path.{◌≡◌}
use mathlib.Core.List.{map, ◌++◌}
use lib.ListN.{take, drop}
use Rattle.fips197.specs.Tables.{look}
use Rattle.aes_rounds.proofs.sub_bytes.Given as goal

abbrev pub invariant-loop-x : goal.invariant-loop-x
invariant-loop-x g l = l.x-items ≡ map (look l.table) (take l.x-index l.fn.s) ++ drop l.x-index l.fn.s
