use Rattle.std.proofs.Common.{◌≡◌, List, ℕ, take}
use Rattle.sha1_rounds.specs.Compression as fips
use Rattle.sha1_rounds.proofs.schedule.extend.Given as goal

abbrev pub invariant-loop-t : goal.invariant-loop-t
invariant-loop-t l = (m : List ℕ) → take l.from l.initial.w ≡ fips.words m l.from → take l.t l.w ≡ fips.words m l.t
