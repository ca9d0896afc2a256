use Rattle.std.proofs.Common.{◌≡◌, length, take}
use Rattle.sha1_rounds.specs.Compression as fips
use Rattle.sha1_rounds.proofs.schedule.begun.Given as goal

abbrev pub invariant-loop-t : goal.invariant-loop-t
invariant-loop-t l = (length l.w ≡ 80) × (take l.t l.w ≡ fips.words l.m l.t)
