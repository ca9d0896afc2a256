use Rattle.std.proofs.Common.{◌≡◌}
use Rattle.sha1_rounds.specs.Compression as fips
use Rattle.sha1_rounds.specs.declared.State.{State}
use Rattle.sha1_rounds.proofs.rounds.span.Given as goal

abbrev pub invariant-loop-t : goal.invariant-loop-t
invariant-loop-t l = (x : State) → l.initial.r ≡ fips.steps l.w l.from x → l.r ≡ fips.steps l.w l.t x
