-- The spans one after the other.
use Rattle.sha1_rounds.proofs.Steps.{rounds_all}
use Rattle.sha1_rounds.proofs.rounds.eighty.Goals as goal

pub returns : goal.returns
returns c =
    rounds_all _ c.span-first.ensures c.span-second.ensures
    c.span-third.ensures c.span.ensures
