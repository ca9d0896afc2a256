-- The message's words, then four spans of the recurrence.
use Rattle.std.proofs.Common.{rules}
use Rattle.sha1_rounds.proofs.Steps.{words_all}
use Rattle.sha1_rounds.proofs.schedule.schedule.Goals as goal

pub returns : goal.returns
returns c = words_all _ c.begun-w.ensures c.extend.ensures c.extend-2.ensures c.extend-3.ensures c.extend-4.ensures (search rules)
