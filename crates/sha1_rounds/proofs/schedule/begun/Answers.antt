-- Below sixteen each word is the message's.
use Rattle.std.proofs.Common.{arith, length-set}
use Rattle.sha1_rounds.proofs.Steps.{words_more, word_early}
use Rattle.sha1_rounds.proofs.schedule.begun.Goals as goal

pub loop-t-preserved : goal.loop-t-preserved
loop-t-preserved c = (rw length-set c.loop-t.invariant.0, words_more _ _ _ _ (omega arith) c.loop-t.invariant.1 (word_early _ _ _ (omega arith)))
