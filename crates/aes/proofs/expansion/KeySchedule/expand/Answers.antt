-- Before word i is made, the words before it stand in their places and zeros after them.
use native.Mathlib.Omega.{arith}
use Rattle.fips197.proofs.Schedule.{extended_more, extended_all, extended_none}
use Rattle.aes.proofs.expansion.KeySchedule.expand.Goals as goal

pub loop-i-init : goal.loop-i-init
loop-i-init c = extended_none c.args.self.now.nk c.args.key.now (omega arith) c.requires _ c.copy.ensures

pub loop-i-preserved : goal.loop-i-preserved
loop-i-preserved c =
    extended_more c.args.self.now.nk c.args.key.now (omega arith) c.requires c.loop-i.w _ c.next-t.result c.loop-i.i
    (omega arith) (omega arith) c.loop-i.invariant c.next-t.ensures c.copy-in-loop-i.ensures

pub returns : goal.returns
returns c = extended_all c.args.self.now.nk c.args.key.now (omega arith) c.requires c.loop-i.w c.loop-i.i (omega arith) c.loop-i.invariant
