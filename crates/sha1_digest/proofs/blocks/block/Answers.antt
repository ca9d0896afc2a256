-- Each turn reads one word more.
use native.Mathlib.Omega.{arith}
use lib.ListN.{length-set}
use Rattle.sha1_digest.proofs.Chains.{block_more}
use Rattle.sha1_digest.proofs.blocks.block.Goals as goal

pub loop-t-preserved : goal.loop-t-preserved
loop-t-preserved c = (rw length-set c.loop-t.invariant.0, block_more _ _ _ _ _ (omega arith) c.loop-t.invariant.1 c.be32.ensures)
