-- Each turn lays one byte more; what lies past it is still the old output.
use mathlib.Core.Path.{refl}
use native.Mathlib.Omega.{arith}
use lib.Seq.{paste-zero}
use Rattle.octets.proofs.Parts.{paste_more}
use Rattle.writer.proofs.put_name.Goals as goal

pub loop-i-init : goal.loop-i-init
loop-i-init c = paste-zero c.args.out.now 44 c.args.name.now

pub loop-i-preserved : goal.loop-i-preserved
loop-i-preserved c =
    paste_more c.args.out.now c.args.name.now c.loop-i.out 44 c.loop-i.i _ 0 (omega arith) c.loop-i-test.true c.loop-i.invariant refl
