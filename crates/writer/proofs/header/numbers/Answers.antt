-- Each turn lays one more number.
use mathlib.Core.Path.{◌≡◌, ◌∙◌}
use Prim.Native.Nat.{◌*◌}
use native.Mathlib.Omega.{arith}
use borrow.Author.Rules.{rules}
use lib.ListN.{length, replicate}
use Rattle.octets.specs.Octets.{le_bytes}
use Rattle.octets.proofs.Numbers.{length_le_bytes}
use Rattle.octets.proofs.Each.{each_next, each_whole}
use Rattle.writer.proofs.header.numbers.Goals as goal

pub loop-i-preserved : goal.loop-i-preserved
loop-i-preserved c =
    let n : length c.args.ns ≡ 10 = search rules in (
      c.put_le32.auto.d ∙ c.loop-i.invariant.0,
      each_next (le_bytes 4) (length_le_bytes 4) (replicate 40 0) c.args.ns 0 c.loop-i.i (4 * c.loop-i.i) (omega arith) (omega arith) (omega arith)
          c.loop-i.invariant.1 c.put_le32.ensures,
    )

pub returns : goal.returns
returns c =
    let n : length c.args.ns ≡ 10 = search rules in
    each_whole (le_bytes 4) (length_le_bytes 4) (replicate 40 0) c.args.ns c.loop-i.i (omega arith) (omega arith) c.loop-i.invariant.1
