-- The library reads the bytes that stand there.
use mathlib.Core.Path.{ap, ◌∙◌}
use lib.ListN.{length, drop}
use Rattle.octets.specs.Octets.{le, le_at}
use Rattle.octets.proofs.Below.{take_below, drop_below}
use Rattle.octets.proofs.Parts.{length_part}
use Rattle.products.proofs.Numbers.{le_four}
use Rattle.products.proofs.packed.four.Goals as goal

pub returns : goal.returns
unfolding le_at
returns c =
    let s = c.args.s.now in
    let at = c.args.at in (
      c.from_le_bytes.ensures ∙ le_four c.part.result (ap length c.part.ensures ∙ length_part 4 at s c.requires) ∙ ap le c.part.ensures,
      take_below 4 (drop at s) (drop_below at s (record { at = λ i. (c.type_inv.s i).fits })),
    )
