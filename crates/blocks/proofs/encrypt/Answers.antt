-- The words are laid once, and lent with the table and the key.
use mathlib.Core.Path.{refl}
use Rattle.fips197.specs.Tables.{sbox}
use Rattle.blocks.proofs.encrypt.Goals as goal

pub lay_forward-requires : goal.lay_forward-requires
unfolding sbox
lay_forward-requires c = refl

pub invariant_of-encryption : goal.invariant_of-encryption
unfolding sbox
invariant_of-encryption c = record { in_range = c.args.key.in_range; tables = (refl, c.lay_forward.ensures) }
