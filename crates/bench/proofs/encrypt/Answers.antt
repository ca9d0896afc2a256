-- The table is the table, and the words are as they were laid.
use mathlib.Core.Path.{refl}
use Rattle.fips197.specs.Tables.{sbox}
use Rattle.bench.proofs.encrypt.Goals as goal

pub lay_forward-requires : goal.lay_forward-requires
unfolding sbox
lay_forward-requires c = refl

pub invariant_of-encryption : goal.invariant_of-encryption
unfolding sbox
invariant_of-encryption c = record { in_range = c.in_ok-key.key.in_range; tables = (refl, c.lay_forward.ensures) }
