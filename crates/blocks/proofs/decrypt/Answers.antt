-- The words are laid once and the round keys mixed once, and all are lent.
use mathlib.Core.Path.{refl}
use borrow.Author.Rules.{rules}
use Rattle.fips197.specs.Tables.{inv_sbox}
use Rattle.blocks.proofs.decrypt.Goals as goal

pub lay_inverse-requires : goal.lay_inverse-requires
unfolding inv_sbox
lay_inverse-requires c = (refl, c.shares-shares.ensures)

pub invariant_of-decryption : goal.invariant_of-decryption
unfolding inv_sbox
invariant_of-decryption c =
    record { in_range = c.args.key.in_range; keys = (search rules, c.mixed.ensures); tables = (refl, c.lay_inverse.ensures) }
