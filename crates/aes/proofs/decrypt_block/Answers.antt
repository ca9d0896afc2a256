-- The three numbers of rounds go to the one inverse cipher over any number.
use mathlib.Core.Path.{refl}
use Rattle.fips197.specs.Tables.{inv_sbox}
use Rattle.fips197.specs.Cipher.{inv_cipher}
use Rattle.aes.specs.Aes.{done_block, refused_block, decrypted_by}
use Rattle.aes.proofs.Keys.{within, answered, unanswered}
use Rattle.aes.proofs.decrypt_block.Goals as goal

pub inv_cipher-requires : goal.inv_cipher-requires
unfolding inv_sbox
inv_cipher-requires c =
    let h = within c.args.key.rounds c.in-10.is in
    record { rounds = h; tables = (refl, c.shares-shares.ensures) }

pub returns-in-10 : goal.returns-in-10
unfolding decrypted_by done_block
returns-in-10 c = answered inv_cipher c.args.block c.args.key _ c.in-10.is c.inv_cipher.ensures

pub returns-in_default : goal.returns-in_default
unfolding decrypted_by refused_block
returns-in_default c = unanswered inv_cipher c.args.block c.args.key _ c.in_default.in_default-own.rest.1 refl
