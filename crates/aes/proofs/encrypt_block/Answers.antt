-- The three numbers of rounds go to the one cipher over any number.
use mathlib.Core.Path.{refl}
use Rattle.fips197.specs.Tables.{sbox}
use Rattle.fips197.specs.Cipher.{cipher}
use Rattle.aes.specs.Aes.{done_block, refused_block, encrypted_by}
use Rattle.aes.proofs.Keys.{within, answered, unanswered}
use Rattle.aes.proofs.encrypt_block.Goals as goal

pub cipher-requires : goal.cipher-requires
unfolding sbox
cipher-requires c =
    let h = within c.args.key.rounds c.in-10.is in
    (h.0, h.1, refl)

pub returns-in-10 : goal.returns-in-10
unfolding encrypted_by done_block
returns-in-10 c = answered cipher c.args.block c.args.key _ c.in-10.is c.cipher.ensures

pub returns-in_default : goal.returns-in_default
unfolding encrypted_by refused_block
returns-in_default c = unanswered cipher c.args.block c.args.key _ c.in_default.in_default-own.rest.1 refl
