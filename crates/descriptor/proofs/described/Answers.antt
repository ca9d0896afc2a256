-- The fields where the rules say that they are.
use borrow.Author.Rules.{rules}
use Rattle.descriptor.specs.Info as stream
use Rattle.descriptor.proofs.described.Goals as goal

pub returns : goal.returns
unfolding stream.described stream.numbers_of stream.salt_of stream.encrypted_verifier stream.encrypted_verifier_hash
returns c = search rules
