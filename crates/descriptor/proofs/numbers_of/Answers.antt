-- Each number is read at its place.
use borrow.Author.Rules.{rules}
use Rattle.descriptor.specs.Info as stream
use Rattle.descriptor.proofs.numbers_of.Goals as goal

pub returns : goal.returns
unfolding stream.numbers_of stream.major stream.minor stream.header_size stream.size_extra stream.alg_id stream.alg_id_hash stream.key_size
    stream.salt_size stream.verifier_hash_size
returns c = search rules
