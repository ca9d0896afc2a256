use mathlib.Core.Path.{◌≡◌}
use lib.ListN.{length, take}
use Rattle.sha1_digest.specs.Sha1 as fips
use Rattle.sha1_digest.proofs.blocks.block.Given as goal

abbrev pub invariant-loop-t : goal.invariant-loop-t
invariant-loop-t l = (length l.m ≡ 16) × (take l.t l.m ≡ fips.block_words l.p l.at l.t)
