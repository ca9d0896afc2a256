use mathlib.Core.Path.{◌≡◌}
use Rattle.sha1_digest.specs.Sha1 as fips
use Rattle.sha1_digest.proofs.blocks.chain.Given as goal

abbrev pub invariant-loop-i : goal.invariant-loop-i
invariant-loop-i l = l.s ≡ fips.chain (fips.pad l.m) l.i fips.start
