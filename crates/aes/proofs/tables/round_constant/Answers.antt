-- Places count from 0, rounds from 1.
use mathlib.Core.Path.{refl}
use Rattle.fips197.specs.Tables.{round_constant, round_constants}
use Rattle.aes.proofs.tables.round_constant.Goals as goal

pub returns : goal.returns
unfolding round_constant round_constants
returns c = refl
