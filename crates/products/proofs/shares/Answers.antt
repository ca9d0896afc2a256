-- Each written table passes the one test of its factor.
use mathlib.Core.Path.{subst⁻¹}
use Rattle.fips197.specs.Field.{xor, double, bit, mul_by, mul}
use Rattle.fips197.specs.Products.{Shares}
use Rattle.fips197.proofs.Shares.{shares_laid}
use Rattle.products.proofs.shares.Goals as goal

pub returns : goal.returns
unfolding mul mul_by bit double xor
returns c = subst⁻¹ Shares c.laid.ensures (shares_laid _ _ _ _ tt tt tt tt)
