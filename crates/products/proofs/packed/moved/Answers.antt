-- A rotation by whole bytes moves them.
use mathlib.Core.Path.{◌∙◌}
use native.Mathlib.Omega.{arith}
use Rattle.fips197.proofs.Words.{rotated_left}
use Rattle.products.proofs.packed.moved.Goals as goal

pub returns : goal.returns
returns c = let a = c.args in c.rotate_left.ensures ∙ rotated_left a.k a.x c.requires (omega arith)
