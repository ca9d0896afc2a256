-- The size fits, the filling is the two numbers' and the choice the third's.
use Rattle.crossing.specs.Crossing.{chosen}
use Rattle.capi.proofs.Sizes.{seal_held}
use Rattle.capi.proofs.Ended.{seal_crossed}
use Rattle.capi.proofs.ropeshadow_seal.Goals as goal

pub sized-requires : goal.sized-requires
sized-requires c = seal_held _ _ _ _ _ _ _ c.seal.ensures

pub returns : goal.returns
unfolding chosen
returns c = seal_crossed _ _ _ _ _ c.sized.ensures _ _ _ _ c.args.extra c.sixteen-filling.ensures c.seal.ensures
