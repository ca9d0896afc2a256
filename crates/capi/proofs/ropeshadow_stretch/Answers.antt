-- The size fits.
use Rattle.capi.proofs.Sizes.{stretch_held}
use Rattle.capi.proofs.Ended.{stretch_crossed}
use Rattle.capi.proofs.ropeshadow_stretch.Goals as goal

pub sized-requires : goal.sized-requires
sized-requires c = stretch_held _ _ _ _ _ _ _ c.open.ensures

pub returns : goal.returns
returns c = stretch_crossed _ _ _ _ _ c.sized.ensures _ _ _ c.open.ensures
