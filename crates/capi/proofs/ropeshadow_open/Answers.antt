-- The size fits.
use Rattle.capi.proofs.Sizes.{open_held}
use Rattle.capi.proofs.Ended.{open_crossed}
use Rattle.capi.proofs.ropeshadow_open.Goals as goal

pub sized-requires : goal.sized-requires
sized-requires c = open_held _ _ _ _ _ c.open.ensures

pub returns : goal.returns
returns c = open_crossed _ _ _ _ _ c.sized.ensures _ c.open.ensures
