-- The size fits, and what is written is made of the numbers given.
use Rattle.capi.specs.Capi as Capi
use Rattle.capi.proofs.Sizes.{write_held}
use Rattle.capi.proofs.Ended.{write_crossed}
use Rattle.capi.proofs.ropeshadow_write_info.Goals as goal

pub sized-requires : goal.sized-requires
sized-requires c = write_held _ _ _ _ _ _ _ _ _ c.write_info.ensures

pub returns : goal.returns
unfolding Capi.write_outcome
returns c =
    let l = rw (c.bit_count-bits.ensures, c.twelve-filling.ensures, c.sixteen-verifier.ensures, c.sixteen-salt.ensures) at c.write_info.ensures in
    write_crossed _ _ _ _ _ _ _ _ _ _ c.sized.ensures l
