-- The size fits, and the counts are written beside it.
use Rattle.capi.specs.Capi.{three_numbers}
use Rattle.capi.proofs.Sizes.{rescue_held}
use Rattle.capi.proofs.Ended.{rescue_done, rescue_refused}
use Rattle.capi.proofs.ropeshadow_rescue.Goals as goal

pub word-requires : goal.word-requires
word-requires c = rescue_held _ _ _ _ _ c.in-Ok.ensures

pub returns-in-Ok : goal.returns-in-Ok
unfolding three_numbers
returns-in-Ok c = rw c.word.ensures (rescue_done _ _ _ _ _ _ c.in-Ok.ensures)

pub returns-in-Err : goal.returns-in-Err
returns-in-Err c = rw (c.word-in-Err.ensures, c.into.ensures) (rescue_refused _ _ _ _ _ _ c.in-Err.ensures)
