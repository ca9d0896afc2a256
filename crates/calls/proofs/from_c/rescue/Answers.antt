-- What the function returns and leaves is the definition, which loses nothing.
use Rattle.promises.specs.Calls.{Rescuing}
use Rattle.promises.proofs.Outside.{carried_counts, rescue_out}
use Rattle.calls.proofs.from_c.rescue.Goals as goal

pub returns : goal.returns
returns c = carried_counts (Rescuing _ _ _ _) c.ropeshadow_rescue.ensures (rescue_out _ _ _ _)
