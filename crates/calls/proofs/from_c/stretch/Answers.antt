-- What the function returns and leaves is the definition, which loses nothing.
use Rattle.promises.specs.Calls.{Stretching}
use Rattle.promises.proofs.Outside.{carried, stretch_out}
use Rattle.calls.proofs.from_c.stretch.Goals as goal

pub returns : goal.returns
returns c = carried (Stretching _ _ _ _ _) c.ropeshadow_stretch.ensures (stretch_out _ _ _ _ _)
