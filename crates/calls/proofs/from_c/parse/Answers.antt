-- What the function returns and leaves is the definition, which loses nothing.
use Rattle.promises.specs.Calls.{DescriptorOut}
use Rattle.promises.proofs.Outside.{carried, descriptor_out}
use Rattle.calls.proofs.from_c.parse.Goals as goal

pub returns : goal.returns
returns c = carried (DescriptorOut _ _ _) c.ropeshadow_parse.ensures (descriptor_out _ _ _)
