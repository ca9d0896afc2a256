-- What encryption of a block ensures is the definition, of which the demands are proved.
use mathlib.Core.Path.{subst⁻¹}
use Rattle.promises.specs.Calls.{Enciphering}
use Rattle.promises.proofs.Calls.{encrypting}
use Rattle.calls.proofs.entries.encrypt.Goals as goal

pub returns : goal.returns
returns c = subst⁻¹ (Enciphering _ _ _) c.encrypt.ensures (encrypting _ _)
