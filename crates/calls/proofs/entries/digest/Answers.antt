-- What the hash ensures is the definition, of which the demands are proved.
use mathlib.Core.Path.{subst⁻¹}
use Rattle.promises.specs.Calls.{Hashing}
use Rattle.promises.proofs.Calls.{hashing}
use Rattle.calls.proofs.entries.digest.Goals as goal

pub returns : goal.returns
returns c = subst⁻¹ (Hashing _) c.digest.ensures (hashing _)
