-- What decryption of a block ensures is the definition, of which the demands are proved.
use mathlib.Core.Path.{subst⁻¹}
use Rattle.promises.specs.Calls.{Enciphering}
use Rattle.promises.proofs.Calls.{decrypting}
use Rattle.calls.proofs.entries.decrypt.Goals as goal

pub returns : goal.returns
returns c = subst⁻¹ (Enciphering _ _ _) c.decrypt.ensures (decrypting _ _)
