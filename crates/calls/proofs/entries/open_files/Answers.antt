-- What the opener of files ensures is the definition, of which the demands are proved.
use mathlib.Core.Path.{subst⁻¹}
use Rattle.promises.specs.Calls.{FilesOpening}
use Rattle.promises.proofs.Calls.{opening_files}
use Rattle.calls.proofs.entries.open_files.Goals as goal

pub returns : goal.returns
returns c = subst⁻¹ (FilesOpening _ _ _ _) c.«open».ensures (opening_files _ _ _ _)
