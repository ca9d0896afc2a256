-- What the sealer ensures is the definition, of which the demands are proved.
use mathlib.Core.Path.{◌≡◌, subst⁻¹}
use borrow.Author.Rules.{rules}
use lib.ListN.{length}
use Rattle.promises.specs.Calls.{Sealing}
use Rattle.promises.proofs.Calls.{sealing}
use Rattle.calls.proofs.entries.seal.Goals as goal
use Rattle.calls.proofs.entries.seal.Goals.{Start}

sixteen : (c : Start) → length c.args.filling ≡ 16
sixteen c = search rules

pub returns : goal.returns
returns c =
    subst⁻¹ (Sealing _ _ _ _ _) c.seal.ensures (sealing _ _ _ _ _ (sixteen (goal.at.returns c).Start))
