-- What the writer ensures is the definition, of which its promise is proved.
use mathlib.Core.Path.{subst⁻¹}
use borrow.Author.Rules.{rules}
use Rattle.promises.specs.NewInfo.{Typed}
use Rattle.promises.proofs.NewInfo.{writes}
use Rattle.promises.specs.Calls.{Writing, input}
use Rattle.promises.proofs.Calls.{writing}
use Rattle.calls.proofs.entries.write_info.Goals as goal
use Rattle.calls.proofs.entries.write_info.Goals.{Start}

typed : (c : Start) → let a = c.args in Typed (input a.bits.0 a.password.now a.name.now a.salt a.verifier a.filling)
typed c = record { salt = search rules; verifier = search rules; filling = search rules }

pub returns : goal.returns
unfolding writes
returns c =
    subst⁻¹ (Writing _ _) c.write_info.ensures (writing _ _ (typed (goal.at.returns c).Start))
