-- What is read is the part that was written, which the parser gives back and whose password is accepted.
use mathlib.Core.Path.{sym, ◌∙◌}
use borrow.Author.Rules.{rules}
use lib.Seq.{length-take-le}
use Rattle.answers.proofs.Refusals.{size_or_zero}
use Rattle.promises.specs.NewInfo.{Typed}
use Rattle.promises.proofs.NewInfo.{writes}
use Rattle.promises.specs.Calls.{input}
use Rattle.promises.proofs.ThereAndBack.{written_within, read}
use Rattle.calls.proofs.there_and_back.written_and_read.Goals as goal
use Rattle.calls.proofs.there_and_back.written_and_read.Goals.{Start}

typed : (c : Start) → let a = c.args in Typed (input a.bits.0 a.password.now a.name.now a.salt a.verifier a.filling)
typed c = record { salt = search rules; verifier = search rules; filling = search rules }

pub slice_bounds-info-end : goal.slice_bounds-info-end
unfolding writes
slice_bounds-info-end c =
    rw (c.unwrap_or.ensures ∙ size_or_zero c.write_info-written.result) (written_within _ _ (typed (goal.at.slice_bounds-info-end c).Start) _ _ c.write_info-written.ensures)

pub slice_bounds-info-end-2 : goal.slice_bounds-info-end-2
unfolding writes
slice_bounds-info-end-2 c =
    rw (c.unwrap_or.ensures ∙ size_or_zero c.write_info-written.result)
    (sym (length-take-le _ _ (written_within _ _ (typed (goal.at.slice_bounds-info-end-2 c).Start) _ _ c.write_info-written.ensures)))

pub returns : goal.returns
unfolding writes
returns c =
    let n = c.unwrap_or.ensures ∙ size_or_zero c.write_info-written.result in
    read _ _ (typed (goal.at.returns c).Start) _ _ c.write_info-written.ensures _ _ _ (rw n at c.parse.ensures) (rw n at c.verdict.ensures)
