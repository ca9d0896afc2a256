-- The rules on the stream's lengths, then the rule on room.
use mathlib.Core.Path.{sym, ◌∙◌}
use Rattle.std.proofs.lemmas.Result.{err_from_is_err_and}
use Rattle.answers.proofs.Laws.{after_none}
use Rattle.answers.proofs.Refusals.{stops}
use Rattle.sheet.proofs.Lengths.{stream_in_turn}
use Rattle.sheet.proofs.stream_answer.Goals as goal

pub returns-in_err-stream_answer : goal.returns-in_err-stream_answer
returns-in_err-stream_answer c =
    let p = err_from_is_err_and c.from_residual.result c.from_residual.ensures.1 in
    rw (p.1, p.2) (stops _ _ (rw c.stream_size-size.ensures at c.in_err-stream_answer.ensures) _ ∙ sym (stream_in_turn _ _))

pub returns : goal.returns
returns c =
    let z = c.stream_size-size.ensures in
    c.room_answer.ensures ∙ rw z (sym (stream_in_turn _ _ ∙ after_none _ _ (sym (rw z at c.in_ok-stream_answer.ensures))))
