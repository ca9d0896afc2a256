-- The part of the output that is written is as long as the reply says, and lies within it.
use Rattle.std.proofs.Common.{◌≤◌, length, arith, sym, ◌∙◌}
use Rattle.std.proofs.lemmas.List.{length-take-le}
use Rattle.answers.specs.Refusals.{reply_of}
use Rattle.answers.proofs.Refusals.{size_or_zero}
use Rattle.program.proofs.Laws.{opens_within}
use Rattle.program.proofs.run.Goals as goal

pub slice_bounds-out-end : goal.slice_bounds-out-end
slice_bounds-out-end g c =
    rw (c.unwrap_or.ensures ∙ size_or_zero c.open_files-opened.result) (omega (arith, opens_within c.open_files-opened.ensures, c.open_files-opened.auto.out))

pub slice_bounds-sheet-end : goal.slice_bounds-sheet-end
slice_bounds-sheet-end g c =
    let within : (reply_of c.open_files-opened.result).size ≤ length c.open_files-opened.new.out =
    omega (arith, opens_within c.open_files-opened.ensures, c.open_files-opened.auto.out) in
    rw (c.unwrap_or.ensures ∙ size_or_zero c.open_files-opened.result) (sym (length-take-le _ _ within))
