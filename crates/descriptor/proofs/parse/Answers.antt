-- The `?` gives the rules' refusal; past it the stream breaks none of them.
use mathlib.Core.Path.{sym}
use Rattle.std.proofs.lemmas.Result.{err_from_is_err_and}
use Rattle.descriptor.specs.Info as stream
use Rattle.descriptor.proofs.Laws.{refused, parses_both}
use Rattle.descriptor.proofs.parse.Goals as goal

pub returns-in_err-answer : goal.returns-in_err-answer
unfolding stream.parse_rules stream.info_rules
returns-in_err-answer c =
    let p = err_from_is_err_and c.from_residual.result c.from_residual.ensures.1 in
    rw (p.1, p.2) (refused c.args.info.now c.args.scheme _ (rw c.numbers_of-numbers.ensures at c.in_err-answer.ensures))

pub described-requires : goal.described-requires
unfolding stream.parse_rules stream.info_rules
described-requires c = (
  c.numbers_of-numbers.ensures,
  (parses_both c.args.info.now c.args.scheme (sym (rw c.numbers_of-numbers.ensures at c.in_ok-answer.ensures))).0,
)
