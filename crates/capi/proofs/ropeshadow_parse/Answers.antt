-- An accepted descriptor fits.
use mathlib.Core.Path.{sym, ap, subst, ◌∙◌}
use Rattle.descriptor.specs.Info.{Parsed}
use Rattle.descriptor.proofs.Laws.{Parses, parsed_answer, parsed_fields}
use Rattle.crossing.specs.Crossing.{Crosses}
use Rattle.crossing.proofs.Bounds.{described_fits}
use Rattle.capi.proofs.Ended.{parse_written, parse_refused}
use Rattle.capi.proofs.ropeshadow_parse.Goals as goal

pub descriptor_bytes-requires : goal.descriptor_bytes-requires
descriptor_bytes-requires c =
    let info = c.args.info.now in
    let scheme = c.args.scheme in
    let h : Parses info scheme = sym (ap (λ (q : Parsed). q.answer) c.in-Ok.ensures ∙ parsed_answer info scheme) in
    let e = ap (λ (q : Parsed). q.fields) c.in-Ok.ensures ∙ parsed_fields info scheme h in
    subst Crosses (sym e) (described_fits info scheme h)

pub returns-in-Ok : goal.returns-in-Ok
returns-in-Ok c = rw (c.word.ensures, c.descriptor_bytes.ensures) (parse_written _ _ _ _ c.in-Ok.ensures)

pub returns-in-Err : goal.returns-in-Err
returns-in-Err c = rw (c.word-in-Err.ensures, c.into.ensures) (parse_refused _ _ _ _ c.in-Err.ensures)
