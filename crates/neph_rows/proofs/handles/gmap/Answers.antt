use Rattle.std.proofs.Common.{sym, ap, ◌∙◌}
use Rattle.std.specs.Prelude.{Result, Err}
use Rattle.neph_rows.proofs.EntryRows.{gone_row, none_row, others_row, admitted_row}
use Rattle.neph_rows.proofs.handles.gmap.Goals as goal

pub returns-then-has_ended-clause-row : goal.returns-then-has_ended-clause-row
returns-then-has_ended-clause-row c = λ pages. gone_row c.args.r.now pages c.args.dom c.args.granter c.args.reference (sym c.if-has_ended.true ∙ c.has_ended.ensures pages)

pub returns-in-Ok-clause-row : goal.returns-in-Ok-clause-row
returns-in-Ok-clause-row c = λ pages.
    admitted_row c.args.r.now pages c.args.dom c.args.granter c.args.reference c.in-Ok.field-0-0 c.in-Ok.mode (sym c.if-has_ended.false ∙ c.has_ended.ensures pages) (sym c.in-Ok.is ∙ c.admitted.ensures) ∙ c.map_at.ensures.row pages

pub returns-in-Err-NoEntry-clause-row : goal.returns-in-Err-NoEntry-clause-row
returns-in-Err-NoEntry-clause-row c = λ pages.
    none_row c.args.r.now pages c.args.dom c.args.granter c.args.reference (sym c.if-has_ended.false ∙ c.has_ended.ensures pages) (ap Err (sym c.in-Err-NoEntry.field-0-is) ∙ sym c.in-Err-NoEntry.is ∙ c.admitted.ensures)

pub returns-in-Err-NotYours-clause-row : goal.returns-in-Err-NotYours-clause-row
returns-in-Err-NotYours-clause-row c = λ pages.
    others_row c.args.r.now pages c.args.dom c.args.granter c.args.reference (sym c.if-has_ended.false ∙ c.has_ended.ensures pages) (ap Err (sym c.in-Err-NotYours.field-0-is) ∙ sym c.in-Err-NotYours.is ∙ c.admitted.ensures)
