use Rattle.std.proofs.Common.{ℕ, ◌%◌, Option, Some, sym, ap, ◌∙◌}
use Rattle.neph_base.specs.declared.command.Command.{Command}
use Rattle.neph_model.specs.declared.memory.Mapping.{Mapping}
use Rattle.neph_model.specs.Step.{call_effect, shared_line}
use Rattle.neph_model.specs.Trap.{r_call}
use Rattle.neph_rows.specs.Records.{shared_of}
use Rattle.neph_rows.specs.Row.{lent_of}
use Rattle.neph_rows.proofs.trap.line.Goals as goal

pub returns-in-R-clause-row : goal.returns-in-R-clause-row
returns-in-R-clause-row g c =
    let sh = shared_of c.args.r.now (g.E.ExposedPages.pages c.args.pages.now) in
    ap (λ (x : Command). shared_line sh c.args.dom (lent_of c.args.lent) c.args.told x) c.in-R.is
    ∙ ap (λ (m : Option Mapping). call_effect sh (r_call sh c.args.dom (c.in-R.addr % 4096) c.in-R.len m)) c.unwrap.ensures
    ∙ ap (λ (at : ℕ). call_effect sh (r_call sh c.args.dom at c.in-R.len (Some c.unwrap.result))) (sym c.offset-in-R.ensures.value)
    ∙ c.r_call.ensures.row c.args.r.now
