use Rattle.std.proofs.Common.{◌∙◌, ◌+◌, ap, sym, List, drop}
use Rattle.neph_base.specs.declared.command.Command.{Command}
use Rattle.neph_script.proofs.Onto.{onto}
use Rattle.neph_script.specs.Lines.{settled}
use Rattle.neph_script.proofs.Settled.{refused, one_more, at_end}
use Rattle.neph_script.proofs.state.Draft.settled.Goals as goal

pub returns-in-Err : goal.returns-in-Err
returns-in-Err c =
    ap (settled c.args.self.now.labels.items 0) (sym c.deref-said-items.ensures.value)
    ∙ refused c.args.self.now.labels.items c.deref-said-items.result.now c.loop-line.line c.loop-line.commands.items c.said-item.result c.in-Err.why c.loop-line.invariant c.loop-line-test.true c.said-item.is (sym c.in-Err.ensures)

pub loop-line-preserved : goal.loop-line-preserved
loop-line-preserved c =
    one_more c.args.self.now.labels.items c.deref-said-items.result.now c.loop-line.line c.loop-line.commands.items c.said-item.result c.in-Ok.command c.loop-line.invariant c.loop-line-test.true c.said-item.is (sym c.in-Ok.ensures)
    ∙ ap (λ (front : List Command). onto front (settled c.args.self.now.labels.items (c.loop-line.line + 1) (drop (c.loop-line.line + 1) c.deref-said-items.result.now))) (sym c.in_ok-push-in-Ok.ensures.items)

pub returns : goal.returns
returns c = ap (settled c.args.self.now.labels.items 0) (sym c.deref-said-items.ensures.value) ∙ at_end c.args.self.now.labels.items c.deref-said-items.result.now c.loop-line.line c.loop-line.commands.items c.loop-line.invariant c.loop-line-test.false
