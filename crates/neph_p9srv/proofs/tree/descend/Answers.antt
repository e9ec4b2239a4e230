use Rattle.std.proofs.Common.{sym, ap, ◌∙◌}
use Rattle.neph_p9srv.specs.State.{child}
use Rattle.neph_p9srv.proofs.EntryLemmas.{child_range, descend_none, descend_some, descend_end}
use Rattle.neph_p9srv.proofs.tree.descend.Goals as goal

pub returns-in-None-clause-value : goal.returns-in-None-clause-value
returns-in-None-clause-value c =
    sym (descend_none c.args.nodes.now c.loop-name.at c.args.names.now c.loop-name.name-index c.name-item.result c.loop-name-test.true c.name-item.is
    (ap (child c.args.nodes.now c.loop-name.at) (sym c.items.ensures) ∙ sym c.in-None.ensures)) ∙ c.loop-name.invariant.1

pub loop-name-preserved : goal.loop-name-preserved
loop-name-preserved c =
    let found = ap (child c.args.nodes.now c.loop-name.at) (sym c.items.ensures) ∙ sym c.in-Some.ensures in (
      child_range c.args.nodes.now c.loop-name.at c.name-item.result c.in-Some.n found,
      sym (descend_some c.args.nodes.now c.loop-name.at c.args.names.now c.loop-name.name-index c.name-item.result c.in-Some.n c.loop-name-test.true c.name-item.is found) ∙ c.loop-name.invariant.1,
    )

pub returns-clause-value : goal.returns-clause-value
returns-clause-value c = sym (descend_end c.args.nodes.now c.loop-name.at c.args.names.now c.loop-name.name-index c.loop-name-test.false) ∙ c.loop-name.invariant.1
