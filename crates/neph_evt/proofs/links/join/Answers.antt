use Rattle.std.proofs.Common.{sym, ap, subst, ◌∙◌}
use Rattle.neph_evt.specs.PortMap.{PortMap}
use Rattle.neph_evt.specs.Pairing.{IsPaired}
use Rattle.neph_evt.specs.Closing.{after_close}
use Rattle.neph_evt.specs.Cloning.{with_pair}
use Rattle.neph_evt.proofs.Columns.{same_insert}
use Rattle.neph_evt.proofs.Pairs.{paired_close, paired_pair}
use Rattle.neph_evt.proofs.links.join.Goals as goal

pub close-requires-2 : goal.close-requires-2
close-requires-2 c = subst IsPaired (sym c.close.ensures) (paired_close c.args.table.now c.args.a c.args.p c.requires)

pub returns-clause-ports : goal.returns-clause-ports
unfolding with_pair
returns-clause-ports c =
    let closed = c.close-2.ensures ∙ ap (λ (m : PortMap). after_close m c.args.b c.args.q) c.close.ensures in
    c.set-2.ensures ∙ same_insert c.args.q (c.set.ensures ∙ same_insert c.args.p closed c.get.ensures.value c.bound_port.ensures) c.get-2.ensures.value c.bound_port-2.ensures

pub returns-clause-paired : goal.returns-clause-paired
unfolding with_pair
returns-clause-paired c =
    let closed = c.close-2.ensures ∙ ap (λ (m : PortMap). after_close m c.args.b c.args.q) c.close.ensures in
    let ports = c.set-2.ensures ∙ same_insert c.args.q (c.set.ensures ∙ same_insert c.args.p closed c.get.ensures.value c.bound_port.ensures) c.get-2.ensures.value c.bound_port-2.ensures in
    subst IsPaired (sym ports) (paired_pair c.args.table.now c.args.a c.args.p c.args.b c.args.q c.requires)
