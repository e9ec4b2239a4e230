use Rattle.std.proofs.Common.{◌≡◌, sym, ap, subst, ◌∙◌}
use Rattle.std.specs.FinMap as map
use Rattle.neph_evt.specs.PortMap.{PortMap}
use Rattle.neph_evt.specs.Pairing.{IsPaired}
use Rattle.neph_evt.specs.Cloning.{with_child}
use Rattle.neph_evt.proofs.Changes.{get_end_own}
use Rattle.neph_evt.specs.Opening.{AllClosed}
use Rattle.neph_evt.proofs.Fresh.{clone_of_none}
use Rattle.neph_evt.proofs.Pairs.{paired_clone}
use Rattle.neph_evt.proofs.ports.Ports.clone_ports.Goals as goal

pub copy-requires-clause-closed : goal.copy-requires-clause-closed
copy-requires-clause-closed c = λ n. ap (λ (m : PortMap). map.get m (c.args.child, n)) c.end.ensures.ports ∙ get_end_own c.self.inside.table c.args.child n

pub invariant_of-self : goal.invariant_of-self
invariant_of-self c =
    subst IsPaired (sym (c.copy.ensures ∙ ap (with_child c.args.parent c.args.child) c.end.ensures.ports)) (paired_clone c.self.inside.table c.args.parent c.args.child c.requires c.self.invariant)

pub returns-clause-fresh : goal.returns-clause-fresh
returns-clause-fresh c =
    subst (λ (m : PortMap). AllClosed m c.args.child → c.copy.new.table ≡ with_child c.args.parent c.args.child m) c.self.view_is
    (λ none. c.copy.ensures ∙ ap (with_child c.args.parent c.args.child) c.end.ensures.ports ∙ clone_of_none c.self.inside.table c.args.parent c.args.child c.self.invariant none)
