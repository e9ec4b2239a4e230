use Rattle.std.proofs.Common.{sym, subst, ◌∙◌}
use Rattle.neph_evt.specs.Pairing.{IsPaired}
use Rattle.neph_evt.proofs.Keeping.{least_is_closed, paired_alloc}
use Rattle.std.specs.FinMap as map
use Rattle.neph_evt.proofs.ports.Ports.alloc.Goals as goal

pub invariant_of-self : goal.invariant_of-self
invariant_of-self c =
    let ports = c.self.inside.table in
    let closed = least_is_closed ports c.args.d c.in_ok-own.own (sym c.least_closed.ensures ∙ c.in_ok-own.was) in
    subst IsPaired (sym (c.set.ensures ∙ (λ i. map.insert ports (c.get.ensures.value i, c.get-2.ensures.value i) (c.new_port.ensures i))))
    (paired_alloc ports c.args.d c.in_ok-own.own c.args.remote closed c.self.invariant)
