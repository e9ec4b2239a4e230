use Rattle.std.proofs.Common.{ℕ, sym, ap, subst, ◌∙◌}
use Rattle.std.specs.FinMap as map
use Rattle.neph_evt.specs.PortMap.{PortMap}
use Rattle.neph_evt.specs.Pairing.{IsPaired}
use Rattle.neph_evt.specs.Closing.{after_close}
use Rattle.neph_evt.proofs.Pairs.{paired_close}
use Rattle.neph_evt.proofs.Columns.{close_closed}
use Rattle.neph_evt.proofs.Keeping.{none_of}
use Rattle.neph_evt.proofs.ports.Ports.close.Goals as goal

pub invariant_of-self : goal.invariant_of-self
invariant_of-self c = subst IsPaired (sym c.close.ensures) (paired_close c.self.inside.table c.args.d c.get-number.result c.self.invariant)

pub returns-else-was_open-clause-ports : goal.returns-else-was_open-clause-ports
returns-else-was_open-clause-ports c =
    let ports = c.self.inside.table in
    let none = none_of c.get-2.result (sym c.is_some-was_open.ensures ∙ c.if-was_open.false) in
    sym c.self.view_is
    ∙ close_closed ports c.args.d c.get-number.result c.self.invariant (ap (λ (d : ℕ). map.get ports (d, c.get-number.result)) (sym c.get.ensures.value) ∙ sym c.get-2.ensures.port ∙ none)
    ∙ ap (λ (m : PortMap). after_close m c.args.d c.get-number.result) c.self.view_is ∙ ap (after_close c.args.self.now c.args.d) c.get-number.ensures.value
