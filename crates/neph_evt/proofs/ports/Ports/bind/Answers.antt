use Rattle.std.proofs.Common.{Ok, sym, ap, subst, ◌∙◌}
use Rattle.neph_evt.specs.Pairing.{IsPaired}
use Rattle.neph_evt.proofs.Keeping.{paired_bind}
use Rattle.neph_evt.proofs.ports.Ports.bind.Goals as goal

pub invariant_of-self : goal.invariant_of-self
invariant_of-self c =
    subst IsPaired (sym c.bind.ensures)
    (paired_bind c.self.inside.table c.args.d c.get.result c.args.dom c.get-number.result (sym c.bind_answer.ensures ∙ c.in_ok-own.was ∙ ap Ok (sym c.get.ensures.value)) c.self.invariant)
