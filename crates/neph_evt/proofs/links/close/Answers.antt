use Rattle.std.proofs.Common.{ℕ, sym, ap, ◌∙◌}
use Rattle.std.specs.FinMap as map
use Rattle.neph_evt.specs.PortMap.{PortMap, with_each_port}
use Rattle.neph_evt.specs.Pairing.{channel_of}
use Rattle.neph_evt.specs.Closing.{port_after_close}
use Rattle.neph_evt.proofs.Columns.{close_is, close_closed}
use Rattle.neph_evt.proofs.links.close.Goals as goal

pub part-requires-clause-channel : goal.part-requires-clause-channel
part-requires-clause-channel c =
    ap (λ (d : ℕ). channel_of (map.get c.args.table.now (d, c.args.number))) (sym c.get.ensures.value) ∙ ap channel_of (sym c.get-2.ensures.port ∙ c.in-Some.is)

pub returns-in-Some : goal.returns-in-Some
returns-in-Some c =
    c.set.ensures
    ∙ ap (λ (m : PortMap). map.remove m (c.get-in-Some.result, c.args.number)) c.part.ensures
    ∙ ap (λ (d : ℕ). map.remove (with_each_port (λ at. port_after_close c.args.dom c.args.number) c.args.table.now) (d, c.args.number)) c.get-in-Some.ensures.value
    ∙ close_is c.args.table.now c.args.dom c.args.number

pub returns-in_default : goal.returns-in_default
returns-in_default c =
    close_closed c.args.table.now c.args.dom c.args.number c.requires
    (ap (λ (d : ℕ). map.get c.args.table.now (d, c.args.number)) (sym c.get.ensures.value) ∙ sym c.get-2.ensures.port ∙ c.in_default.is)
