use Rattle.std.proofs.Common.{◌≡◌, ap, subst, ◌∙◌}
use Rattle.neph_evt.specs.PortMap.{PortMap}
use Rattle.neph_evt.specs.Cloning.{IsFresh, with_device, with_links}
use Rattle.neph_evt.proofs.Fresh.{start_fresh}
use Rattle.neph_evt.proofs.ports.Ports.start.Goals as goal

pub returns-clause-fresh : goal.returns-clause-fresh
returns-clause-fresh c =
    let d = c.args.d in
    let ports = c.connect-3.ensures.ports ∙ ap (with_device d 3) (c.connect-2.ensures.ports ∙ ap (with_device d 2) c.connect.ensures.ports) in
    subst (λ (m : PortMap). IsFresh m d → c.connect-3.new.table ≡ with_links d m) c.self.view_is
    (λ fresh. ports ∙ start_fresh c.self.inside.table d c.requires c.self.invariant fresh)
