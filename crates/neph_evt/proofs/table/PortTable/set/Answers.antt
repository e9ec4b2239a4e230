use Rattle.std.proofs.Common.{◌*◌, ◌+◌, ℕ, set, ap, ◌∙◌, arith}
use Rattle.neph_evt.specs.PortMap.{PortMap, with_slot}
use Rattle.neph_evt.specs.Places.{map_of}
use Rattle.neph_evt.specs.declared.table.Place.{Place}
use Rattle.neph_evt.proofs.PlaceMaps.{map_of-set}
use Rattle.neph_evt.proofs.table.PortTable.set.Goals as goal

pub returns : goal.returns
returns c =
    let places = c.self.inside.places.items in
    let at : ℕ = c.args.dom * 256 + c.args.number in
    ap (λ (p : Place). map_of (set places at p)) c.of.ensures
    ∙ map_of-set places c.args.dom c.args.number at c.args.to (omega arith) (omega arith) (omega arith)
    ∙ ap (λ (m : PortMap). with_slot m c.args.dom c.args.number c.args.to) c.self.view_is
