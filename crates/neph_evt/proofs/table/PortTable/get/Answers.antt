use Rattle.std.proofs.Common.{◌*◌, ◌+◌, ◌≡◌, ℕ, get_or, sym, ap, ◌∙◌, arith}
use Rattle.std.proofs.lemmas.List.{get_or_default}
use Rattle.std.specs.FinMap as map
use Rattle.neph_evt.specs.PortMap.{PortMap}
use Rattle.neph_evt.specs.Places.{port_in}
use Rattle.neph_evt.proofs.PlaceMaps.{closed_place, get_place, places_within}
use Rattle.neph_evt.proofs.table.PortTable.get.Goals as goal

pub returns-clause-port : goal.returns-clause-port
returns-clause-port c =
    let places = c.self.inside.places.items in
    let at : ℕ = c.args.dom * 256 + c.args.number in
    let same : at ≡ 256 * c.args.dom + c.args.number = omega arith in
    c.port.ensures
    ∙ ap port_in (c.index.ensures ∙ get_or_default places at c.index.result.now closed_place (omega arith) ∙ ap (λ i. get_or places i closed_place) same)
    ∙ sym (get_place places c.args.dom c.args.number (omega arith)) ∙ ap (λ (m : PortMap). map.get m (c.args.dom, c.args.number)) c.self.view_is

pub returns-clause-within : goal.returns-clause-within
returns-clause-within c = rw (← c.self.view_is) (places_within c.self.inside.places.items (omega arith))
