use Rattle.std.proofs.Common.{◌≡◌, ℕ, subst, ap, ◌∙◌, arith}
use Rattle.neph_evt.specs.PortMap.{PortMap}
use Rattle.neph_evt.specs.Closing.{after_end}
use Rattle.neph_evt.proofs.PlaceMaps.{places_within}
use Rattle.neph_evt.proofs.Ends.{EndedBelow, ended_all}
use Rattle.neph_evt.proofs.table.PortTable.end.Goals as goal

pub returns-clause-ports : goal.returns-clause-ports
returns-clause-ports c =
    let old = c.self.inside.places.items in
    let new = c.loop-at.self-inside.places.items in
    let whole : c.loop-at.at ≡ 16384 = omega arith in
    let all : EndedBelow c.args.dom 16384 old new = subst (λ (k : ℕ). EndedBelow c.args.dom k old new) whole c.loop-at.invariant in
    ended_all c.args.dom old new (omega arith) all ∙ ap (λ (m : PortMap). after_end m c.args.dom) c.self.view_is

pub returns-clause-within : goal.returns-clause-within
returns-clause-within c = places_within c.loop-at.self-inside.places.items c.loop-at.invariant.size
