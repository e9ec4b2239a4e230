use Rattle.std.proofs.Common.{◌≡◌, ℕ, replicate, ap, ◌∙◌, arith}
use Rattle.neph_machine.specs.declared.place.Place.{Place}
use Rattle.neph_machine.specs.declared.place.Place.TheVariants.{Empty}
use Rattle.neph_boot.proofs.blank.no_places.Goals as goal

pub returns : goal.returns
returns g c =
    let all : c.loop.counter ≡ 64 = omega arith in
    c.loop.invariant ∙ ap (λ (k : ℕ). replicate {A = Place g.row.P.Denot g.row.P-Seat.Denot} k Empty) all
