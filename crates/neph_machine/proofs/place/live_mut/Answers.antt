use Rattle.std.proofs.Common.{refl, sym, ap, ◌∙◌, arith}
use Rattle.std.specs.Vec.{with_item}
use Rattle.neph_machine.specs.declared.place.Place.TheVariants.{Domain}
use Rattle.neph_machine.proofs.Found.{place_is}
use Rattle.neph_machine.proofs.place.live_mut.Goals as goal

pub returns : goal.returns
returns g c =
    let places = c.args.places.now in
    let here = place_is places.items c.args.id c.get.result c.index_mut.result.now _ c.get.ensures.value (omega (arith, c.get.ensures.range, c.get.ensures.value, c.requires.places, places.ok.0)) c.index_mut.ensures.value c.in-Domain.is in (
      (refl, λ w. rw c.in-Domain.is (ap (λ i. with_item places i (Domain w)) c.get.ensures.value)),
      record { writes_back = tt; here = here ∙ ap Domain (sym c.in-Domain.live-is) },
    )
