-- How far the domain is that stands in a place.
use Rattle.std.specs.Prelude.{◌≡◌, ◌≢◌, ℕ, Option, None, Some}
use Rattle.neph_guest.specs.declared.live.Live.{Live}
use Rattle.neph_guest.specs.declared.live.Stage.{Stage}
use Rattle.neph_guest.specs.declared.live.Stage.TheVariants.{Forking}
use Rattle.neph_machine.specs.declared.place.Place.{Place}
use Rattle.neph_machine.specs.declared.place.Place.TheVariants.{Empty, Flight, Domain}
use Rattle.neph_machine.specs.declared.machine.Machine.{Machine}
use Rattle.neph_machine.specs.Places.{place_at}

-- how far the domain in a place is with its line, where one stands there
abbrev pub stage_in : {Pool Seat : Type 0} → Place Pool Seat → Option Stage
stage_in Empty = None
stage_in (Flight f) = None
stage_in (Domain l) = Some l.guest.stage

-- a live domain of this id has begun no clone
pub record IsAtLine {Pool Seat : Type 0} (m : Machine Pool Seat) (id : ℕ) : Type 0 where
  pub live : Live Pool Seat
  pub here : place_at id m.places.items ≡ Domain live
  pub calm : live.guest.stage ≢ Forking
