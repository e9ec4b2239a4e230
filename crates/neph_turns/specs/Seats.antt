-- The seats of the domains that stand in places.
use Rattle.std.specs.Prelude.{ℕ, Bool, false, ◌≡◌}
use Rattle.neph_pool.specs.Names.{only_name}
use Rattle.neph_pool.specs.World.{World}
use Rattle.neph_memory.specs.Domains.{IsStanding}
use Rattle.neph_machine.specs.declared.place.Place.{Place}
use Rattle.neph_machine.specs.declared.place.Place.TheVariants.{Empty, Flight, Domain}

module _ {Pool Seat : Type 0} (W : World Pool Seat) where
  -- the memory of the domain in the place of an id stands, and its seat has the id for its only
  -- name
  abbrev pub StandsIn : Pool → ℕ → Place Pool Seat → Type 0
  StandsIn p id Empty = Unit {0}
  StandsIn p id (Flight f) = Unit {0}
  StandsIn p id (Domain l) = IsStanding W p l.local × (W.names l.local.seat ≡ only_name id)

  -- the names of the seat of the domain in a place, if one stands there
  abbrev pub seat_names : Place Pool Seat → ℕ → Bool
  seat_names Empty d = false
  seat_names (Flight f) d = false
  seat_names (Domain l) d = W.names l.local.seat d
