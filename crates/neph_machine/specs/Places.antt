-- What stands in the places of the ids.
use Rattle.std.specs.Prelude.{ℕ, Bool, true, false, List, slice_index_or}
use Rattle.neph_machine.specs.declared.place.Place.{Place}
use Rattle.neph_machine.specs.declared.place.Place.TheVariants.{Empty, Flight, Domain}

-- what stands in the place of an id
abbrev pub place_at : {Pool Seat : Type 0} → ℕ → List (Place Pool Seat) → Place Pool Seat
place_at id places = slice_index_or places id Empty

-- no seat but the hypervisor's has the id of this place for a name
abbrev pub is_empty : {Pool Seat : Type 0} → Place Pool Seat → Bool
is_empty Empty = true
is_empty (Flight f) = false
is_empty (Domain l) = false

-- a child in flight stands there
abbrev pub IsFlying : {Pool Seat : Type 0} → Place Pool Seat → Type 0
IsFlying Empty = ⊥
IsFlying (Flight f) = Unit {0}
IsFlying (Domain l) = ⊥

-- a live domain stands there
abbrev pub IsLive : {Pool Seat : Type 0} → Place Pool Seat → Type 0
IsLive Empty = ⊥
IsLive (Flight f) = ⊥
IsLive (Domain l) = Unit {0}
