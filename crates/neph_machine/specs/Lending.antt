-- What the places end as, where a `&mut` to the domain in one of them is returned.
use Rattle.std.specs.Prelude.{ℕ}
use Rattle.std.specs.Borrow.{Lends, Fml, RattleType, MutBor}
use Rattle.std.specs.Vec.{with_item}
use Rattle.std.specs.contracts.alloc.Global as global
use Rattle.std.specs.contracts.vec.Vec as vec
use Rattle.std.specs.contracts.impls.GlobalAllocator.TheImpl.{ghosts}
use Rattle.neph_guest.specs.contracts.live.Live as live
use Rattle.neph_machine.specs.contracts.place.Place as place
use Rattle.neph_machine.specs.declared.place.Place.TheVariants.{Domain}

module _ (P Seat : RattleType) where
  -- the places, as the logic holds them
  abbrev pub places_row : RattleType
  places_row = vec.the_row (place.the_row P Seat) global.the_row ghosts

  -- the places end with the domain last written through r in the place of the id
  abbrev pub LendsLive : MutBor places_row.Denot → ℕ → MutBor (live.the_row P Seat).Denot → Fml
  LendsLive places id r =
      Lends places_row (live.the_row P Seat) places r (λ w. with_item places.now id (Domain w))
