-- Where each seat has the frames of its pages to itself, no two pages lie in one frame, as at the
-- start of a script.
use Rattle.std.proofs.Common.{◌≡◌, ℕ, zero, suc, ◌<◌, ◌≤◌, List, [], ◌∷◌, get_or, IfSome, Some, None, refl, ap, subst, arith}
use Rattle.std.specs.declared.option.Option.{Option}
use Rattle.neph_model.specs.Books.{State}
use Rattle.neph_pool.specs.Entries.{IsSoleAt}
use Rattle.neph_pool.specs.World.{World}
use Rattle.neph_memory.specs.Pages.{frame_at}
use Rattle.neph_guest.specs.declared.live.Live.{Live}
use Rattle.neph_heap.specs.Heap.{own_frames}
use Rattle.neph_heap.proofs.Heaps.{times_own}
use Rattle.neph_heap.proofs.Steps.{has_sole}
use Rattle.neph_accounts.specs.Holdings.{times}
use Rattle.neph_accounts.specs.Places.{Place as Held, holding_of}
use Rattle.neph_accounts.specs.Accounts.{Account, account_at, pages_on, seats_in, places}
use Rattle.neph_accounts.proofs.Bare.{sole_once}
use Rattle.neph_machine.specs.declared.place.Place.{Place}
use Rattle.neph_machine.specs.declared.place.Place.TheVariants.{Empty, Flight as InFlight, Domain}
use Rattle.neph_machine.specs.declared.machine.Machine.{Machine}
use Rattle.neph_machine.specs.Places.{place_at}
use Rattle.neph_machine.specs.Rows.{rows_of}
use Rattle.neph_machine.specs.Surveyed.{IsSurveyed}
use Rattle.neph_machine.proofs.Reached.{IsReached}
use Rattle.neph_machine.proofs.Listed.{page_frame}
use Rattle.neph_machine.proofs.Accounts.{AreSeated, domain_in, heap_place, account, accounts, all_accounts, rows_are}
use Rattle.neph_machine.proofs.Seated.{are_surveyed}
use Rattle.neph_machine.proofs.Ordered.{are_accounts}

-- what holds of the seats of all accounts
in_seats : {Seat : Type 0} (P : Option (Held Seat) → Type 0) → P None → (us : List (Account Seat))
    → ((id : ℕ) → P (account_at id us).domain) → ((id : ℕ) → P (account_at id us).flight) → (i : ℕ)
    → P (get_or (seats_in us) i None)
in_seats P none [] a b i = none
in_seats P none (u ∷ us) a b zero = a zero
in_seats P none (u ∷ us) a b (suc zero) = b zero
in_seats P none (u ∷ us) a b (suc (suc i)) =
    in_seats P none us (λ id. a (suc id)) (λ id. b (suc id)) i

module _ {Pool Seat : Type 0} (W : World Pool Seat) (m : Machine Pool Seat) (st : State)
    (reached : IsReached m.script st) (stands : AreSeated W m st) (survey : IsSurveyed W)
    (sole : (id : ℕ) (l : Live Pool Seat) → place_at id m.places.items ≡ Domain l → (pfn f : ℕ)
    → frame_at l.local.own.map.pages pfn ≡ Some f
    → IsSoleAt (W.entries m.pool l.local.seat) f) where
  abbrev us : List (Account Seat)
  us = accounts W m st

  abbrev HasSole : ℕ → Option (Held Seat) → Type 0
  HasSole f o =
      IfSome o (λ x. 0 < times f x.holding.pages → IsSoleAt (W.entries m.pool x.seat) f)

  no_pages : (f : ℕ) (o : Option (Held Seat)) → (holding_of o).pages ≡ [] → HasSole f o
  no_pages f None e = tt
  no_pages f (Some x) e = λ lt. absurd
      (let z : times f x.holding.pages ≡ 0 = ap (times f) e in omega (arith, z, lt))

  heap_sole : (f : ℕ) → HasSole f (Some (heap_place W m))
  heap_sole f = λ lt. has_sole (W.entries m.pool m.hv.heap.seat) []
      (own_frames m.hv.heap.stock []) m.hv.heap.stock.free stands.heap.has f
      (omega (arith, lt, times_own f m.hv.heap.stock []))

  domain_sole : (f id : ℕ) → HasSole f (account W m st id).domain
  domain_sole f id = by (place_at id m.places.items) refl where
    by : (x : Place Pool Seat) → place_at id m.places.items ≡ x → HasSole f (domain_in W m x)
    by Empty e = tt
    by (InFlight g) e = tt
    by (Domain l) e = λ lt. let t = page_frame l.local.own.map.pages f lt in sole id l e t.0 f t.1

  seat_sole : (i f : ℕ) → HasSole f (get_or (places (heap_place W m) us) i None)
  seat_sole zero f = heap_sole f
  seat_sole (suc i) f = in_seats (HasSole f) tt us
      (all_accounts W m st (λ id a. HasSole f a.domain) (λ id. tt) (λ id lt. domain_sole f id))
      (λ id. no_pages f (account_at id us).flight
      ((are_accounts W m st reached stands).each id).flight_pages) i

  -- each frame is under one page at most
  pub frames_once : (f : ℕ) → pages_on (rows_of m) f ≤ 1
  frames_once f =
      subst (λ (rs : List (List ℕ)). pages_on rs f ≤ 1) (rows_are W m st)
      (sole_once W m.pool (heap_place W m) us (are_surveyed W m st reached stands survey)
      (are_accounts W m st reached stands) seat_sole f)
