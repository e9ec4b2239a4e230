-- A domain and its child in flight, which stand in their places.
use Rattle.std.proofs.Common.{◌≡◌, ◌≢◌, ℕ, ◌<◌, [], ◌∷◌, None, refl, sym, ap, subst, ◌∙◌}
use Rattle.neph_model.specs.declared.book.Stage.{Stage}
use Rattle.neph_model.specs.declared.book.Stage.TheVariants as book
use Rattle.neph_model.specs.Books.{State}
use Rattle.neph_runs.specs.Orderly.{seat as part_at}
use Rattle.neph_pool.specs.Names.{only_name, both_names}
use Rattle.neph_pool.specs.World.{World}
use Rattle.neph_local.specs.Forks.{IsForkInHand}
use Rattle.neph_guest.specs.declared.live.Live.{Live}
use Rattle.neph_guest.specs.declared.live.Stage.TheVariants as guest
use Rattle.neph_machine.specs.declared.place.Place.{Place}
use Rattle.neph_machine.specs.declared.place.Place.TheVariants.{Flight as InFlight, Domain}
use Rattle.neph_machine.specs.declared.place.Flight.{Flight}
use Rattle.neph_machine.specs.declared.machine.Machine.{Machine}
use Rattle.neph_machine.specs.Places.{place_at}
use Rattle.neph_machine.specs.StandsFor.{HasNone, left_from, IsAtStage, IsInFlight, IsDomain, IsForkIn, IsFlight, StandsFor}
use Rattle.neph_machine.proofs.Reached.{IsReached}
use Rattle.neph_machine.proofs.Accounts.{seated, domain_at, flight_at, domain_small, flight_small}
use Rattle.neph_machine.proofs.Carrying.{same_flight}
use Rattle.neph_machine.proofs.OnePlace.{no_flight}

-- The domain l and its child in flight f stand in their places.
pub record IsPair {Pool Seat : Type 0} (m : Machine Pool Seat) (id child : ℕ) (l : Live Pool Seat)
    (f : Flight Pool Seat) : Type 0 where
  pub here : place_at id m.places.items ≡ Domain l
  pub flies : place_at child m.places.items ≡ InFlight f
  pub parent : f.parent ≡ id
  pub forking : l.guest.stage ≡ guest.Forking

module _ {Pool Seat : Type 0} (W : World Pool Seat) (m : Machine Pool Seat) (st : State)
    (reached : IsReached m.script st) (stands : StandsFor W m st) (id child : ℕ)
    (l : Live Pool Seat) (f : Flight Pool Seat) (both : IsPair m id child l f) where
  pub domain : IsDomain W m id l (part_at st id)
  domain = domain_at W m st reached (seated W m st stands) id l both.here

  pub flight : IsFlight W m child f (part_at st f.parent)
  flight = (flight_at W m st reached (seated W m st stands) child f both.flies).1

  pub none_yet : HasNone m.hv.heap.stock child (part_at st child)
  none_yet = (flight_at W m st reached (seated W m st stands) child f both.flies).0

  pub within : id < 64
  within = domain_small W m st reached (seated W m st stands) id l both.here

  pub below : child < 64
  below = flight_small W m st reached (seated W m st stands) child f both.flies

  pub far : child ≢ id
  far e = no_flight l f (sym both.here ∙ ap (λ (i : ℕ). place_at i m.places.items) (sym e) ∙ both.flies)

  pub begun : (part_at st id).guest.begun ≡ child ∷ []
  begun = ap (λ (i : ℕ). (part_at st i).guest.begun) (sym both.parent) ∙ flight.begun

  pub fork : IsForkInHand W m.pool l.local f.fork
  fork = subst (λ (place : Place Pool Seat). IsForkIn W m place f)
      (ap (λ (i : ℕ). place_at i m.places.items) both.parent ∙ both.here) flight.fork

  pub names_are : both_names (W.names l.local.seat) (W.names f.fork.seat)
      ≡ both_names (only_name id) (only_name child)
  names_are = ap (λ (ns : ℕ → _). both_names ns (W.names f.fork.seat))
      (domain.stands.names ∙ ap only_name domain.id_is)
      ∙ ap (λ (ns : ℕ → _). both_names (only_name id) ns)
      (fork.forks.names ∙ ap only_name flight.child)

  -- the flight that the domain's stage tells of is this
  flight_same : (left : ℕ) (i : IsInFlight W m id l (part_at st id) left) → i.flight ≡ f
  flight_same left i = same_flight i.flight f
      (sym i.there ∙ ap (λ (j : ℕ). place_at j m.places.items) child_same ∙ both.flies)
    where
      child_same : i.child ≡ child
      child_same = let e : i.child ∷ [] ≡ child ∷ [] = sym i.begun ∙ begun in cc

  at_stage : (stage : Stage) → IsAtStage W m id l (part_at st id) stage
      → (n : ℕ) × (stage ≡ book.Forking n) × (n ≡ left_from (part_at st id).own f.fork.next)
      × (l.local.hand ≡ None)
  at_stage book.Ready h = absurd (no_ready h.0) where
    no_ready : l.guest.stage ≡ guest.Ready → ⊥
    no_ready e = let x : guest.Forking ≡ guest.Ready = sym both.forking ∙ e in cc
  at_stage book.Copying h = absurd (no_copy h.0) where
    no_copy : l.guest.stage ≡ guest.Copying → ⊥
    no_copy e = let x : guest.Forking ≡ guest.Copying = sym both.forking ∙ e in cc
  at_stage (book.Forking n) h = (
    n,
    refl,
    h.2.left_is
        ∙ ap (λ (x : Flight Pool Seat). left_from (part_at st id).own x.fork.next)
        (flight_same n h.2),
    h.1,
  )

  -- the book tells of the page steps that are left
  pub forks : (n : ℕ) × ((part_at st id).book.stage ≡ book.Forking n)
      × (n ≡ left_from (part_at st id).own f.fork.next) × (l.local.hand ≡ None)
  forks = at_stage (part_at st id).book.stage domain.stage
