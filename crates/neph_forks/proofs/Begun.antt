-- The child of a clone in flight, in the machine that stands for a state.
use Rattle.std.proofs.Common.{◌≡◌, ℕ, List, [], ◌∷◌, Some, sym, ap, subst, ◌∙◌}
use Rattle.std.specs.Prelude.{slice_get}
use Rattle.neph_model.specs.declared.book.Stage.{Stage}
use Rattle.neph_model.specs.declared.book.Stage.TheVariants as book
use Rattle.neph_model.specs.Machine.{Shared, guest_at}
use Rattle.neph_model.specs.Books.{State}
use Rattle.neph_runs.specs.Orderly.{seat as part_at}
use Rattle.neph_pool.specs.World.{World}
use Rattle.neph_guest.specs.declared.live.Live.{Live}
use Rattle.neph_guest.specs.declared.live.Stage.TheVariants as guest
use Rattle.neph_machine.specs.declared.place.Place.{Place}
use Rattle.neph_machine.specs.declared.place.Place.TheVariants.{Flight as InFlight, Domain}
use Rattle.neph_machine.specs.declared.place.Flight.{Flight}
use Rattle.neph_machine.specs.declared.machine.Machine.{Machine}
use Rattle.neph_machine.specs.Places.{place_at}
use Rattle.neph_machine.specs.StandsFor.{IsAtStage, IsDomain, IsPlace, StandsFor}
use Rattle.neph_machine.proofs.Carrying.{same_flight}
use Rattle.neph_machine.proofs.Paired.{IsPair}

one_of : (xs : List ℕ) (i j : ℕ) → xs ≡ i ∷ [] → slice_get xs 0 ≡ Some j → i ≡ j
one_of xs i j e h = inside (sym (ap (λ (l : List ℕ). slice_get l 0) e) ∙ h) where
  inside : Some i ≡ Some j → i ≡ j
  inside s = cc

-- the child that the hypervisor knows as begun by the domain of an id stands in its place
pub record HasChild {Pool Seat : Type 0} (m : Machine Pool Seat) (id child : ℕ) : Type 0 where
  pub flight : Flight Pool Seat
  pub flies : place_at child m.places.items ≡ InFlight flight
  pub parent : flight.parent ≡ id

module _ {Pool Seat : Type 0} (W : World Pool Seat) (m : Machine Pool Seat) (st : State) (stands : StandsFor W m st) (id child : ℕ) (l : Live Pool Seat) (here : place_at id m.places.items ≡ Domain l) where
  pub domain : IsDomain W m id l (part_at st id)
  domain = subst (λ (place : Place Pool Seat). IsPlace W m id place (part_at st)) here (stands.each id)

  module _ (forking : l.guest.stage ≡ guest.Forking) (begun : slice_get (guest_at id m.hv.registry.tables).begun 0 ≡ Some child) where
    first : slice_get (part_at st id).guest.begun 0 ≡ Some child
    first = ap (λ (sh : Shared). slice_get (guest_at id sh.tables).begun 0) stands.shared ∙ begun

    child_by : (stage : Stage) → IsAtStage W m id l (part_at st id) stage → HasChild m id child
    child_by book.Ready h = absurd (other (sym forking ∙ h.0)) where
      other : guest.Forking ≡ guest.Ready → ⊥
      other e = cc
    child_by book.Copying h = absurd (other (sym forking ∙ h.0)) where
      other : guest.Forking ≡ guest.Copying → ⊥
      other e = cc
    child_by (book.Forking left) h = record {
      flight = h.2.flight;
      flies = ap (λ (i : ℕ). place_at i m.places.items) (sym same) ∙ h.2.there;
      parent = h.2.parent;
    } where
      same : h.2.child ≡ child
      same = one_of (part_at st id).guest.begun h.2.child child h.2.begun first

    pub has_child : HasChild m id child
    has_child = child_by (part_at st id).book.stage domain.stage

  -- the child that stands in its place is of it
  pub pair_is : l.guest.stage ≡ guest.Forking → HasChild m id child → (f : Flight Pool Seat) → place_at child m.places.items ≡ InFlight f → IsPair m id child l f
  pair_is forking h f flies = record {
    here = here;
    flies = flies;
    parent = ap (λ (g : Flight Pool Seat). g.parent) (same_flight f h.flight (sym flies ∙ h.flies)) ∙ h.parent;
    forking = forking;
  }
