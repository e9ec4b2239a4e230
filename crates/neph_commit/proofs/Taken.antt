-- A domain in its place, and its child in flight, as it was taken out of its place.
use Rattle.std.proofs.Common.{◌≡◌, ◌≢◌, ℕ, List, set, sym, ap, subst, ◌∙◌}
use Rattle.std.proofs.lemmas.List.{get_or-set_other}
use Rattle.neph_local.specs.Forks.{NoPageLeft}
use Rattle.neph_memory.specs.declared.dom_local.DomLocal.{DomLocal}
use Rattle.neph_guest.specs.declared.live.Live.{Live}
use Rattle.neph_guest.specs.declared.live.Guest.{Guest}
use Rattle.neph_guest.specs.declared.live.Stage.TheVariants.{Forking}
use Rattle.neph_machine.specs.declared.place.Place.{Place}
use Rattle.neph_machine.specs.declared.place.Place.TheVariants.{Empty, Flight as InFlight, Domain}
use Rattle.neph_machine.specs.declared.place.Flight.{Flight}
use Rattle.neph_machine.specs.declared.machine.Machine.{Machine}
use Rattle.neph_machine.specs.Places.{place_at, IsLive}
use Rattle.neph_machine.specs.Stages.{IsAt, IsForked}
use Rattle.neph_machine.proofs.Found.{set_between}
use Rattle.neph_machine.proofs.Carrying.{same_live, same_flight}
use Rattle.neph_machine.proofs.OnePlace.{no_flight}
use Rattle.neph_machine.proofs.Paired.{IsPair}

-- a domain whose guest became this
pub with_guest : {Pool Seat : Type 0} (p q : Guest) (d : DomLocal Pool Seat) → p ≡ q
    → Domain (record { guest = p; local = d }) ≡ Domain (record { guest = q; local = d })
with_guest p q d e = ap (λ (g : Guest). Domain (record { guest = g; local = d })) e

-- a place that was emptied, one that was changed, and the first filled again
pub filled : {A : Type 0} (i j : ℕ) (e x u y v : A) (xs a b : List A) → j ≢ i → a ≡ set xs j e
    → b ≡ set (set a i x) j y → x ≡ u → y ≡ v → b ≡ set (set xs i u) j v
filled i j e x u y v xs a b far out put same grown =
    put ∙ ap (λ zs. set (set zs i x) j y) out
    ∙ set_between xs i j e x y far
    ∙ ap (λ z. set (set xs i z) j y) same ∙ ap (set (set xs i u) j) grown

module _ {Pool Seat : Type 0} (m : Machine Pool Seat) (id child : ℕ) (forked : IsForked m id child)
  where
    pub apart : child ≢ id
    apart e = no_flight forked.live forked.flight (sym forked.there
        ∙ ap (λ (i : ℕ). place_at i m.places.items) (sym e) ∙ forked.flies)

    -- beside the place of the child, which was emptied, the domain stands where it stood
    beside : (left : List (Place Pool Seat)) → left ≡ set m.places.items child Empty
        → place_at id left ≡ place_at id m.places.items
    beside left out = ap (λ (xs : List (Place Pool Seat)). place_at id xs) out
        ∙ get_or-set_other m.places.items child id Empty Empty (λ e. apart (sym e))

    pub still_live : (left : List (Place Pool Seat)) → left ≡ set m.places.items child Empty
        → IsLive (place_at id left)
    still_live left out = subst IsLive (sym (beside left out ∙ forked.there)) tt

    -- the child that was taken out of its place, and the domain, of which no page is left to share
    pub pair_taken : IsAt m id Forking → (l : Live Pool Seat) (f : Flight Pool Seat)
        (left : List (Place Pool Seat))
        → place_at child m.places.items ≡ InFlight f → left ≡ set m.places.items child Empty
        → place_at id left ≡ Domain l
        → IsPair m id child l f × NoPageLeft l.local.own.map.pages f.fork.next
    pair_taken at l f left flies out there = (
      record {
        here = here;
        flies = flies;
        parent = ap (λ (x : Flight Pool Seat). x.parent) (sym flight_is) ∙ forked.parent;
        forking = ap (λ (x : Live Pool Seat). x.guest.stage) (same_live l at.live (sym here ∙ at.here))
            ∙ at.at;
      },
      subst (λ (x : Flight Pool Seat). NoPageLeft l.local.own.map.pages x.fork.next) flight_is
          (subst (λ (x : Live Pool Seat). NoPageLeft x.local.own.map.pages forked.flight.fork.next)
          (same_live forked.live l (sym forked.there ∙ here)) forked.none),
    ) where
      here : place_at id m.places.items ≡ Domain l
      here = sym (beside left out) ∙ there

      flight_is : forked.flight ≡ f
      flight_is = same_flight forked.flight f (sym forked.flies ∙ flies)
