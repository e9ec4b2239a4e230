-- A page step: what stands in the two places, and what it makes of that.
use Rattle.std.proofs.Common.{◌≡◌, ◌≢◌, ℕ, ◌+◌, ◌-◌, ◌^◌, Bool, min, Some, Vec, Global, refl, sym, ap, subst, ◌∙◌}
use Rattle.std.specs.Prelude.{slice_get}
use Rattle.std.specs.Vec.{with_item}
use Rattle.std.proofs.lemmas.List.{get_or-set_other}
use Rattle.neph_base.specs.declared.reply.Actor.TheVariants.{Dom}
use Rattle.neph_model.specs.Machine.{guest_at}
use Rattle.neph_model.specs.Books.{State}
use Rattle.neph_model.specs.Turns.{turn}
use Rattle.neph_pool.specs.Names.{both_names}
use Rattle.neph_pool.specs.World.{World, Spares}
use Rattle.neph_gmap.specs.GuestPages.{GuestPages}
use Rattle.neph_memory.specs.declared.dom_local.DomLocal.{DomLocal}
use Rattle.neph_memory.specs.Domains.{IsStanding}
use Rattle.neph_local.specs.declared.forking.Fork.{Fork}
use Rattle.neph_local.specs.Forks.{IsForkInHand, NoPageLeft}
use Rattle.neph_guest.specs.declared.live.Live.{Live}
use Rattle.neph_guest.specs.declared.live.Stage.TheVariants.{Forking}
use Rattle.neph_machine.specs.declared.place.Place.{Place}
use Rattle.neph_machine.specs.declared.place.Place.TheVariants.{Empty, Flight as InFlight, Domain}
use Rattle.neph_machine.specs.declared.place.Flight.{Flight}
use Rattle.neph_machine.specs.declared.machine.Machine.{Machine}
use Rattle.neph_machine.specs.declared.turn.Turn.TheVariants.{Moved}
use Rattle.neph_machine.specs.Places.{place_at, IsFlying, IsLive}
use Rattle.neph_machine.specs.StandsFor.{StandsFor}
use Rattle.neph_machine.specs.Stages.{IsAt, IsForked}
use Rattle.neph_machine.specs.Turned.{Took}
use Rattle.neph_machine.proofs.Reached.{IsReached}
use Rattle.neph_machine.proofs.Carrying.{same_live}
use Rattle.neph_machine.proofs.OnePlace.{no_flight}
use Rattle.neph_machine.proofs.Paired.{IsPair, fork, names_are}
use Rattle.neph_forks.proofs.Begun.{HasChild, domain, has_child, pair_is}
use Rattle.neph_forks.proofs.Putting.{items_put, put_back}
use Rattle.neph_forks.proofs.TwoPlaces.{ForkMoved}
use Rattle.neph_forks.proofs.PageSteps.{SharedPage, step_took}

module _ {Pool Seat : Type 0} (W : World Pool Seat) (old : Machine Pool Seat) (st : State) (reached : IsReached old.script st) (stands : StandsFor W old st) (id child : ℕ) (at : IsAt old id Forking)
    (known : slice_get (guest_at id old.hv.registry.tables).begun 0 ≡ Some child) where
  pub child_there : HasChild old id child
  child_there = has_child W old st stands id child at.live at.here at.at known

  pub child_flies : IsFlying (place_at child old.places.items)
  child_flies = subst IsFlying (sym child_there.flies) tt

  far : child ≢ id
  far e = no_flight at.live child_there.flight (sym at.here ∙ ap (λ (i : ℕ). place_at i old.places.items) (sym e) ∙ child_there.flies)

  -- the place of the child was emptied
  module _ (one : Vec (Place Pool Seat) Global) (emptied : one ≡ with_item old.places child Empty) where
    beside : place_at id one.items ≡ place_at id old.places.items
    beside = ap (λ (v : Vec (Place Pool Seat) Global). place_at id v.items) emptied ∙ get_or-set_other old.places.items child id Empty Empty (λ e. far (sym e))

    pub still_live : IsLive (place_at id one.items)
    still_live = subst IsLive (sym (beside ∙ at.here)) tt

    -- beside it stands the domain l, and f stood there
    module _ (l : Live Pool Seat) (met : place_at id one.items ≡ Domain l) (f : Flight Pool Seat) (flies : place_at child old.places.items ≡ InFlight f) where
      here : place_at id old.places.items ≡ Domain l
      here = sym beside ∙ met

      both : IsPair old id child l f
      both = pair_is W old st stands id child l here (ap (λ (v : Live Pool Seat). v.guest.stage) (same_live l at.live (sym here ∙ at.here)) ∙ at.at) child_there f flies

      pub standing : IsStanding W old.pool l.local
      standing = (domain W old st stands id child l here).stands

      pub in_hand : IsForkInHand W old.pool l.local f.fork
      in_hand = fork W old st reached stands id child l f both

      -- the domain has the memory d now, and the child was put back with the fork g
      module _ (q : Pool) (d : DomLocal Pool Seat) (g : Fork Pool Seat) (places : Vec (Place Pool Seat) Global)
          (put : places ≡ with_item (with_item one id (Domain (record l { local = d }))) child (InFlight (record f { fork = g }))) where
        abbrev k : Live Pool Seat
        k = record l { local = d }

        abbrev h : Flight Pool Seat
        h = record f { fork = g }

        abbrev new : Machine Pool Seat
        new = record old { pool = q; places = places }

        pub took : Spares W (both_names (W.names l.local.seat) (W.names f.fork.seat)) old.pool q → SharedPage W old.pool l.local f.fork q d g → W.shares q ≡ min (W.shares old.pool + 1) (2 ^ 64 - 1) → Took W old new (turn old.script st (Dom id)) Moved
        took others page shares = step_took W old new id child l k f h moved page refl refl st reached stands both shares where
          moved : ForkMoved W old new id child l k f h
          moved = record {
            places = items_put old.places one places id child (Domain k) (InFlight h) Empty far emptied put;
            script = refl;
            hv = refl;
            spares = subst (λ (ns : ℕ → Bool). Spares W ns old.pool q) (names_are W old st reached stands id child l f both) others;
            pages = ap (λ (m : GuestPages). m.pages) page.map;
          }

        -- where both are as they were, the machine is
        pub unmoved : (g ≡ f.fork) × (d ≡ l.local) × (q ≡ old.pool) → new ≡ old
        unmoved same = ap (λ (p : Pool). record old { pool = p; places = places }) same.2 ∙ ap (λ (v : Vec (Place Pool Seat) Global). record old { places = v }) back where
          back : places ≡ old.places
          back = put_back old.places one places id child (Domain k) (InFlight h) Empty far emptied put Empty (here ∙ ap (λ (e : DomLocal Pool Seat). Domain (record l { local = e })) (sym same.1)) (flies ∙ ap (λ (e : Fork Pool Seat). InFlight (record f { fork = e })) (sym same.0))

        pub forked : (g ≡ f.fork) × (d ≡ l.local) × (q ≡ old.pool) → NoPageLeft l.local.own.map.pages f.fork.next → IsForked new id child
        forked same none = subst (λ (m : Machine Pool Seat). IsForked m id child) (sym (unmoved same)) (record {
          live = l;
          there = here;
          flight = f;
          flies = flies;
          parent = both.parent;
          none = none;
        })
