-- A commit that memory ran out for: the fork is in hand again, and the machine stands as before.
use Rattle.std.proofs.Common.{◌≡◌, ℕ, List, [], ◌∷◌, length, set, refl, sym, ap, subst, ◌∙◌}
use Rattle.std.specs.Prelude.{is_some}
use Rattle.neph_model.specs.Books.{State}
use Rattle.neph_runs.specs.Orderly.{seat as part_at}
use Rattle.neph_pool.specs.Names.{both_names}
use Rattle.neph_pool.specs.World.{World, Spares}
use Rattle.neph_memory.specs.declared.own.Own.{Own as Memory}
use Rattle.neph_memory.specs.Domains.{IsStanding, IsUnchanged}
use Rattle.neph_local.specs.declared.forking.Fork.{Fork}
use Rattle.neph_local.specs.Copies.{IsSameFork}
use Rattle.neph_local.specs.Forks.{IsForkInHand}
use Rattle.neph_guest.specs.declared.live.Live.{Live}
use Rattle.neph_guest.specs.declared.live.Guest.{Guest}
use Rattle.neph_heap.specs.Lists.{Lists, exposed_of, aside_of}
use Rattle.neph_heap.specs.Heap.{IsHeap}
use Rattle.neph_hv.specs.Hv.{shared_in}
use Rattle.neph_accounts.specs.Heaps.{row_frames}
use Rattle.neph_accounts.specs.Colours.{IsStood}
use Rattle.neph_machine.specs.declared.place.Place.{Place}
use Rattle.neph_machine.specs.declared.place.Place.TheVariants.{Flight as InFlight, Domain}
use Rattle.neph_machine.specs.declared.place.Flight.{Flight}
use Rattle.neph_machine.specs.declared.machine.Machine.{Machine}
use Rattle.neph_machine.specs.Rows.{frames_in, away_in, rows_of}
use Rattle.neph_machine.specs.StandsFor.{HasNone, left_from, IsAtStage, IsDomain, IsForkIn, IsFlight, StandsFor}
use Rattle.neph_machine.specs.Turned.{Lacked}
use Rattle.neph_machine.proofs.Reached.{IsReached}
use Rattle.neph_machine.proofs.Carrying.{none_same, exposes_kept}
use Rattle.neph_machine.proofs.Paired.{IsPair, domain, flight, none_yet, begun, forks}
use Rattle.neph_machine.proofs.Pairs.{PairMoved, one_begun, pair_rows, pair_stands}
use Rattle.neph_commit.proofs.Moved.{moved}
use Rattle.neph_commit.proofs.Kept.{memory_kept}

-- the child in flight that a fork of a domain is
abbrev pub flight_of : {Pool Seat : Type 0} → ℕ → Fork Pool Seat → Flight Pool Seat
flight_of id fork = record { parent = id; fork = fork }

-- the call gave this fork back, and parent and child were put back into their places
pub record WasLacking {Pool Seat : Type 0} (W : World Pool Seat) (old new : Machine Pool Seat)
    (id child : ℕ) (l k : Live Pool Seat) (f : Flight Pool Seat) (fork : Fork Pool Seat) : Type 0
  where
    pub places : new.places.items
        ≡ set (set old.places.items id (Domain k)) child (InFlight (flight_of id fork))
    pub script : new.script ≡ old.script
    pub guest_same : k.guest ≡ l.guest
    pub hv : IsHeap W new.pool new.hv.heap.seat new.hv.heap.stock []
    pub stands : IsStanding W new.pool k.local
    pub same : IsUnchanged W old.pool l.local new.pool k.local
    pub back : IsForkInHand W new.pool k.local fork
    pub unborn : IsSameFork W f.fork fork
    pub stock : new.hv.heap.stock ≡ old.hv.heap.stock
    pub shared : shared_in W new.pool new.hv ≡ shared_in W old.pool old.hv
    pub names : W.names new.hv.heap.seat ≡ W.names old.hv.heap.seat
    pub others : Spares W
        (both_names (W.names old.hv.heap.seat)
        (both_names (W.names l.local.seat) (W.names f.fork.seat))) old.pool new.pool
    pub shares : W.shares new.pool ≡ W.shares old.pool

module _ {Pool Seat : Type 0} (W : World Pool Seat) (old : Machine Pool Seat) (st : State)
    (reached : IsReached old.script st) (stands : StandsFor W old st) (id child : ℕ)
    (l : Live Pool Seat) (f : Flight Pool Seat)
    (both : IsPair old id child l f) (new : Machine Pool Seat) (k : Live Pool Seat)
    (fork : Fork Pool Seat) (was : WasLacking W old new id child l k f fork) where
  abbrev g : Flight Pool Seat
  g = flight_of id fork

  is : IsDomain W old id l (part_at st id)
  is = domain W old st reached stands id child l f both

  flew : IsFlight W old child f (part_at st f.parent)
  flew = flight W old st reached stands id child l f both

  born : (part_at st id).guest.begun ≡ child ∷ []
  born = begun W old st reached stands id child l f both

  pair : PairMoved W old new id child l (InFlight f) (Domain k) (InFlight g)
  pair = moved W old st reached stands id child l f both new (Domain k) (InFlight g) refl refl
      was.places was.script
      (λ j away. ap (exposed_of j) was.stock) (λ j away. ap (aside_of j) was.stock) was.names
      was.others was.hv

  stage_now : IsAtStage W new id k (part_at st id) (part_at st id).book.stage
  stage_now =
      let at = forks W old st reached stands id child l f both in
      subst (IsAtStage W new id k (part_at st id)) (sym at.1) (
        ap (λ (v : Guest). v.stage) was.guest_same ∙ both.forking,
        was.same.hand ∙ at.3,
        record {
          child = child;
          begun = born;
          flight = g;
          there = pair.now_there;
          parent = refl;
          left_is = at.2 ∙ ap (left_from (part_at st id).own) (sym was.unborn.next);
        },
      )

  domain_now : IsDomain W new id k (part_at st id)
  domain_now = record {
    live = is.live;
    dom = ap (λ (v : Guest). v.dom) was.guest_same ∙ is.dom;
    id_is = was.same.id ∙ is.id_is;
    stands = was.stands;
    own = record {
      line = is.own.line ∙ sym (ap (λ (v : Guest). v.line) was.guest_same);
      came = is.own.came ∙ sym (ap (λ (v : Guest). v.came) was.guest_same);
      refused = is.own.refused ∙ sym (ap (λ (v : Guest). v.failed) was.guest_same);
      own = record {
        memory = memory_kept W old.pool l.local new.pool k.local (part_at st id).own
            was.same is.own.own.memory;
        marks = is.own.own.marks;
      };
    };
    spare = is.spare ∙ ap (λ (o : Memory). is_some o.spare) (sym was.same.own);
    exposes = exposes_kept old.hv.heap.stock new.hv.heap.stock id l k (ap (exposed_of id) was.stock)
        (ap (λ (o : Memory). o.map.pages) was.same.own) is.exposes;
    aside = ap (aside_of id) was.stock ∙ is.aside;
    stage = stage_now;
  }

  flight_now : IsFlight W new child g (part_at st id)
  flight_now = record {
    child = was.unborn.child ∙ flew.child;
    fork = subst (λ (place : Place Pool Seat). IsForkIn W new place g) (sym pair.now_here) was.back;
    begun = born;
    aside = ap (λ (s : Lists). length (aside_of child s)) was.stock ∙ flew.aside
        ∙ ap (λ (i : ℕ). length (exposed_of i old.hv.heap.stock)) both.parent
        ∙ sym (ap (λ (s : Lists). length (exposed_of id s)) was.stock);
  }

  none_now : HasNone new.hv.heap.stock child (part_at st child)
  none_now = none_same old.hv.heap.stock new.hv.heap.stock child (part_at st child)
      (part_at st child) (ap (exposed_of child) was.stock) refl
      (none_yet W old st reached stands id child l f both)

  rows_kept : rows_of new ≡ rows_of old
  rows_kept = pair_rows W old new id child l (InFlight f) (Domain k) (InFlight g) pair
      (ap (λ (o : Memory). row_frames (frames_in o.map.pages) (away_in old.hv.heap.stock id) 0)
      was.same.own) refl

  -- the machine stands for the state that it stood for
  pub commit_lacked : Lacked W old new st
  commit_lacked = record {
    stands = pair_stands W old new id child l (InFlight f) (Domain k) (InFlight g) pair st st stands
        (λ j h. one_begun _ j child h born) (λ j off away. refl) (stands.shared ∙ sym was.shared) domain_now (none_now, flight_now)
        (subst (λ (rows : List (List ℕ)). IsStood rows st.books) (sym rows_kept) stands.colours);
    script = was.script;
    shares = was.shares;
  }
