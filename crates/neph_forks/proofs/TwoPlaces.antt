-- A page step, which changes a domain and its child in flight.
use Rattle.std.proofs.Common.{◌≡◌, ◌≢◌, ◌⊎◌, inl, inr, ℕ, ◌<◌, Bool, true, false, List, [], length, set, refl, sym, ap, subst, ◌∙◌, arith}
use Rattle.std.specs.declared.option.Option.{Option}
use Rattle.std.proofs.lemmas.Bool.{eqb-true}
use Rattle.neph_model.specs.Books.{State}
use Rattle.neph_runs.specs.Orderly.{seat as part_at}
use Rattle.neph_pool.specs.declared.entry.Entry.{Entry}
use Rattle.neph_pool.specs.Names.{IsApart, only_name, both_names}
use Rattle.neph_pool.specs.World.{World, Spares}
use Rattle.neph_guest.specs.declared.live.Live.{Live}
use Rattle.neph_rows.specs.Records.{shared_of}
use Rattle.neph_heap.specs.Lists.{exposed_of, aside_of}
use Rattle.neph_heap.specs.Heap.{IsHeap}
use Rattle.neph_heap.specs.Pages.{pages_in}
use Rattle.neph_accounts.specs.Heaps.{row_frames}
use Rattle.neph_accounts.specs.Colours.{IsStood}
use Rattle.neph_hv.specs.declared.hv.Hv.{Hv}
use Rattle.neph_hv.proofs.Sparing.{heap_spared, spares_right}
use Rattle.neph_machine.specs.declared.place.Place.{Place}
use Rattle.neph_machine.specs.declared.place.Place.TheVariants.{Empty, Flight as InFlight, Domain}
use Rattle.neph_machine.specs.declared.place.Flight.{Flight}
use Rattle.neph_machine.specs.declared.machine.Machine.{Machine}
use Rattle.neph_machine.specs.Places.{place_at, is_empty}
use Rattle.neph_machine.specs.Rows.{frames_in, away_in, rows_of}
use Rattle.neph_machine.specs.StandsFor.{IsDomain, IsFlight, StandsFor}
use Rattle.neph_machine.proofs.Reached.{IsReached}
use Rattle.neph_machine.proofs.Carrying.{none_same}
use Rattle.neph_machine.proofs.OnePlace.{name_parts, no_name}
use Rattle.neph_machine.proofs.Paired.{IsPair, within, below, far, begun, none_yet}
use Rattle.neph_machine.proofs.Pairs.{IsPut, put_two, PairMoved, one_begun, pair_rows, pair_stands}

module _ {Pool Seat : Type 0} (W : World Pool Seat) (old new : Machine Pool Seat) (id child : ℕ) (l k : Live Pool Seat) (f g : Flight Pool Seat) where
  -- A domain and its child in flight have changed in their places, and nothing else has.
  pub record ForkMoved : Type 0 where
    pub places : new.places.items ≡ set (set old.places.items id (Domain k)) child (InFlight g)
    pub script : new.script ≡ old.script
    pub hv : new.hv ≡ old.hv
    pub spares : Spares W (both_names (only_name id) (only_name child)) old.pool new.pool
    pub pages : k.local.own.map.pages ≡ l.local.own.map.pages

  module _ (moved : ForkMoved) where
    pub stock_same : new.hv.heap.stock ≡ old.hv.heap.stock
    stock_same = ap (λ h. h.heap.stock) moved.hv

    module _ (st : State) (reached : IsReached old.script st) (stands : StandsFor W old st) (both : IsPair old id child l f) where
      abbrev ns : ℕ → Bool
      ns = both_names (only_name id) (only_name child)

      small : id < 64
      small = within W old st reached stands id child l f both

      small_child : child < 64
      small_child = below W old st reached stands id child l f both

      heap_apart : IsApart ns (W.names old.hv.heap.seat)
      heap_apart d x y = by (name_parts (only_name id d) (only_name child d) x) where
        full : (j : ℕ) → j < 64 → is_empty (place_at j old.places.items) ≡ false → d ≡ j → ⊥
        full j lt e s = no_name (W.names old.hv.heap.seat j) (ap (W.names old.hv.heap.seat) (sym s) ∙ y) (stands.names j lt ∙ e)

        by : (only_name id d ≡ true) ⊎ (only_name child d ≡ true) → ⊥
        by (inl a) = full id small (ap is_empty both.here) (eqb-true d id a)
        by (inr a) = full child small_child (ap is_empty both.flies) (eqb-true d child a)

      entries_same : W.entries new.pool old.hv.heap.seat ≡ W.entries old.pool old.hv.heap.seat
      entries_same = moved.spares.entries old.hv.heap.seat stands.heap.fits heap_apart

      put : IsPut old.places.items (set (set old.places.items id (Domain k)) child (InFlight g)) id child (Domain k) (InFlight g)
      put = let n = stands.places in let lt = small in let le = small_child in put_two old.places.items id child (Domain k) (InFlight g) (omega arith) (omega arith) (far W old st reached stands id child l f both)

      pub pair : PairMoved W old new id child l (InFlight f) (Domain k) (InFlight g)
      pair = record {
        within = small;
        below = small_child;
        far = far W old st reached stands id child l f both;
        here = both.here;
        there = both.flies;
        child_place = both.parent;
        long = ap (λ (xs : List (Place Pool Seat)). length xs) moved.places ∙ put.long ∙ stands.places;
        now_here = ap (place_at id) moved.places ∙ put.here Empty;
        now_there = ap (place_at child) moved.places ∙ put.there Empty;
        other = λ j off away. ap (place_at j) moved.places ∙ put.other j off away Empty;
        full = refl;
        script = moved.script;
        exposed = λ j away. ap (exposed_of j) stock_same;
        aside = λ j away. ap (aside_of j) stock_same;
        names = λ j away. ap (λ (h : Hv Pool Seat). W.names h.heap.seat j) moved.hv;
        name = ap (λ (h : Hv Pool Seat). W.names h.heap.seat child) moved.hv ∙ stands.names child small_child ∙ ap is_empty both.flies;
        spares = spares_right W (W.names old.hv.heap.seat) ns old.pool new.pool moved.spares;
        heap = subst (λ (h : Hv Pool Seat). IsHeap W new.pool h.heap.seat h.heap.stock []) (sym moved.hv) (heap_spared W ns old.pool new.pool old.hv.heap.seat old.hv.heap.stock [] stands.heap moved.spares heap_apart);
      }

      -- no row has changed
      fork_rows : rows_of new ≡ rows_of old
      fork_rows = pair_rows W old new id child l (InFlight f) (Domain k) (InFlight g) pair (ap (λ ps. row_frames (frames_in ps) (away_in old.hv.heap.stock id) 0) moved.pages) refl

      -- the machine stands for a state of which no other part has changed
      pub fork_stands : (st' : State) → ((j : ℕ) → j ≢ id → part_at st' j ≡ part_at st j) → st'.machine.shared ≡ st.machine.shared → IsDomain W new id k (part_at st' id) → IsFlight W new child g (part_at st' g.parent) → IsStood (rows_of old) st'.books → StandsFor W new st'
      fork_stands st' others shared domain flight stood =
          pair_stands W old new id child l (InFlight f) (Domain k) (InFlight g) pair st st' stands (λ j h. one_begun _ j child h (begun W old st reached stands id child l f both)) (λ j off away. others j off)
          (shared ∙ stands.shared ∙ ap (λ (es : List (Option Entry)). shared_of old.hv.registry (pages_in es old.hv.heap.stock.exposed)) (sym entries_same)
          ∙ ap (λ (h : Hv Pool Seat). shared_of h.registry (pages_in (W.entries new.pool h.heap.seat) h.heap.stock.exposed)) (sym moved.hv))
          domain
          (none_same old.hv.heap.stock new.hv.heap.stock child (part_at st child) (part_at st' child) (ap (exposed_of child) stock_same) (others child pair.far) (none_yet W old st reached stands id child l f both), flight)
          (subst (λ (rows : List (List ℕ)). IsStood rows st'.books) (sym fork_rows) stood)
