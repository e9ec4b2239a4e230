-- A call for a commit has changed the places of a domain and of its child in flight alone.
use Rattle.std.proofs.Common.{◌≡◌, ◌≢◌, ℕ, Bool, false, [], length, set, sym, ap, subst, ◌∙◌, arith}
use Rattle.neph_model.specs.Books.{State}
use Rattle.neph_pool.specs.Names.{both_names, only_name}
use Rattle.neph_pool.specs.World.{World, Spares}
use Rattle.neph_guest.specs.declared.live.Live.{Live}
use Rattle.neph_heap.specs.Lists.{exposed_of, aside_of}
use Rattle.neph_heap.specs.Heap.{IsHeap}
use Rattle.neph_machine.specs.declared.place.Place.{Place}
use Rattle.neph_machine.specs.declared.place.Place.TheVariants.{Empty, Flight as InFlight}
use Rattle.neph_machine.specs.declared.place.Flight.{Flight}
use Rattle.neph_machine.specs.declared.machine.Machine.{Machine}
use Rattle.neph_machine.specs.Places.{place_at, is_empty}
use Rattle.neph_machine.specs.StandsFor.{StandsFor}
use Rattle.neph_machine.proofs.Reached.{IsReached}
use Rattle.neph_machine.proofs.Paired.{IsPair, within, below, far, names_are}
use Rattle.neph_machine.proofs.Pairs.{put_two, PairMoved}

module _ {Pool Seat : Type 0} (W : World Pool Seat) (old : Machine Pool Seat) (st : State)
    (reached : IsReached old.script st) (stands : StandsFor W old st) (id child : ℕ)
    (l : Live Pool Seat) (f : Flight Pool Seat)
    (both : IsPair old id child l f) (new : Machine Pool Seat) where
  -- what the call left of all other seats
  abbrev pub SparesOthers : Type 0
  SparesOthers = Spares W
      (both_names (W.names old.hv.heap.seat)
      (both_names (W.names l.local.seat) (W.names f.fork.seat))) old.pool new.pool

  spares_two : SparesOthers
      → Spares W (both_names (W.names old.hv.heap.seat)
      (both_names (only_name id) (only_name child))) old.pool new.pool
  spares_two = subst (λ (ms : ℕ → Bool). Spares W (both_names (W.names old.hv.heap.seat) ms)
      old.pool new.pool) (names_are W old st reached stands id child l f both)

  -- these were put into both places
  pub moved : (x y : Place Pool Seat) → is_empty x ≡ false → is_empty y ≡ false
      → new.places.items ≡ set (set old.places.items id x) child y
      → new.script ≡ old.script
      → ((j : ℕ) → j ≢ child → exposed_of j new.hv.heap.stock ≡ exposed_of j old.hv.heap.stock)
      → ((j : ℕ) → j ≢ child → aside_of j new.hv.heap.stock ≡ aside_of j old.hv.heap.stock)
      → W.names new.hv.heap.seat ≡ W.names old.hv.heap.seat → SparesOthers
      → IsHeap W new.pool new.hv.heap.seat new.hv.heap.stock []
      → PairMoved W old new id child l (InFlight f) x y
  moved x y full_x full_y places script exposed aside names others heap =
      let lt = within W old st reached stands id child l f both in
      let le = below W old st reached stands id child l f both in
      let n = stands.places in
      let ne = far W old st reached stands id child l f both in
      let s = put_two old.places.items id child x y (omega (arith, lt, n))
      (omega (arith, le, n)) ne in
      record {
        within = lt;
        below = le;
        far = ne;
        here = both.here;
        there = both.flies;
        child_place = both.parent;
        long = ap (λ xs. length xs) places ∙ s.long ∙ n;
        now_here = ap (place_at id) places ∙ s.here Empty;
        now_there = ap (place_at child) places ∙ s.there Empty;
        other = λ j off away. ap (place_at j) places ∙ s.other j off away Empty;
        full = full_x;
        script = script;
        exposed = exposed;
        aside = aside;
        names = λ j away. ap (λ (ms : ℕ → Bool). ms j) names;
        name = ap (λ (ms : ℕ → Bool). ms child) names ∙ stands.names child le
            ∙ ap is_empty both.flies ∙ sym full_y;
        spares = spares_two others;
        heap = heap;
      }
