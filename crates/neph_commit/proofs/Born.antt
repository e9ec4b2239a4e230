-- Behind a commit the parent and the child stand in their places.
use Rattle.std.proofs.Common.{◌≡◌, ℕ, zero, suc, ◌+◌, Bool, true, false, [], IsSome, Some, None, refl, sym, ap, subst, ◌∙◌, arith}
use Rattle.std.specs.Prelude.{is_some, not, option_map}
use Rattle.std.specs.declared.option.Option.{Option}
use Rattle.std.proofs.lemmas.List.{length-map, length-set, get_or-set_same}
use Rattle.neph_model.specs.declared.life.Life.{Life}
use Rattle.neph_model.specs.Machine.{Shared}
use Rattle.neph_model.specs.Births.{child_own, parent_own, commit}
use Rattle.neph_model.specs.Trap.{is_exposed}
use Rattle.neph_model.specs.Books.{State}
use Rattle.neph_runs.specs.Orderly.{Seat as Part, seat as part_at}
use Rattle.neph_runs.proofs.Births.{TwoChanged, parent_seat, child_seat, born, bears}
use Rattle.neph_pool.specs.World.{World}
use Rattle.neph_memory.specs.declared.dom_local.DomLocal.{DomLocal}
use Rattle.neph_memory.specs.declared.own.Own.{Own as Memory}
use Rattle.neph_memory.specs.Pages.{frame_at}
use Rattle.neph_memory.specs.Domains.{IsStanding, IsUnchanged}
use Rattle.neph_memory.specs.OwnHalf.{IsMemoryOf}
use Rattle.neph_local.specs.Copies.{IsChildOf}
use Rattle.neph_local.specs.Forks.{Forks}
use Rattle.neph_local.proofs.Halving.{child_memory}
use Rattle.neph_guest.specs.declared.live.Live.{Live}
use Rattle.neph_guest.specs.Forked.{guest_behind}
use Rattle.neph_guest.specs.OwnHalf.{IsOwnHalf}
use Rattle.neph_rows.specs.Records.{shared_of}
use Rattle.neph_heap.specs.Lists.{exposed_of, aside_of, frame_in}
use Rattle.neph_heap.specs.Heap.{IsBorn}
use Rattle.neph_heap.specs.Pages.{pages_in}
use Rattle.neph_heap.proofs.Maps.{shown_is}
use Rattle.neph_machine.specs.declared.place.Place.TheVariants.{Flight as InFlight, Domain}
use Rattle.neph_machine.specs.declared.place.Flight.{Flight}
use Rattle.neph_machine.specs.declared.machine.Machine.{Machine}
use Rattle.neph_machine.specs.StandsFor.{Exposes, IsDomain, StandsFor}
use Rattle.neph_machine.proofs.Reached.{IsReached}
use Rattle.neph_machine.proofs.Carrying.{exposes_kept}
use Rattle.neph_machine.proofs.Paired.{IsPair, domain}
use Rattle.neph_machine.proofs.Pairs.{PairMoved}
use Rattle.neph_commit.proofs.Forked.{has_pages}
use Rattle.neph_commit.proofs.Kept.{memory_kept}

-- a domain behind a commit at this line
abbrev pub live_then : {Pool Seat : Type 0} → ℕ → ℕ → Bool → DomLocal Pool Seat → Live Pool Seat
live_then dom line came d = record { guest = guest_behind dom line came; local = d }

some_is : (o : Option ℕ) → IsSome o → is_some o ≡ true
some_is None h = h
some_is (Some f) h = refl

life_some : (o : Option Life) (by : Life → Life) → is_some (option_map by o) ≡ is_some o
life_some None by = refl
life_some (Some v) by = refl

-- from the domain l and its child in flight f to the memories d and c
module _ {Pool Seat : Type 0} (W : World Pool Seat) (old new : Machine Pool Seat) (id child : ℕ)
    (l : Live Pool Seat) (f : Flight Pool Seat) (d c : DomLocal Pool Seat) where
  -- A commit made the child live, with what its parent had, and left the parent's memory alone.
  pub record HasCommitted : Type 0 where
    pub pair : PairMoved W old new id child l (InFlight f) (Domain (live_then id l.guest.line false d))
        (Domain (live_then child l.guest.line true c))
    pub stands : IsStanding W new.pool d
    pub same : IsUnchanged W old.pool l.local new.pool d
    pub grown : IsStanding W new.pool c
    pub born : IsChildOf W old.pool l.local new.pool c
    pub id_is : c.id ≡ child
    pub still : Forks W new.pool d.seat c.seat c.id d.own.map.pages f.fork.next f.fork.frames.items
    pub pages : IsBorn old.hv.heap.stock new.hv.heap.stock child
    pub row : commit (shared_of old.hv.registry
        (pages_in (W.entries old.pool old.hv.heap.seat) old.hv.heap.stock.exposed)) id child []
        ≡ shared_of new.hv.registry
        (pages_in (W.entries new.pool new.hv.heap.seat) new.hv.heap.stock.exposed)

  module _ (both : IsPair old id child l f) (did : HasCommitted) (st : State)
      (reached : IsReached old.script st) (stands : StandsFor W old st) where
    abbrev x : Part
    x = part_at st id

    was : IsDomain W old id l (part_at st id)
    was = domain W old st reached stands id child l f both

    -- the parts of the state behind it
    pub parts : TwoChanged st (born old.script st id child) id child (parent_seat (part_at st id))
        (child_seat id child st.books.fresh (part_at st id))
    parts = bears old.script st id child reached.sound.orderly.places did.pair.within did.pair.below
        (λ e. did.pair.far (sym e))

    pub shared_now : (born old.script st id child).machine.shared
        ≡ shared_of new.hv.registry
        (pages_in (W.entries new.pool new.hv.heap.seat) new.hv.heap.stock.exposed)
    shared_now = ap (λ (sh : Shared). commit sh id child []) stands.shared ∙ did.row

    -- the same pages are the child's own, and the same are exposed
    pub own_same : (pfn : ℕ) → is_some (frame_at c.own.map.pages pfn)
        ≡ is_some (frame_at l.local.own.map.pages pfn)
    own_same zero = some_is _ did.grown.identity ∙ sym (some_is _ was.stands.identity)
    own_same (suc pfn) = ap is_some (did.born.frames (suc pfn) (omega arith))

    shown_same : (pfn : ℕ) → is_some (frame_in pfn (exposed_of child new.hv.heap.stock))
        ≡ is_some (frame_in pfn (exposed_of id old.hv.heap.stock))
    shown_same pfn =
        sym (shown_is (W.entries new.pool new.hv.heap.seat) new.hv.heap.stock.exposed child pfn)
        ∙ ap (λ (sh : Shared). is_exposed sh.pages child pfn) (sym shared_now)
        ∙ ap (λ (p : Part). p.exposed.has pfn) parts.child_is
        ∙ ap (λ (sh : Shared). is_exposed sh.pages id pfn) stands.shared
        ∙ shown_is (W.entries old.pool old.hv.heap.seat) old.hv.heap.stock.exposed id pfn

    pub child_exposes : Exposes new.hv.heap.stock child (live_then child l.guest.line true c)
    child_exposes = record {
      split = λ pfn lt. shown_same pfn
          ∙ was.exposes.split pfn (let n = did.born.count in omega (arith, lt, n))
          ∙ ap not (sym (own_same pfn));
      within = λ pfn here. let lt = was.exposes.within pfn (sym (shown_same pfn) ∙ here) in
          let n = did.born.count in omega (arith, lt, n);
    }

    child_parts : IsMemoryOf W new.pool c (child_own child id x.own).pages
        (child_own child id x.own).vmap (child_own child id x.own).leaves
    child_parts =
        let some = has_pages W old st reached stands id child l f both in
        subst (λ (i : ℕ). IsMemoryOf W new.pool c (child_own i id x.own).pages
        (child_own i id x.own).vmap (child_own i id x.own).leaves) did.id_is
        (subst (λ (i : ℕ). IsMemoryOf W new.pool c (child_own c.id i x.own).pages
        (child_own c.id i x.own).vmap (child_own c.id i x.own).leaves) was.id_is
        (child_memory W old.pool l.local new.pool c x.own did.born was.own.own.memory some))

    child_half : IsOwnHalf W new.pool (live_then child l.guest.line true c)
        (child_own child id x.own)
    child_half = record {
      line = ap (λ (n : ℕ). n + 1) was.own.line;
      came = refl;
      refused = refl;
      own = record {
        memory = child_parts;
        marks = length-map x.own.alone (λ a. false) ∙ was.own.own.marks
            ∙ sym (length-set x.own.pages 0 _);
      };
    }

    child_aside : aside_of child new.hv.heap.stock ≡ []
    child_aside = ap (aside_of child) did.pages.rest
        ∙ get_or-set_same old.hv.heap.stock.aside child [] []
        (let n = stands.heap.children in let lt = did.pair.below in omega (arith, n, lt))

    pub child_stands : IsDomain W new child (live_then child l.guest.line true c)
        (part_at (born old.script st id child) child)
    child_stands = subst
        (λ (p : Part). IsDomain W new child (live_then child l.guest.line true c) p)
        (sym parts.child_is) (record {
          live = life_some x.life _ ∙ was.live;
          dom = refl;
          id_is = did.id_is;
          stands = did.grown;
          own = child_half;
          spare = ap is_some (sym did.born.spare);
          exposes = child_exposes;
          aside = child_aside;
          stage = (refl, did.born.hand);
        })

    parent_half : IsOwnHalf W new.pool (live_then id l.guest.line false d) (parent_own x.own)
    parent_half = record {
      line = ap (λ (n : ℕ). n + 1) was.own.line;
      came = refl;
      refused = refl;
      own = record {
        memory = memory_kept W old.pool l.local new.pool d x.own did.same was.own.own.memory;
        marks = length-map x.own.alone (λ a. false) ∙ was.own.own.marks;
      };
    }

    pub parent_stands : l.local.hand ≡ None
        → IsDomain W new id (live_then id l.guest.line false d)
        (part_at (born old.script st id child) id)
    parent_stands none =
        subst (λ (p : Part). IsDomain W new id (live_then id l.guest.line false d) p)
        (sym parts.parent_is) (record {
          live = was.live;
          dom = refl;
          id_is = did.same.id ∙ was.id_is;
          stands = did.stands;
          own = parent_half;
          spare = was.spare ∙ ap (λ (o : Memory). is_some o.spare) (sym did.same.own);
          exposes = exposes_kept old.hv.heap.stock new.hv.heap.stock id l
              (live_then id l.guest.line false d) (did.pair.exposed id (λ s. did.pair.far (sym s)))
              (ap (λ (o : Memory). o.map.pages) did.same.own) was.exposes;
          aside = did.pair.aside id (λ s. did.pair.far (sym s)) ∙ was.aside;
          stage = (refl, did.same.hand ∙ none);
        })
