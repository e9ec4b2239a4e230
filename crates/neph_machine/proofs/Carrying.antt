-- What a turn leaves alone: the places of other ids.
use Rattle.std.proofs.Common.{◌≡◌, ℕ, ◌+◌, ◌/◌, ◌<◌, Bool, false, List, length, refl, sym, ap, subst, ◌∙◌}
use Rattle.std.specs.Prelude.{is_some, not}
use Rattle.std.specs.declared.option.Option.{Option}
use Rattle.neph_base.specs.declared.command.Command.{Command}
use Rattle.neph_base.specs.declared.command.Command.TheVariants as command
use Rattle.neph_base.specs.declared.sizes.TheConstants.{PAGE_BYTES}
use Rattle.neph_model.specs.declared.own.Own.{Own}
use Rattle.neph_model.specs.declared.script.Script.{Script}
use Rattle.neph_model.specs.declared.book.Stage.{Stage}
use Rattle.neph_model.specs.declared.book.Stage.TheVariants as book
use Rattle.neph_runs.specs.Orderly.{Seat as Part}
use Rattle.neph_pool.specs.declared.entry.Entry.{Entry}
use Rattle.neph_pool.specs.Names.{IsApart, only_name}
use Rattle.neph_pool.specs.World.{World, Spares}
use Rattle.neph_ptab.specs.Tables.{leaf_at}
use Rattle.neph_gmap.specs.declared.page.Page.{Page}
use Rattle.neph_memory.specs.declared.dom_local.DomLocal.{DomLocal}
use Rattle.neph_memory.specs.Pages.{frame_at}
use Rattle.neph_memory.specs.Memory.{page_bytes, vpn_mapping, leaf_count}
use Rattle.neph_memory.specs.OwnHalf.{IsReadAs}
use Rattle.neph_memory.proofs.Standing.{stands_spared}
use Rattle.neph_local.specs.declared.forking.Fork.{Fork}
use Rattle.neph_local.specs.Forks.{IsForking, IsForkInHand}
use Rattle.neph_guest.specs.declared.live.Live.{Live}
use Rattle.neph_guest.specs.OwnHalf.{IsOwnHalf}
use Rattle.neph_guest.specs.Turns.{IsLineInHand}
use Rattle.neph_heap.specs.declared.exposed_frame.ExposedFrame.{ExposedFrame}
use Rattle.neph_heap.specs.Lists.{Lists, exposed_of, aside_of, frame_in}
use Rattle.neph_machine.specs.declared.place.Place.{Place}
use Rattle.neph_machine.specs.declared.place.Place.TheVariants.{Empty, Flight as InFlight, Domain}
use Rattle.neph_machine.specs.declared.place.Flight.{Flight}
use Rattle.neph_machine.specs.declared.machine.Machine.{Machine}
use Rattle.neph_machine.specs.Places.{place_at, is_empty}
use Rattle.neph_machine.specs.StandsFor.{HasNone, Exposes, command_of, IsAtStage, IsDomain, IsForkIn, IsFlight, IsPlace}

-- a seat that has these names is apart where one with other names for the same is
pub apart_as : (ns ms ks : ℕ → Bool) → ks ≡ ms → IsApart ns ms → IsApart ns ks
apart_as ns ms ks e a d x y = a d x (sym (ap (λ (f : ℕ → Bool). f d) e) ∙ y)

module _ {Pool Seat : Type 0} (W : World Pool Seat) (p q : Pool) where
  -- the own half is what the entries of its seat say
  pub half_same : (l : Live Pool Seat) (o : Own) → W.entries q l.local.seat ≡ W.entries p l.local.seat → IsOwnHalf W p l o → IsOwnHalf W q l o
  half_same l o e h = record {
    line = h.line;
    came = h.came;
    refused = h.refused;
    own = record {
      memory = subst (λ (es : List (Option Entry)). IsReadAs (length l.local.own.map.pages) (page_bytes es l.local.own.map.pages) (vpn_mapping es l.local.tables.root l.local.own.map.pages) (leaf_at es l.local.tables.root) o.pages o.vmap o.leaves) (sym e) h.own.memory;
      marks = h.own.marks;
    };
  }

  -- so is the write in hand
  pub line_same : (d : DomLocal Pool Seat) (c : Command) → W.entries q d.seat ≡ W.entries p d.seat → IsLineInHand W p d c → IsLineInHand W q d c
  line_same d (command.W addr bytes) e h = record {
    pfn = h.pfn;
    range = h.range;
    mapped = ap (λ (es : List (Option Entry)). vpn_mapping es d.tables.root d.own.map.pages (addr / PAGE_BYTES)) e ∙ h.mapped;
    own = h.own;
    hand = h.hand;
  }
  line_same d _ e h = absurd h

  -- a fork is what the entries of both seats say
  pub fork_same : (d : DomLocal Pool Seat) (k : Fork Pool Seat) → W.fits q k.seat → W.entries q k.seat ≡ W.entries p k.seat → W.entries q d.seat ≡ W.entries p d.seat → IsForkInHand W p d k → IsForkInHand W q d k
  fork_same d k fits of_child of_parent h = record {
    forks = record {
      fits = fits;
      names = h.forks.names;
      forking = subst (λ (es : List (Option Entry)). IsForking es (W.entries q k.seat) d.own.map.pages k.next k.frames.items) (sym of_parent)
          (subst (λ (es : List (Option Entry)). IsForking (W.entries p d.seat) es d.own.map.pages k.next k.frames.items) (sym of_child) h.forks.forking);
    };
    began = h.began;
    apart = h.apart;
    enough = h.enough ∙ ap (λ (es : List (Option Entry)). leaf_count es d.tables.root + 2) (sym of_parent);
  }

-- one domain stands in a place
pub same_live : {Pool Seat : Type 0} (l k : Live Pool Seat) → Domain l ≡ Domain k → l ≡ k
same_live l k e = cc

pub same_flight : {Pool Seat : Type 0} (f g : Flight Pool Seat) → InFlight f ≡ InFlight g → f ≡ g
same_flight f g e = cc

-- the same pages are exposed where the same pages are the domain's own
pub exposes_kept : {Pool Seat : Type 0} (s t : Lists) (id : ℕ) (l k : Live Pool Seat) → exposed_of id t ≡ exposed_of id s → k.local.own.map.pages ≡ l.local.own.map.pages → Exposes s id l → Exposes t id k
exposes_kept s t id l k e same h = record {
  split = λ pfn lt. ap (λ (xs : List ExposedFrame). is_some (frame_in pfn xs)) e ∙ h.split pfn (subst (λ (ps : List Page). pfn < length ps) same lt) ∙ ap (λ (ps : List Page). not (is_some (frame_at ps pfn))) (sym same);
  within = λ pfn here. subst (λ (ps : List Page). pfn < length ps) (sym same) (h.within pfn (ap (λ (xs : List ExposedFrame). is_some (frame_in pfn xs)) (sym e) ∙ here));
}

-- the state has nothing of an id that it had nothing of
pub none_same : (s t : Lists) (id : ℕ) (x y : Part) → exposed_of id t ≡ exposed_of id s → y ≡ x → HasNone s id x → HasNone t id y
none_same s t id x y e same h = record {
  live = ap (λ (v : Part). is_some v.life) same ∙ h.live;
  begun = ap (λ (v : Part). v.guest.begun) same ∙ h.begun;
  spare = ap (λ (v : Part). v.book.spare) same ∙ h.spare;
  exposed = e ∙ h.exposed;
}

-- from the machine old to the machine new
module _ {Pool Seat : Type 0} (W : World Pool Seat) (old new : Machine Pool Seat) where
  -- the clones in flight of a domain are as before
  abbrev pub FlightsStay : ℕ → Type 0
  FlightsStay id = (child : ℕ) (f : Flight Pool Seat) → place_at child old.places.items ≡ InFlight f → f.parent ≡ id → place_at child new.places.items ≡ InFlight f

  -- What a turn leaves of an id, in which only seats with these names moved: its place, what the hypervisor has of it, and its seat.
  pub record Leaves (ns : ℕ → Bool) (id : ℕ) : Type 0 where
    pub place : place_at id new.places.items ≡ place_at id old.places.items
    pub exposed : exposed_of id new.hv.heap.stock ≡ exposed_of id old.hv.heap.stock
    pub aside : aside_of id new.hv.heap.stock ≡ aside_of id old.hv.heap.stock
    pub apart : is_empty (place_at id old.places.items) ≡ false → IsApart ns (only_name id)

  stage_same : (id : ℕ) (l : Live Pool Seat) (x : Part) (stage : Stage) → new.script ≡ old.script → W.entries new.pool l.local.seat ≡ W.entries old.pool l.local.seat → FlightsStay id → IsAtStage W old id l x stage → IsAtStage W new id l x stage
  stage_same id l x book.Ready s e stay h = h
  stage_same id l x book.Copying s e stay h = (h.0, line_same W old.pool new.pool l.local _ e (subst (λ (t : Script). IsLineInHand W old.pool l.local (command_of t x)) (sym s) h.1))
  stage_same id l x (book.Forking left) s e stay h = (
    h.0,
    h.1,
    record {
      child = h.2.child;
      begun = h.2.begun;
      flight = h.2.flight;
      there = stay h.2.child h.2.flight h.2.there h.2.parent;
      parent = h.2.parent;
      left_is = h.2.left_is;
    },
  )

  module _ (ns : ℕ → Bool) (script : new.script ≡ old.script) (spares : Spares W ns old.pool new.pool) where
    -- a domain whose seat is spared
    pub domain_same : (id : ℕ) (l : Live Pool Seat) (x y : Part) → Leaves ns id → place_at id old.places.items ≡ Domain l → FlightsStay id → y ≡ x → IsDomain W old id l x → IsDomain W new id l y
    domain_same id l x y leaves at stay same h = subst (λ (v : Part). IsDomain W new id l v) (sym same) (record {
      live = h.live;
      dom = h.dom;
      id_is = h.id_is;
      stands = stands_spared W ns old.pool new.pool l.local.seat l.local.id l.local.tables.root l.local.own h.stands spares apart;
      own = half_same W old.pool new.pool l x.own entries h.own;
      spare = h.spare;
      exposes = exposes_kept old.hv.heap.stock new.hv.heap.stock id l l leaves.exposed refl h.exposes;
      aside = leaves.aside ∙ h.aside;
      stage = stage_same id l x x.book.stage script entries stay h.stage;
    }) where
      apart : IsApart ns (W.names l.local.seat)
      apart = apart_as ns (only_name id) (W.names l.local.seat) (h.stands.names ∙ ap only_name h.id_is) (leaves.apart (ap is_empty at))

      entries : W.entries new.pool l.local.seat ≡ W.entries old.pool l.local.seat
      entries = spares.entries l.local.seat h.stands.fits apart

    -- the fork of a child in flight, where the seats of child and parent are spared
    fork_in : (f : Flight Pool Seat) (place : Place Pool Seat) (x : ℕ → Part) → place_at f.parent old.places.items ≡ place → Leaves ns f.parent → IsApart ns (only_name f.fork.child) → IsPlace W old f.parent place x → IsForkIn W old place f → IsForkIn W new place f
    fork_in f Empty x at leaves apart h k = absurd k
    fork_in f (InFlight g) x at leaves apart h k = absurd k
    fork_in f (Domain l) x at leaves apart h k = fork_same W old.pool new.pool l.local f.fork (spares.fits f.fork.seat k.forks.fits of_child) (spares.entries f.fork.seat k.forks.fits of_child) (spares.entries l.local.seat h.stands.fits of_parent) k where
      of_child : IsApart ns (W.names f.fork.seat)
      of_child = apart_as ns (only_name f.fork.child) (W.names f.fork.seat) k.forks.names apart

      of_parent : IsApart ns (W.names l.local.seat)
      of_parent = apart_as ns (only_name f.parent) (W.names l.local.seat) (h.stands.names ∙ ap only_name h.id_is) (leaves.apart (ap is_empty at))

    -- a child in flight
    pub flight_same : (id : ℕ) (f : Flight Pool Seat) (x : ℕ → Part) (y : Part) → Leaves ns id → place_at id old.places.items ≡ InFlight f → Leaves ns f.parent → y ≡ x f.parent → IsPlace W old f.parent (place_at f.parent old.places.items) x → IsFlight W old id f (x f.parent) → IsFlight W new id f y
    flight_same id f x y leaves at parent same there h = record {
      child = h.child;
      fork = subst (λ (place : Place Pool Seat). IsForkIn W new place f) (sym parent.place) (fork_in f (place_at f.parent old.places.items) x refl parent (subst (λ (n : ℕ). IsApart ns (only_name n)) (sym h.child) (leaves.apart (ap is_empty at))) there h.fork);
      begun = ap (λ (v : Part). v.guest.begun) same ∙ h.begun;
      aside = ap (λ (xs : List ℕ). length xs) leaves.aside ∙ h.aside ∙ sym (ap (λ (xs : List ExposedFrame). length xs) parent.exposed);
    }

    -- what a turn leaves of an id where a clone is in flight: of the parent as much
    abbrev pub LeavesParent : (ℕ → Part) → (ℕ → Part) → Place Pool Seat → Type 0
    LeavesParent x y Empty = Unit {0}
    LeavesParent x y (InFlight f) = Leaves ns f.parent × (y f.parent ≡ x f.parent)
    LeavesParent x y (Domain l) = Unit {0}

    same_by : (id : ℕ) (place : Place Pool Seat) (x y : ℕ → Part) → place_at id old.places.items ≡ place → Leaves ns id → LeavesParent x y place → FlightsStay id → y id ≡ x id → ((i : ℕ) → IsPlace W old i (place_at i old.places.items) x) → IsPlace W old id place x → IsPlace W new id place y
    same_by id Empty x y at leaves parent stay same each h = (none_same _ _ id (x id) (y id) leaves.exposed same h.0, leaves.aside ∙ h.1)
    same_by id (InFlight f) x y at leaves parent stay same each h = (none_same _ _ id (x id) (y id) leaves.exposed same h.0, flight_same id f x (y f.parent) leaves at parent.0 parent.1 (each f.parent) h.1)
    same_by id (Domain l) x y at leaves parent stay same each h = domain_same id l (x id) (y id) leaves at stay same h

    -- what stands in the place of an id that a turn leaves alone is what the definitions have of it
    pub place_same : (id : ℕ) (x y : ℕ → Part) → Leaves ns id → LeavesParent x y (place_at id old.places.items) → FlightsStay id → y id ≡ x id → ((i : ℕ) → IsPlace W old i (place_at i old.places.items) x) → IsPlace W new id (place_at id new.places.items) y
    place_same id x y leaves parent stay same each = subst (λ (place : Place Pool Seat). IsPlace W new id place y) (sym leaves.place) (same_by id (place_at id old.places.items) x y refl leaves parent stay same each (each id))
