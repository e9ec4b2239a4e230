-- A machine that starts: the domains of its script's first lines stand.
use Rattle.std.specs.Prelude.{ℕ, ◌≡◌, ◌≤◌, ◌<◌, ◌+◌, true, [], length, take, drop, replicate, slice_set, IsSome, Some, None, false}
use Rattle.neph_base.specs.declared.sizes.TheConstants.{TABLE_ENTRIES}
use Rattle.neph_model.specs.declared.script.Script.{Script}
use Rattle.neph_model.specs.Books.{State, start_state}
use Rattle.neph_model.specs.Start.{started_512s, start_exposed}
use Rattle.neph_model.specs.WellFormed.{frames_of_starts}
use Rattle.neph_runs.specs.Orderly.{seat as part_at}
use Rattle.neph_pool.specs.Names.{without_name}
use Rattle.neph_pool.specs.World.{World, Spares}
use Rattle.neph_memory.specs.declared.own.Own.{Own}
use Rattle.neph_memory.specs.declared.room.TheConstants.{MAX_HELD}
use Rattle.neph_memory.specs.Domains.{IsStanding, domain_leaf}
use Rattle.neph_memory.specs.Memory.{is_marked}
use Rattle.neph_memory.specs.Pages.{frame_at}
use Rattle.neph_local.specs.Starts.{IsStarted}
use Rattle.neph_guest.specs.declared.live.Guest.{Guest}
use Rattle.neph_guest.specs.declared.live.Live.{Live}
use Rattle.neph_guest.specs.declared.live.Stage.TheVariants.{Ready}
use Rattle.neph_heap.specs.Lists.{exposed_of}
use Rattle.neph_heap.specs.Heap.{IsHeap}
use Rattle.neph_heap.specs.Pages.{pages_in}
use Rattle.neph_machine.specs.declared.place.Place.TheVariants.{Domain}
use Rattle.neph_machine.specs.declared.machine.Machine.{Machine}
use Rattle.neph_machine.specs.Places.{place_at, is_empty}
use Rattle.neph_machine.specs.StandsFor.{IsPlace}

-- a script with the first so many of its domain lines
abbrev pub first_lines : ℕ → Script → Script
first_lines n s = record s { starts = take n s.starts }

-- the state at the start of those
abbrev pub opened : ℕ → Script → State
opened n s = start_state (first_lines n s)

-- the guest of a starting domain
abbrev pub start_guest : ℕ → Guest
start_guest id =
    record { dom = id; line = 0; came = false; failed = false; stage = Ready }

-- each page of the domain's own is marked as in no other domain
abbrev pub AreMarked : Own → Type 0
AreMarked o = (pfn f : ℕ) → frame_at o.map.pages pfn ≡ Some f → is_marked o pfn ≡ true

module _ {Pool Seat : Type 0} (W : World Pool Seat) where
  -- The domains of the first so many lines stand in their places, and no other. There are frames
  -- for those of the lines that are left.
  pub record IsOpening (m : Machine Pool Seat) (n : ℕ) : Type 0 where
    pub frames : W.frames m.pool ≡ m.script.frames
    pub cap : MAX_HELD ≤ W.cap m.pool
    pub heap : IsHeap W m.pool m.hv.heap.seat m.hv.heap.stock []
    pub places : length m.places.items ≡ 64
    pub names : (id : ℕ) → id < 64
        → W.names m.hv.heap.seat id ≡ is_empty (place_at id m.places.items)
    pub each : (id : ℕ)
        → IsPlace W m id (place_at id m.places.items) (part_at (opened n m.script))
    pub marked : (id : ℕ) (l : Live Pool Seat) → place_at id m.places.items ≡ Domain l
        → AreMarked l.local.own
    pub aside : m.hv.heap.stock.aside ≡ replicate 64 []
    pub pages : pages_in (W.entries m.pool m.hv.heap.seat) m.hv.heap.stock.exposed
        ≡ (opened n m.script).machine.shared.pages
    pub room : frames_of_starts (drop n m.script.starts) ≤ length m.hv.heap.stock.free

  -- A domain of so many pages has started in the place of an id.
  pub record HasOpened (old new : Machine Pool Seat) (id pages : ℕ) : Type 0 where
    pub domain : Live Pool Seat
    pub places : new.places.items ≡ slice_set old.places.items id (Domain domain)
    pub script : new.script ≡ old.script
    pub registry : new.hv.registry ≡ old.hv.registry
    pub guest : domain.guest ≡ start_guest id
    pub id_is : domain.local.id ≡ id
    pub stands : IsStanding W new.pool domain.local
    pub started : IsStarted W new.pool domain.local id pages
    pub leaves : (i : ℕ) → i < started_512s pages → IsSome (domain_leaf W new.pool domain.local i)
    pub none : (i : ℕ) → started_512s pages ≤ i → i < TABLE_ENTRIES
        → domain_leaf W new.pool domain.local i ≡ None
    pub left : length old.hv.heap.stock.free
        ≤ length new.hv.heap.stock.free + (pages + 1 + started_512s pages)
    pub exposed : new.hv.heap.stock.exposed
        ≡ slice_set old.hv.heap.stock.exposed id (exposed_of id new.hv.heap.stock)
    pub aside : new.hv.heap.stock.aside ≡ old.hv.heap.stock.aside
    pub shown : pages_in (W.entries new.pool new.hv.heap.seat) new.hv.heap.stock.exposed
        ≡ slice_set (pages_in (W.entries old.pool old.hv.heap.seat) old.hv.heap.stock.exposed) id
        start_exposed
    pub names : W.names new.hv.heap.seat ≡ without_name (W.names old.hv.heap.seat) id
    pub spares : Spares W (W.names old.hv.heap.seat) old.pool new.pool
    pub heap : IsHeap W new.pool new.hv.heap.seat new.hv.heap.stock []
    pub shares : W.shares new.pool ≡ W.shares old.pool

  -- what the start of the domains leaves as it was
  pub record Keeps (old new : Machine Pool Seat) : Type 0 where
    pub script : new.script ≡ old.script
    pub registry : new.hv.registry ≡ old.hv.registry
    pub shares : W.shares new.pool ≡ W.shares old.pool
