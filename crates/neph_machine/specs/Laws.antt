-- Laws of a machine over frames that stands for a state of its script's run.
use Rattle.std.specs.Prelude.{ℕ, ◌≡◌, ◌<◌, nat_lt, List, [], Some, IfSome, length, slice_index, slice_index_or}
use Rattle.neph_base.specs.declared.reply.Actor.{Actor}
use Rattle.neph_model.specs.WellFormed.{IsWellFormed}
use Rattle.neph_model.specs.Books.{State, counts, free, is_shared, pages_of}
use Rattle.neph_runs.specs.Orderly.{seat as part_at}
use Rattle.neph_pool.specs.Entries.{IsSoleAt}
use Rattle.neph_pool.specs.World.{World}
use Rattle.neph_memory.specs.Pages.{frame_at}
use Rattle.neph_guest.specs.declared.live.Live.{Live}
use Rattle.neph_machine.specs.declared.place.Place.TheVariants.{Domain}
use Rattle.neph_machine.specs.declared.machine.Machine.{Machine}
use Rattle.neph_machine.specs.Surveyed.{IsSurveyed}
use Rattle.neph_machine.specs.Places.{place_at}
use Rattle.neph_machine.specs.Reached.{state_after}
use Rattle.neph_machine.specs.StandsFor.{StandsFor}
use Rattle.neph_machine.specs.FrameUses.{AreFrameUses}

-- the colour of a page of a domain
abbrev pub colour_at : State → ℕ → ℕ → ℕ
colour_at st id pfn = slice_index_or (part_at st id).book.colours pfn 0

module _ {Pool Seat : Type 0} (W : World Pool Seat) where
  -- So it is, over a pool that tells its counts, of each machine and each state that the machine
  -- stands for and that its script's run comes to.
  abbrev pub OfEach : (Machine Pool Seat → State → Type 0) → Type 0
  OfEach Says = IsSurveyed W → (m : Machine Pool Seat) (before : List Actor)
      → IsWellFormed m.script → StandsFor W m (state_after m.script before)
      → Says m (state_after m.script before)

  -- So it is of the frame of each page of each domain's own.
  abbrev pub OfPages : (Machine Pool Seat → State → Live Pool Seat → ℕ → ℕ → ℕ → Type 0) → Type 0
  OfPages Says = OfEach (λ m st. (id : ℕ) (l : Live Pool Seat) → id < 64
      → place_at id m.places.items ≡ Domain l → (pfn f : ℕ)
      → frame_at l.local.own.map.pages pfn ≡ Some f → Says m st l id pfn f)

  -- The free list is as long as the definitions say.
  abbrev pub FreeIsListed : Type 0
  FreeIsListed = OfEach (λ m st. length m.hv.heap.stock.free ≡ free m.script st)

  -- The frames are used as the definitions count them.
  abbrev pub UsesAreCounts : Type 0
  UsesAreCounts = OfEach (λ m st. AreFrameUses W m (counts m.script st))

  -- A look at the count of a page's frame tells whether its colour is shared, where its domain has
  -- no clone in flight.
  abbrev pub CountTellsShared : Type 0
  CountTellsShared = OfPages (λ m st l id pfn f. (part_at st id).guest.begun ≡ []
      → IfSome (W.told m.pool) (λ counts. nat_lt 1 (slice_index counts f)
      ≡ is_shared (colour_at st id pfn) st.books))

  -- A page whose frame its domain has to itself shares its colour with no other.
  abbrev pub SoleIsAlone : Type 0
  SoleIsAlone = OfPages (λ m st l id pfn f. IsSoleAt (W.entries m.pool l.local.seat) f
      → pages_of (colour_at st id pfn) st.books ≡ 1)
