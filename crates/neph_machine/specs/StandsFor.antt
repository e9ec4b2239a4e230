-- The machine over frames stands for a state of the definitions.
use Rattle.std.specs.Prelude.{ℕ, true, false, ◌≡◌, ◌<◌, ◌≤◌, ◌-◌, not, [], ◌∷◌, length, count_by, None, is_some}
use Rattle.std.specs.List.{range_with_len}
use Rattle.neph_base.specs.declared.command.Command.{Command}
use Rattle.neph_model.specs.declared.own.Own.{Own}
use Rattle.neph_model.specs.declared.script.Script.{Script}
use Rattle.neph_model.specs.declared.book.Stage.{Stage}
use Rattle.neph_model.specs.declared.book.Stage.TheVariants as book
use Rattle.neph_model.specs.Programs.{command_at}
use Rattle.neph_model.specs.Machine.{program_of}
use Rattle.neph_model.specs.Books.{State, goes_shared}
use Rattle.neph_runs.specs.Orderly.{Seat as Part, seat as part_at}
use Rattle.neph_pool.specs.World.{World}
use Rattle.neph_memory.specs.declared.room.TheConstants.{MAX_HELD}
use Rattle.neph_memory.specs.Pages.{frame_at}
use Rattle.neph_memory.specs.Domains.{IsStanding}
use Rattle.neph_local.specs.Forks.{IsForkInHand}
use Rattle.neph_guest.specs.declared.live.Live.{Live}
use Rattle.neph_guest.specs.declared.live.Stage.TheVariants as guest
use Rattle.neph_guest.specs.OwnHalf.{IsOwnHalf}
use Rattle.neph_guest.specs.Turns.{IsLineInHand}
use Rattle.neph_rows.specs.Records.{shared_of}
use Rattle.neph_heap.specs.Lists.{Lists, exposed_of, aside_of, frame_in}
use Rattle.neph_heap.specs.Heap.{IsHeap}
use Rattle.neph_heap.specs.Pages.{pages_in}
use Rattle.neph_accounts.specs.Colours.{IsStood}
use Rattle.neph_machine.specs.declared.place.Place.{Place}
use Rattle.neph_machine.specs.declared.place.Place.TheVariants.{Empty, Flight as InFlight, Domain}
use Rattle.neph_machine.specs.declared.place.Flight.{Flight}
use Rattle.neph_machine.specs.declared.machine.Machine.{Machine}
use Rattle.neph_machine.specs.Places.{place_at, is_empty}
use Rattle.neph_machine.specs.Rows.{rows_of}

-- Of an id that has no live domain the definitions keep nothing, and the hypervisor has no exposed
-- page.
pub record HasNone (stock : Lists) (id : ℕ) (x : Part) : Type 0 where
  pub live : is_some x.life ≡ false
  pub begun : x.guest.begun ≡ []
  pub spare : x.book.spare ≡ false
  pub exposed : exposed_of id stock ≡ []

-- The exposed pages of a domain that the hypervisor has are just those that aren't its own.
pub record Exposes {Pool Seat : Type 0} (stock : Lists) (id : ℕ) (l : Live Pool Seat)
    : Type 0 where
  pub split : (pfn : ℕ) → pfn < length l.local.own.map.pages
      → is_some (frame_in pfn (exposed_of id stock))
      ≡ not (is_some (frame_at l.local.own.map.pages pfn))
  pub within : (pfn : ℕ) → is_some (frame_in pfn (exposed_of id stock)) ≡ true
      → pfn < length l.local.own.map.pages

-- how many pages a clone of a domain has left to share, from this page on
abbrev pub left_from : Own → ℕ → ℕ
left_from o next = count_by (goes_shared o) (range_with_len next (length o.pages - next))

-- the command at the line of a domain
abbrev pub command_of : Script → Part → Command
command_of s x = command_at s (program_of x.life) x.own.line

module _ {Pool Seat : Type 0} (W : World Pool Seat) (m : Machine Pool Seat) where
  -- A clone of the domain l is in flight: its child stands in the place of this id, and so many
  -- pages are left to share.
  pub record IsInFlight (id : ℕ) (l : Live Pool Seat) (x : Part) (left : ℕ) : Type 0 where
    pub child : ℕ
    pub begun : x.guest.begun ≡ child ∷ []
    pub flight : Flight Pool Seat
    pub there : place_at child m.places.items ≡ InFlight flight
    pub parent : flight.parent ≡ id
    pub left_is : left ≡ left_from x.own flight.fork.next

  -- the domain l is so far with its line
  abbrev pub IsAtStage : ℕ → Live Pool Seat → Part → Stage → Type 0
  IsAtStage id l x book.Ready = (l.guest.stage ≡ guest.Ready) × (l.local.hand ≡ None)
  IsAtStage id l x book.Copying = (l.guest.stage ≡ guest.Copying)
      × IsLineInHand W m.pool l.local (command_of m.script x)
  IsAtStage id l x (book.Forking left) = (l.guest.stage ≡ guest.Forking) × (l.local.hand ≡ None)
      × IsInFlight id l x left

  -- The live domain of an id: its memory stands, and with its line and marks is the own half of the
  -- definitions.
  pub record IsDomain (id : ℕ) (l : Live Pool Seat) (x : Part) : Type 0 where
    pub live : is_some x.life ≡ true
    pub dom : l.guest.dom ≡ id
    pub id_is : l.local.id ≡ id
    pub stands : IsStanding W m.pool l.local
    pub own : IsOwnHalf W m.pool l x.own
    pub spare : x.book.spare ≡ is_some l.local.own.spare
    pub exposes : Exposes m.hv.heap.stock id l
    pub aside : aside_of id m.hv.heap.stock ≡ []
    pub stage : IsAtStage id l x x.book.stage

  -- a fork of what stands in a place is in hand
  abbrev pub IsForkIn : Place Pool Seat → Flight Pool Seat → Type 0
  IsForkIn Empty f = ⊥
  IsForkIn (InFlight g) f = ⊥
  IsForkIn (Domain l) f = IsForkInHand W m.pool l.local f.fork

  -- A child in flight: a fork of its parent's is in hand, and for each exposed page of the parent a
  -- frame is put aside. The parent has begun it, by the definitions.
  pub record IsFlight (id : ℕ) (f : Flight Pool Seat) (parent : Part) : Type 0 where
    pub child : f.fork.child ≡ id
    pub fork : IsForkIn (place_at f.parent m.places.items) f
    pub begun : parent.guest.begun ≡ id ∷ []
    pub aside : length (aside_of id m.hv.heap.stock)
        ≡ length (exposed_of f.parent m.hv.heap.stock)

  -- what stands in the place of an id is what the definitions have of the ids
  abbrev pub IsPlace : ℕ → Place Pool Seat → (ℕ → Part) → Type 0
  IsPlace id Empty parts = HasNone m.hv.heap.stock id (parts id)
      × (aside_of id m.hv.heap.stock ≡ [])
  IsPlace id (InFlight f) parts = HasNone m.hv.heap.stock id (parts id)
      × IsFlight id f (parts f.parent)
  IsPlace id (Domain l) parts = IsDomain id l (parts id)

  -- The machine stands for a state: the shared half is that of the hypervisor's tables and of the
  -- bytes in its frames; what stands in each id's place is what the definitions have of the id; and
  -- two pages lie in one frame exactly where they have one colour. The hypervisor's seat has every
  -- name that no other seat has.
  pub record StandsFor (st : State) : Type 0 where
    pub frames : W.frames m.pool ≡ m.script.frames
    pub cap : MAX_HELD ≤ W.cap m.pool
    pub heap : IsHeap W m.pool m.hv.heap.seat m.hv.heap.stock []
    pub shared : st.machine.shared ≡ shared_of m.hv.registry
        (pages_in (W.entries m.pool m.hv.heap.seat) m.hv.heap.stock.exposed)
    pub places : length m.places.items ≡ 64
    pub names : (id : ℕ) → id < 64
        → W.names m.hv.heap.seat id ≡ is_empty (place_at id m.places.items)
    pub each : (id : ℕ) → IsPlace id (place_at id m.places.items) (part_at st)
    pub colours : IsStood (rows_of m) st.books
