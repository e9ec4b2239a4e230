-- A fork in hand: what the seat of the child has so far.
use Rattle.std.specs.Prelude.{◌≡◌, ◌≢◌, ◌+◌, ◌<◌, ◌≤◌, ◌⊎◌, ℕ, true, List, [], length, slice_get, is_some, if◌then◌else◌, None, Some, IsSome}
use Rattle.std.specs.declared.option.Option.{Option}
use Rattle.neph_pool.specs.declared.entry.Entry.{Entry}
use Rattle.neph_pool.specs.declared.entry.Hold.TheVariants.{Counted}
use Rattle.neph_pool.specs.Bytes.{bytes_at}
use Rattle.neph_pool.specs.Entries.{hold_at, is_here, IsSoleAt}
use Rattle.neph_pool.specs.Handing.{AreDistinct}
use Rattle.neph_pool.specs.Names.{only_name}
use Rattle.neph_pool.specs.World.{World}
use Rattle.neph_gmap.specs.declared.page.Page.{Page}
use Rattle.neph_gmap.specs.declared.page.Page.TheVariants.{Exposed as Away}
use Rattle.neph_gmap.specs.GuestPages.{vpns_at}
use Rattle.neph_memory.specs.declared.own.Own.{Own}
use Rattle.neph_memory.specs.declared.dom_local.DomLocal.{DomLocal}
use Rattle.neph_memory.specs.Pages.{frame_at}
use Rattle.neph_memory.specs.Memory.{page_bytes, IsMade}
use Rattle.neph_memory.specs.Domains.{domain_leaf_count}
use Rattle.neph_memory.specs.Building.{IsAmong}
use Rattle.neph_local.specs.declared.forking.Fork.{Fork}

-- the frame is that of a local page before the page `next`, but not of the identity page
abbrev pub IsDone : List Page → ℕ → ℕ → Type 0
IsDone ps next g = (p : ℕ) × (1 ≤ p) × (p < next) × (frame_at ps p ≡ Some g)

-- from the page `next` on none is the domain's own
abbrev pub NoPageLeft : List Page → ℕ → Type 0
NoPageLeft ps next = (q : ℕ) → next ≤ q → frame_at ps q ≡ None

-- p is the first local page from the page `next` on
pub record IsNextPage (ps : List Page) (next p : ℕ) : Type 0 where
  pub late : next ≤ p
  pub local : IsSome (frame_at ps p)
  pub first : (q : ℕ) → next ≤ q → q < p → frame_at ps q ≡ None

-- The parent's entries are es, and the child's ef. The child's seat has one counted reference of
-- the frame of each page that is done, and these frames to itself, and nothing else.
pub record IsForking (es ef : List (Option Entry)) (ps : List Page) (next : ℕ) (frames : List ℕ)
    : Type 0 where
  pub lent : (g : ℕ) → IsDone ps next g → hold_at ef g ≡ Some (Counted 1)
  pub bytes : (p g : ℕ) → 1 ≤ p → p < next → frame_at ps p ≡ Some g
      → page_bytes es ps p ≡ Some (bytes_at ef g)
  pub aside : (g : ℕ) → IsAmong frames g → IsSoleAt ef g
  pub once : AreDistinct frames
  pub only : (g : ℕ) → is_here (hold_at ef g) ≡ true → IsDone ps next g ⊎ IsAmong frames g

-- the seat k is the child's
pub record Forks {Pool Seat : Type 0} (W : World Pool Seat) (p : Pool) (s k : Seat) (child : ℕ)
    (ps : List Page) (next : ℕ) (frames : List ℕ) : Type 0 where
  pub fits : W.fits p k
  pub names : W.names k ≡ only_name child
  pub forking : IsForking (W.entries p s) (W.entries p k) ps next frames

-- a fork of the domain d is in hand, and the page `next` is the next to be shared
abbrev pub IsForkOf : {Pool Seat : Type 0} → World Pool Seat → Pool → DomLocal Pool Seat
    → Fork Pool Seat → ℕ → Type 0
IsForkOf W p d k next = Forks W p d.seat k.seat k.child d.own.map.pages next k.frames.items

-- 1 where there is a leaf table
abbrev pub leaf_count_of : Option ℕ → ℕ
leaf_count_of leaf = if is_some leaf then 1 else 0

-- A fork of the domain d is in hand: beside it, enough frames are put aside for the child's root,
-- its leaf tables and its identity page.
pub record IsForkInHand {Pool Seat : Type 0} (W : World Pool Seat) (p : Pool)
    (d : DomLocal Pool Seat) (k : Fork Pool Seat) : Type 0 where
  pub forks : IsForkOf W p d k k.next
  pub began : 1 ≤ k.next
  pub apart : d.id ≢ k.child
  pub enough : length k.frames.items ≡ domain_leaf_count W p d + 2

-- a frame that waits for the child: of a page of the parent from the page `from` on, or put aside
abbrev pub Coming : List Page → ℕ → ℕ → List ℕ → ℕ → Type 0
Coming ps from next frames g =
    ((p : ℕ) × (from ≤ p) × (p < next) × (frame_at ps p ≡ Some g)) ⊎ IsAmong frames g

-- the child has its parent's pages from page 1 to before page n
pub record Adopts (ef : List (Option Entry)) (root : ℕ) (o : Own) (ps : List Page) (n m : ℕ)
    (frames : List ℕ) : Type 0 where
  pub made : IsMade ef root o (Coming ps n m frames)
  pub identity : slice_get o.map.pages 0 ≡ Some Away
  pub done : (q : ℕ) → 1 ≤ q → q < n → frame_at o.map.pages q ≡ frame_at ps q
  pub later : (q : ℕ) → n ≤ q → q < length o.map.pages → slice_get o.map.pages q ≡ Some Away
  pub unlisted : (q : ℕ) → vpns_at o.map q ≡ []
  pub count : length o.map.pages ≡ length ps

-- what the adoption needs of the parent's pages and of the child's entries
pub record MayAdopt (ef : List (Option Entry)) (ps : List Page) (frames : List ℕ) : Type 0 where
  pub alone : (q x g : ℕ) → frame_at ps q ≡ Some g → frame_at ps x ≡ Some g → q ≡ x
  pub aside : (g : ℕ) → IsAmong frames g → IsSoleAt ef g
  pub lent : (p g : ℕ) → 1 ≤ p → frame_at ps p ≡ Some g → hold_at ef g ≡ Some (Counted 1)
