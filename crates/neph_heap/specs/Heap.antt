-- The hypervisor's frames stand in a pool.
use Rattle.std.specs.Prelude.{◌≡◌, ◌≤◌, ◌++◌, ℕ, List, [], true, length, slice_set}
use Rattle.neph_pool.specs.Names.{only_name}
use Rattle.neph_pool.specs.World.{World, Moves}
use Rattle.neph_heap.specs.declared.exposed_frame.ExposedFrame.{ExposedFrame}
use Rattle.neph_heap.specs.Lists.{Lists, exposed_of, aside_of, pfns_of, frames_of, exposed_frames, aside_frames}
use Rattle.neph_heap.specs.Holds.{times, Has}

-- exposed pages of one domain: each stands once, and there are not more than a domain may have
pub record ArePages (xs : List ExposedFrame) : Type 0 where
  pub once : (pfn : ℕ) → times pfn (pfns_of xs) ≤ 1
  pub few : length xs ≤ 1024

-- the frames that the seat has to itself: those of exposed pages, those put aside, and loose ones,
-- which wait to be handed on
abbrev pub own_frames : Lists → List ℕ → List ℕ
own_frames l loose = exposed_frames l.exposed ++ (loose ++ aside_frames l.aside)

-- there are as many frames aside for a child, which has no exposed page yet, as its parent has
-- exposed pages
pub record MayBear (l : Lists) (child parent : ℕ) : Type 0 where
  pub none : exposed_of child l ≡ []
  pub enough : length (aside_of child l) ≡ length (exposed_of parent l)

-- the lists after the birth of a child: its exposed pages lie in the frames that were aside for it
pub record IsBorn (l m : Lists) (child : ℕ) : Type 0 where
  pub frames : frames_of (exposed_of child m) ≡ aside_of child l
  pub rest : m ≡ record l {
    exposed = slice_set l.exposed child (exposed_of child m);
    aside = slice_set l.aside child [];
  }

-- the lists after the end of a domain: the frames of its exposed pages are free
abbrev pub lists_left : Lists → ℕ → Lists
lists_left l id = record l {
  free = l.free ++ frames_of (exposed_of id l);
  exposed = slice_set l.exposed id [];
}

module _ {Pool Seat : Type 0} (W : World Pool Seat) where
  -- The seat is the hypervisor's. It keeps the free frames of these lists, with no reference, and
  -- has its own frames to itself. All are different, and it has no other.
  pub record IsHeap (p : Pool) (s : Seat) (l : Lists) (loose : List ℕ) : Type 0 where
    pub fits : W.fits p s
    pub first : W.names s 0 ≡ true
    pub few : W.frames p ≤ 16384
    pub domains : length l.exposed ≡ 64
    pub children : length l.aside ≡ 64
    pub pages : (id : ℕ) → ArePages (exposed_of id l)
    pub has : Has (W.entries p s) [] (own_frames l loose) l.free

  -- a seat with this name alone, which has these frames to itself and no other
  pub record IsFilled (p : Pool) (s : Seat) (id : ℕ) (frames : List ℕ) : Type 0 where
    pub fits : W.fits p s
    pub names : W.names s ≡ only_name id
    pub has : Has (W.entries p s) [] frames []

  -- a call on the exposed pages: the seat keeps its names, every other seat is as it was, and
  -- nothing is shared
  pub record IsPageCall (p : Pool) (s : Seat) (q : Pool) (t : Seat) : Type 0 where
    pub moves : Moves W p s q t
    pub shares : W.shares q ≡ W.shares p
