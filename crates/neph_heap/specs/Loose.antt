-- A frame comes to the hypervisor's seat, and goes from it. In between it is loose.
use Rattle.std.specs.Prelude.{◌≡◌, ◌∷◌, ℕ, [], None}
use Rattle.neph_pool.specs.Entries.{hold_at, without, IsSoleAt}
use Rattle.neph_pool.specs.Handing.{taking}
use Rattle.neph_pool.specs.World.{World, Stays}
use Rattle.neph_heap.specs.Lists.{Lists}
use Rattle.neph_heap.specs.Heap.{IsHeap}
use Rattle.neph_heap.specs.Pages.{pages_in}

module _ {Pool Seat : Type 0} (W : World Pool Seat) where
  -- The seat s, which had nothing of the frame f, took it from the seat d, and has it to itself.
  -- Its other entries are as they were.
  pub record TakesFrame (p : Pool) (d s : Seat) (q : Pool) (t : Seat) (f : ℕ) : Type 0 where
    pub absent : hold_at (W.entries p s) f ≡ None
    pub sole : IsSoleAt (W.entries q t) f
    pub taken : W.entries q t ≡ taking (W.entries p d) (W.entries p s) f
    pub stays : Stays W q s t
    pub frames : W.frames q ≡ W.frames p

  -- The seat s gave the frame f away. Its other entries are as they were.
  pub record GivesFrame (p : Pool) (s : Seat) (q : Pool) (t : Seat) (f : ℕ) : Type 0 where
    pub left : W.entries q t ≡ without (W.entries p s) f
    pub stays : Stays W q s t
    pub frames : W.frames q ≡ W.frames p

  -- the exposed pages of these lists are as they were
  abbrev pub KeepsExposed : Pool → Seat → Pool → Seat → Lists → Type 0
  KeepsExposed p s q t l =
      pages_in (W.entries q t) l.exposed ≡ pages_in (W.entries p s) l.exposed

  -- a frame that comes is loose
  abbrev pub FrameComes : Type 0
  FrameComes = (p q : Pool) (d s t : Seat) (l : Lists) (f : ℕ) → IsHeap W p s l []
      → TakesFrame p d s q t f → IsHeap W q t l (f ∷ []) × KeepsExposed p s q t l

  -- a loose frame that goes leaves none
  abbrev pub FrameGoes : Type 0
  FrameGoes = (p q : Pool) (s t : Seat) (l : Lists) (f : ℕ) → IsHeap W p s l (f ∷ [])
      → GivesFrame p s q t f → IsHeap W q t l [] × KeepsExposed p s q t l
