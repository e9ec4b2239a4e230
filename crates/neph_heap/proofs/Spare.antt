-- A frame that was taken off the free list goes to another seat.
use Rattle.std.proofs.Common.{◌≡◌, ℕ, [], ◌∷◌, sym, ◌∙◌}
use Rattle.neph_pool.specs.Handing.{left_after, giving}
use Rattle.neph_pool.specs.World.{World, Stays}
use Rattle.neph_pool.proofs.Walks.{left_one}
use Rattle.neph_heap.specs.Lists.{Lists}
use Rattle.neph_heap.specs.Heap.{IsHeap}
use Rattle.neph_heap.specs.Pages.{pages_in}
use Rattle.neph_heap.proofs.Shown.{pages_same}
use Rattle.neph_heap.proofs.Heaps.{heap_handed, left_among, loose_sole}
use Rattle.neph_heap.proofs.Filling.{shown_handed}

module _ {Pool Seat : Type 0} (W : World Pool Seat) where
  left_so : (p q : Pool) (s t : Seat) (f : ℕ) → W.entries q t ≡ giving (W.entries p s) f → W.entries q t ≡ left_after (W.entries p s) (f ∷ [])
  left_so p q s t f e = e ∙ sym (left_one (W.entries p s) f)

  -- the loose frame was given away, and nothing is loose
  pub spare_handed : (p q : Pool) (s t : Seat) (l : Lists) (f : ℕ) → IsHeap W p s l (f ∷ []) → Stays W q s t → W.frames q ≡ W.frames p → W.entries q t ≡ giving (W.entries p s) f → IsHeap W q t l []
  spare_handed p q s t l f h stays count given =
      heap_handed W p q s t l (f ∷ []) h stays.fits stays.names count (left_among (W.entries p s) (W.entries q t) (f ∷ []) (loose_sole W p s l (f ∷ []) h) (left_so p q s t f given))

  -- and the exposed pages are as before
  pub spare_shown : (p q : Pool) (s t : Seat) (l : Lists) (f : ℕ) → IsHeap W p s l (f ∷ []) → W.entries q t ≡ giving (W.entries p s) f → pages_in (W.entries q t) l.exposed ≡ pages_in (W.entries p s) l.exposed
  spare_shown p q s t l f h given = pages_same (W.entries p s) (W.entries q t) l.exposed (shown_handed W p s l (f ∷ []) (W.entries q t) h (left_so p q s t f given))
