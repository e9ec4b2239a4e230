-- A frame comes to the hypervisor's seat, and goes from it.
use Rattle.std.proofs.Common.{◌≡◌, ◌≢◌, ◌<◌, ◌≤◌, ℕ, Bool, List, [], ◌∷◌, Some, None, refl, ap, sym, ◌∙◌, inl, inr, arith}
use Rattle.std.specs.declared.option.Option.{Option}
use Rattle.std.proofs.lemmas.List.{get_or-set_other}
use Rattle.neph_pool.specs.declared.entry.Entry.{Entry}
use Rattle.neph_pool.specs.declared.entry.Hold.{Hold}
use Rattle.neph_pool.specs.declared.entry.Hold.TheVariants.{Sole}
use Rattle.neph_pool.specs.Entries.{entry_at, hold_at, words_at, words_of, without}
use Rattle.neph_pool.specs.Handing.{taking, moved_of}
use Rattle.neph_pool.specs.World.{World}
use Rattle.neph_pool.proofs.Entries.{hold_at-without, hold_at-without_other, words_at-without_other}
use Rattle.neph_pool.proofs.Parts.{hold_at-taking_other}
use Rattle.neph_pool.proofs.Rows.{same_or_not}
use Rattle.neph_heap.specs.Lists.{exposed_frames}
use Rattle.neph_heap.specs.Holds.{times, HoldsAmong}
use Rattle.neph_heap.specs.Heap.{IsHeap, own_frames}
use Rattle.neph_heap.specs.Loose.{FrameComes, FrameGoes}
use Rattle.neph_heap.proofs.Counting.{one_same, one_else, times_cons, times_one}
use Rattle.neph_heap.proofs.Shown.{pages_same}
use Rattle.neph_heap.proofs.Steps.{has_taken}
use Rattle.neph_heap.proofs.Heaps.{heap_free, heap_handed, exposed_sole, times_own}

-- what a list of one frame names
one_once : (f g : ℕ) → times g (f ∷ []) ≤ 1
one_once f g = elim (same_or_not f g) [
  | inl e ↦ omega (arith, times_cons g f [], one_same g f e)
  | inr n ↦ omega (arith, times_cons g f [], one_else g f n)
]

one_is : (f g : ℕ) → 0 < times g (f ∷ []) → g ≡ f
one_is f g lt = elim (same_or_not g f) [
  | inl e ↦ e
  | inr n ↦ absurd (omega (arith, times_cons g f [], one_else g f (λ e. n (sym e)), lt))
]

one_not : (f g : ℕ) → times g (f ∷ []) ≡ 0 → g ≢ f
one_not f g z e = omega (arith, z, times_one f, ap (λ (k : ℕ). times k (f ∷ [])) e)

-- the taker sees the words of other frames as before
words_at-taking_other : (es to : List (Option Entry)) (f g : ℕ) → g ≢ f → words_at (taking es to f) g ≡ words_at to g
unfolding words_at
words_at-taking_other es to f g n = ap words_of (get_or-set_other to f g (moved_of (entry_at es f)) None n)

-- frame by frame what the taker holds, and what the giver
come_among : (es to fs : List (Option Entry)) (f : ℕ) → fs ≡ taking es to f → hold_at fs f ≡ Some Sole → HoldsAmong (f ∷ []) (Some Sole) to fs
come_among es to fs f is sole = record {
  within = λ g lt. ap (hold_at fs) (one_is f g lt) ∙ sole;
  others = λ g z. ap (λ (zs : List (Option Entry)). hold_at zs g) is ∙ hold_at-taking_other es to f g (one_not f g z);
}

gone_among : (es fs : List (Option Entry)) (f : ℕ) → fs ≡ without es f → HoldsAmong (f ∷ []) None es fs
gone_among es fs f is = record {
  within = λ g lt. ap (hold_at fs) (one_is f g lt) ∙ ap (λ (zs : List (Option Entry)). hold_at zs f) is ∙ hold_at-without es f;
  others = λ g z. ap (λ (zs : List (Option Entry)). hold_at zs g) is ∙ hold_at-without_other es f g (one_not f g z);
}

no_hold : (h : Option Hold) → h ≡ Some Sole → h ≡ None → ⊥
no_hold None e n = absurd (cc)
no_hold (Some h) e n = absurd (cc)

pub comes : {Pool Seat : Type 0} (W : World Pool Seat) → FrameComes W
comes W p q d s t l f h come = (heap, pages_same (W.entries p s) (W.entries q t) l.exposed shown) where
  heap : IsHeap W q t l (f ∷ [])
  heap = heap_free W p q s t l l [] (f ∷ []) h come.stays.fits (ap (λ (ns : ℕ → Bool). ns 0) come.stays.names ∙ h.first) come.frames refl
      (has_taken (W.entries p s) (W.entries q t) (f ∷ []) [] (own_frames l []) l.free (own_frames l (f ∷ [])) h.has
      (come_among (W.entries p d) (W.entries p s) (W.entries q t) f come.taken come.sole) (one_once f)
      (λ g lt. ap (hold_at (W.entries p s)) (one_is f g lt) ∙ come.absent)
      (λ g. omega (arith, times_own g l (f ∷ []), times_own g l [])))

  shown : (g : ℕ) → 0 < times g (exposed_frames l.exposed) → words_at (W.entries q t) g ≡ words_at (W.entries p s) g
  shown g lt =
      let apart : g ≢ f = (λ e. no_hold (hold_at (W.entries p s) g) (exposed_sole W p s l [] h g lt).0 (ap (hold_at (W.entries p s)) e ∙ come.absent)) in
      ap (λ (zs : List (Option Entry)). words_at zs g) come.taken ∙ words_at-taking_other (W.entries p d) (W.entries p s) f g apart

pub goes : {Pool Seat : Type 0} (W : World Pool Seat) → FrameGoes W
goes W p q s t l f h go = (heap, pages_same (W.entries p s) (W.entries q t) l.exposed shown) where
  heap : IsHeap W q t l []
  heap = heap_handed W p q s t l (f ∷ []) h go.stays.fits go.stays.names go.frames (gone_among (W.entries p s) (W.entries q t) f go.left)

  shown : (g : ℕ) → 0 < times g (exposed_frames l.exposed) → words_at (W.entries q t) g ≡ words_at (W.entries p s) g
  shown g lt = ap (λ (zs : List (Option Entry)). words_at zs g) go.left ∙ words_at-without_other (W.entries p s) f g (one_not f g (omega (arith, (exposed_sole W p s l (f ∷ []) h g lt).2)))
