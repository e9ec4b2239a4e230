-- Free frames go into a new seat.
use Rattle.std.proofs.Common.{◌≡◌, ◌≢◌, ℕ, ◌+◌, ◌*◌, ◌<◌, ◌≤◌, Bool, true, List, [], ◌++◌, length, Some, None, refl, sym, ap, ◌∙◌, subst, arith, eq-eqb}
use Rattle.std.proofs.Math.Nat.{le-mul_of_pos_right}
use Rattle.std.specs.declared.option.Option.{Option}
use Rattle.neph_pool.specs.declared.entry.Entry.{Entry}
use Rattle.neph_pool.specs.declared.entry.Hold.TheVariants.{Sole}
use Rattle.neph_pool.specs.Entries.{hold_at, words_at, is_here, entry_count, IsShaped}
use Rattle.neph_pool.specs.Handing.{left_after, moved_into, nothing, MayHand}
use Rattle.neph_pool.specs.Names.{IsApart, IsCapped, only_name, without_name, both_names, name_count}
use Rattle.neph_pool.specs.World.{World, Stays, Spares, Moves, IsFresh}
use Rattle.neph_pool.proofs.Parts.{hold_at-nothing, count_moved, name_count-some}
use Rattle.neph_pool.proofs.Tables.{count_nothing}
use Rattle.neph_heap.specs.Lists.{Lists, exposed_frames}
use Rattle.neph_heap.specs.Holds.{times, HoldsAmong}
use Rattle.neph_heap.specs.Heap.{IsHeap, IsFilled}
use Rattle.neph_heap.specs.Pages.{pages_in}
use Rattle.neph_heap.proofs.Among.{distinct_of}
use Rattle.neph_heap.proofs.Shown.{pages_same}
use Rattle.neph_heap.proofs.Heaps.{heap_named, heap_retaken, heap_handed, not_first, loose_sole, loose_once, exposed_sole, left_among, left_words, moved_has, may_hand, spares_widen, spares_then, within_both, without_within, apart_both}

module _ {Pool Seat : Type 0} (W : World Pool Seat) where
  -- free frames were retaken, and there is an empty seat with the name of an id
  pub record IsGathered (p : Pool) (s : Seat) (l : Lists) (id : ℕ) (q : Pool) (t u : Seat) (m : Lists) (xs : List ℕ) : Type 0 where
    pub heap : IsHeap W q t m xs
    pub fits : W.fits q u
    pub named : W.names t ≡ without_name (W.names s) id
    pub names : W.names u ≡ only_name id
    pub empty : (f : ℕ) → hold_at (W.entries q u) f ≡ None
    pub count : entry_count (W.entries q u) ≡ 0
    pub spares : Spares W (W.names s) p q
    pub exposed : m.exposed ≡ l.exposed
    pub shown : (f : ℕ) → 0 < times f (exposed_frames l.exposed) → words_at (W.entries q t) f ≡ words_at (W.entries p s) f

  -- loose frames are handed on: what is shown stays
  pub shown_handed : (q : Pool) (t : Seat) (m : Lists) (xs : List ℕ) (fs : List (Option Entry)) → IsHeap W q t m xs → fs ≡ left_after (W.entries q t) xs → (f : ℕ) → 0 < times f (exposed_frames m.exposed) → words_at fs f ≡ words_at (W.entries q t) f
  shown_handed q t m xs fs h left f lt =
      let e = exposed_sole W q t m xs h f lt in
      left_words (W.entries q t) fs xs left f (omega (arith, e.2)) (ap is_here e.0)

  -- frames off the free list are retaken: what is shown stays
  pub shown_retaken : (p q : Pool) (s t : Seat) (l : Lists) → ((f : ℕ) → words_at (W.entries q t) f ≡ words_at (W.entries p s) f) → pages_in (W.entries q t) l.exposed ≡ pages_in (W.entries p s) l.exposed
  shown_retaken p q s t l words = pages_same (W.entries p s) (W.entries q t) l.exposed (λ f lt. words f)

  pub gather : (p q r : Pool) (s t v u : Seat) (l m : Lists) (id : ℕ) (xs : List ℕ) → IsHeap W p s l [] → W.names s id ≡ true → id ≢ 0 → IsFresh W q u id → W.fits q t → W.names t ≡ without_name (W.names s) id → W.entries q t ≡ W.entries p s → Spares W (W.names s) p q
      → l.free ≡ m.free ++ xs → m ≡ record l { free = m.free } → Moves W q t r v → HoldsAmong xs (Some Sole) (W.entries q t) (W.entries r v) → ((f : ℕ) → words_at (W.entries r v) f ≡ words_at (W.entries q t) f) → IsGathered p s l id r v u m xs
  gather p q r s t v u l m id xs h mine other new fits names same spares left rest moves holds words =
      let one : IsHeap W q t l [] = heap_named W p q s t l [] h fits (ap (λ (ns : ℕ → Bool). ns 0) names ∙ not_first (W.names s) id other h.first) spares.frames same in
      let apart : IsApart (W.names t) (W.names u) = apart_both (W.names s) (W.names t) (W.names u) id names new.names in
      let still : W.entries r u ≡ nothing (W.frames q) = moves.others.entries u new.fits apart ∙ new.entries in record {
        heap = heap_retaken W q r t v l m xs one moves.fits moves.names moves.others.frames left rest holds;
        fits = moves.others.fits u new.fits apart;
        named = moves.names ∙ names;
        names = new.names;
        empty = λ f. ap (λ (es : List (Option Entry)). hold_at es f) still ∙ hold_at-nothing (W.frames q) f;
        count = ap entry_count still ∙ count_nothing (W.frames q);
        spares = spares_then W (W.names s) p q r spares (spares_widen W (W.names s) (W.names t) q r (λ e x. without_within (W.names s) id e (sym (ap (λ (ns : ℕ → Bool). ns e) names) ∙ x)) moves.others);
        exposed = ap (λ (k : Lists). k.exposed) rest;
        shown = λ f lt. words f ∙ ap (λ (es : List (Option Entry)). words_at es f) same;
      }

  pub gathered_may : (p : Pool) (s : Seat) (l : Lists) (id : ℕ) (q : Pool) (t u : Seat) (m : Lists) (xs zs : List ℕ) → IsGathered p s l id q t u m xs → zs ≡ xs → MayHand (W.entries q t) (W.entries q u) zs
  gathered_may p s l id q t u m xs zs g e = subst (λ (ys : List ℕ). MayHand (W.entries q t) (W.entries q u) ys) (sym e) (may_hand (W.entries q t) (W.entries q u) xs (loose_sole W q t m xs g.heap) (loose_once W q t m xs g.heap))

  pub gathered_room : (p : Pool) (s : Seat) (l : Lists) (id : ℕ) (q : Pool) (t u : Seat) (m : Lists) (xs zs : List ℕ) → IsGathered p s l id q t u m xs → zs ≡ xs → id < 64 → length xs ≤ W.cap p → IsCapped (W.cap q) (W.names u) (moved_into (W.entries q t) (W.entries q u) zs)
  gathered_room p s l id q t u m xs zs g e lt few unnamed =
      let once : (f : ℕ) → times f zs ≤ 1 = λ f. let o = loose_once W q t m xs g.heap f in let k = ap (λ (ys : List ℕ). times f ys) e in omega arith in
      let more : entry_count (moved_into (W.entries q t) (W.entries q u) zs) ≤ entry_count (W.entries q u) + length zs = count_moved (W.entries q t) (W.entries q u) zs (distinct_of zs once) in
      let some : 1 ≤ name_count (W.names u) = name_count-some (W.names u) id lt (ap (λ (ns : ℕ → Bool). ns id) g.names ∙ eq-eqb id id refl) in
      let most : W.cap q ≤ W.cap q * name_count (W.names u) = le-mul_of_pos_right (W.cap q) (omega arith) in
      omega (arith, more, g.count, ap length e, few, g.spares.cap, most)

  -- they were handed over
  pub record IsGiven (p : Pool) (s : Seat) (l : Lists) (id : ℕ) (q : Pool) (t u : Seat) (m : Lists) (xs : List ℕ) : Type 0 where
    pub heap : IsHeap W q t m []
    pub made : IsFilled W q u id xs
    pub shown : pages_in (W.entries q t) m.exposed ≡ pages_in (W.entries p s) l.exposed
    pub spares : Spares W (W.names s) p q

  pub give : (p : Pool) (s : Seat) (l : Lists) (id : ℕ) (q r : Pool) (t v u w : Seat) (m : Lists) (xs zs : List ℕ) → IsGathered p s l id q t u m xs → W.names s id ≡ true → zs ≡ xs → IsShaped (W.frames q) (W.entries q t) → IsShaped (W.frames q) (W.entries q u)
      → Stays W r t v → Stays W r u w → W.entries r v ≡ left_after (W.entries q t) zs → W.entries r w ≡ moved_into (W.entries q t) (W.entries q u) zs → Spares W (both_names (W.names t) (W.names u)) q r → IsGiven p s l id r v w m xs
  give p s l id q r t v u w m xs zs g mine e st su from to left moved others =
      let left' : W.entries r v ≡ left_after (W.entries q t) xs = left ∙ ap (λ (ys : List ℕ). left_after (W.entries q t) ys) e in
      let moved' : W.entries r w ≡ moved_into (W.entries q t) (W.entries q u) xs = moved ∙ ap (λ (ys : List ℕ). moved_into (W.entries q t) (W.entries q u) ys) e in
      let sole = loose_sole W q t m xs g.heap in record {
        heap = heap_handed W q r t v m xs g.heap from.fits from.names others.frames (left_among (W.entries q t) (W.entries r v) xs sole left');
        made = record {
          fits = to.fits;
          names = to.names ∙ g.names;
          has = moved_has (W.entries q t) (W.entries q u) (W.entries r w) xs sole g.empty (loose_once W q t m xs g.heap) (su.places ∙ sym st.places) moved';
        };
        shown = ap (λ xss. pages_in (W.entries r v) xss) g.exposed ∙ pages_same (W.entries p s) (W.entries r v) l.exposed (λ f lt.
            let lt' : 0 < times f (exposed_frames m.exposed) = (let k = ap (λ xss. times f (exposed_frames xss)) g.exposed in omega (arith, k, lt)) in
            shown_handed q t m xs (W.entries r v) g.heap left' f lt' ∙ g.shown f lt);
        spares = spares_then W (W.names s) p q r g.spares (spares_widen W (W.names s) (both_names (W.names t) (W.names u)) q r (within_both (W.names s) (W.names t) (W.names u) id mine g.named g.names) others);
      }
