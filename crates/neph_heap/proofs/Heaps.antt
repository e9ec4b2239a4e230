-- The heap after a change.
use Rattle.std.proofs.Common.{◌≡◌, ◌≢◌, ℕ, zero, suc, ◌+◌, ◌<◌, ◌≤◌, ◌==◌, ◌&&◌, ◌||◌, not, if◌then◌else◌, Bool, true, false, List, [], ◌∷◌, ◌++◌, length, reverse, length-set, length-append, replicate, get_or, set, Some, None, refl, sym, ap, ◌∙◌, subst, arith, inl, inr, ◌⊎◌, ne_eqb}
use Rattle.std.specs.List.{flat_map, range_with_len, sum_by}
use Rattle.std.proofs.lemmas.List.Concat.{length-flat_map}
use Rattle.std.proofs.lemmas.List.Sums.{sum_by-cons}
use Rattle.std.specs.declared.option.Option.{Option}
use Rattle.std.proofs.lemmas.Bool.{eqb-true}
use Rattle.std.proofs.lemmas.List.{length-replicate, length-map, get_or-set_same, get_or-set_other}
use Rattle.neph_pool.specs.declared.entry.Entry.{Entry}
use Rattle.neph_pool.specs.declared.entry.Hold.{Hold}
use Rattle.neph_pool.specs.declared.entry.Hold.TheVariants.{Zero, Sole}
use Rattle.neph_pool.specs.Entries.{entry_at, entry_as, hold_at, hold_of, words_of, words_at, is_here, is_whole, IsShaped}
use Rattle.neph_pool.specs.Handing.{left_of, left_hold, moved_of, moved_hold, left_after, moved_into, add_entries, MayHand}
use Rattle.neph_pool.specs.Names.{IsApart, only_name, without_name, both_names}
use Rattle.neph_pool.specs.World.{World, Spares, Moves}
use Rattle.neph_pool.proofs.Calls.{spares_trans}
use Rattle.neph_pool.proofs.Parts.{place_of}
use Rattle.neph_pool.proofs.Rows.{same_or_not}
use Rattle.neph_pool.proofs.Walks.{entry_left, entry_moved, length-left_after, length-moved_into}
use Rattle.neph_heap.specs.declared.exposed_frame.ExposedFrame.{ExposedFrame}
use Rattle.neph_heap.specs.Lists.{Lists, no_lists, frames_of, exposed_of, aside_of, frame_in, exposed_frames, aside_frames, exposed_count, aside_count}
use Rattle.neph_heap.specs.Holds.{times, HasAt, Has, HoldsAmong}
use Rattle.neph_heap.specs.Heap.{ArePages, IsHeap, IsFilled, own_frames}
use Rattle.neph_heap.proofs.Counting.{few_of, times_append, times_set, times_in, down_in, down_out}
use Rattle.neph_heap.proofs.Among.{among_times, times_among, times_none, distinct_of}
use Rattle.neph_heap.proofs.Steps.{nat_by, has_once, has_zero, has_sole, has_few, has_same, has_retaken, has_handed, has_released, has_joined}
use Rattle.neph_heap.proofs.Maps.{frame_named}

pub hold_past : (es : List (Option Entry)) (f : ℕ) → length es ≤ f → hold_at es f ≡ None
unfolding hold_at
hold_past [] f le = refl
hold_past (e ∷ es) zero le = absurd (omega arith)
hold_past (e ∷ es) (suc f) le = hold_past es f (omega arith)

no_flat : (X : Type 0) (g : List X → List ℕ) (n : ℕ) → g [] ≡ [] → flat_map g (replicate n []) ≡ []
no_flat X g zero e = refl
no_flat X g (suc n) e = ap (λ (xs : List ℕ). xs ++ flat_map g (replicate n [])) e ∙ no_flat X g n e

no_exposed : (n : ℕ) → exposed_frames (replicate n []) ≡ []
unfolding exposed_frames
no_exposed n = no_flat ExposedFrame frames_of n refl

no_aside : (n : ℕ) → aside_frames (replicate n []) ≡ []
unfolding aside_frames
no_aside n = no_flat ℕ (λ xs. xs) n refl

abbrev no_item : {X : Type 0} → List X
no_item = []

pub none_at : {X : Type 0} (n i : ℕ) → get_or (replicate n (no_item {X = X})) i [] ≡ []
none_at zero i = refl
none_at (suc n) zero = refl
none_at {X} (suc n) (suc i) = none_at {X = X} n i

pub lt_or : (f n : ℕ) → (f < n) ⊎ (n ≤ f)
lt_or f zero = inr (omega arith)
lt_or zero (suc n) = inl (omega arith)
lt_or (suc f) (suc n) = elim (lt_or f n) [ inl a ↦ inl (omega arith) | inr b ↦ inr (omega arith) ]

pub no_pages : ArePages []
no_pages = record { once = λ pfn. omega arith; few = omega arith }

-- the own frames, list by list
pub times_own : (f : ℕ) (l : Lists) (loose : List ℕ) → times f (own_frames l loose) ≡ times f (exposed_frames l.exposed) + (times f loose + times f (aside_frames l.aside))
times_own f l loose = omega (arith, times_append f (exposed_frames l.exposed) (loose ++ aside_frames l.aside), times_append f loose (aside_frames l.aside))

pub not_first : (ns : ℕ → Bool) (d : ℕ) → d ≢ 0 → ns 0 ≡ true → without_name ns d 0 ≡ true
not_first ns d n e = rw (e, ne_eqb 0 d (λ k. n (sym k))) refl

and_left : (a b : Bool) → (a && b) ≡ true → a ≡ true
and_left true b e = refl
and_left false b e = absurd (cc)

and_right : (a b : Bool) → (a && b) ≡ true → b ≡ true
and_right true b e = e
and_right false b e = absurd (cc)

not_yes : (b : Bool) → not b ≡ true → b ≡ true → ⊥
not_yes true e q = cc
not_yes false e q = cc

-- a seat without a name, and one with that name alone
pub without_apart : (ns : ℕ → Bool) (d : ℕ) → IsApart (without_name ns d) (only_name d)
without_apart ns d e x y = not_yes (e == d) (and_right (ns e) (not (e == d)) x) y

or_by : (a b : Bool) → (a || b) ≡ true → (a ≡ true) ⊎ (b ≡ true)
or_by true b e = inl refl
or_by false b e = inr e

pub without_within : (ns : ℕ → Bool) (d e : ℕ) → without_name ns d e ≡ true → ns e ≡ true
without_within ns d e x = and_left (ns e) (not (e == d)) x

hold_of-as : (h : Option Hold) (ws : List ℕ) → hold_of (entry_as h ws) ≡ h
hold_of-as None ws = refl
hold_of-as (Some h) ws = refl

here_by : (h : Option Hold) (k : Hold) → h ≡ Some k → is_here h ≡ true
here_by h k e = ap is_here e

-- frames that the giver had to itself are gone
pub left_among : (es fs : List (Option Entry)) (xs : List ℕ) → ((f : ℕ) → 0 < times f xs → hold_at es f ≡ Some Sole) → fs ≡ left_after es xs → HoldsAmong xs None es fs
unfolding hold_at
left_among es fs xs sole is = record {
  within = λ f lt.
      let fit = place_of es es f refl (here_by (hold_at es f) Sole (sole f lt)) in
      ap (λ (zs : List (Option Entry)). hold_at zs f) is ∙ ap hold_of (entry_left es xs f fit)
      ∙ ap (λ b. hold_of (if b then left_of (entry_at es f) else entry_at es f)) (times_among f xs lt)
      ∙ hold_of-as (left_hold (hold_of (entry_at es f))) (words_of (entry_at es f)) ∙ ap left_hold (sole f lt);
  others = λ f z. elim (lt_or f (length es)) [
    | inl lt ↦
        ap (λ (zs : List (Option Entry)). hold_at zs f) is ∙ ap hold_of (entry_left es xs f lt)
        ∙ ap (λ b. hold_of (if b then left_of (entry_at es f) else entry_at es f)) (times_none f xs z)
    | inr le ↦ ap (λ (zs : List (Option Entry)). hold_at zs f) is ∙ hold_past (left_after es xs) f (omega (arith, length-left_after es xs)) ∙ sym (hold_past es f le)
  ];
}

-- of the other frames the giver sees the same words
pub left_words : (es fs : List (Option Entry)) (xs : List ℕ) → fs ≡ left_after es xs → (f : ℕ) → times f xs ≡ 0 → is_here (hold_at es f) ≡ true → words_at fs f ≡ words_at es f
unfolding words_at
left_words es fs xs is f z here =
    ap (λ (zs : List (Option Entry)). words_at zs f) is ∙ ap words_of (entry_left es xs f (place_of es es f refl here))
    ∙ ap (λ b. words_of (if b then left_of (entry_at es f) else entry_at es f)) (times_none f xs z)

-- a seat that had nothing has the frames to itself
pub moved_has : (es to fs : List (Option Entry)) (xs : List ℕ) → ((f : ℕ) → 0 < times f xs → hold_at es f ≡ Some Sole) → ((f : ℕ) → hold_at to f ≡ None) → ((f : ℕ) → times f xs ≤ 1) → length to ≡ length es → fs ≡ moved_into es to xs → Has fs [] xs []
unfolding hold_at
moved_has es to fs xs sole nothing once long is = record {
  each = λ f. nat_by (times f xs) (λ n. HasAt (hold_at fs f) 0 n 0)
      (λ z.
      let none : hold_at fs f ≡ None = ap (λ (zs : List (Option Entry)). hold_at zs f) is ∙ elim (lt_or f (length to)) [
        | inl lt ↦ ap hold_of (entry_moved es to xs f lt) ∙ ap (λ b. hold_of (if b then moved_of (entry_at es f) else entry_at to f)) (times_none f xs z) ∙ nothing f
        | inr le ↦ hold_past (moved_into es to xs) f (omega (arith, length-moved_into es to xs))
      ] in rw none refl)
      (λ some.
      let fit = place_of es to f long (here_by (hold_at es f) Sole (sole f some)) in
      let mine : hold_at fs f ≡ Some Sole = ap (λ (zs : List (Option Entry)). hold_at zs f) is ∙ ap hold_of (entry_moved es to xs f fit)
      ∙ ap (λ b. hold_of (if b then moved_of (entry_at es f) else entry_at to f)) (times_among f xs some)
      ∙ hold_of-as (moved_hold (hold_of (entry_at es f))) (words_of (entry_at es f)) ∙ ap moved_hold (sole f some) in
      rw mine (let o = once f in omega (arith, o, some), refl));
}

-- frames that the giver has to itself may be handed over
pub may_hand : (es to : List (Option Entry)) (xs : List ℕ) → ((f : ℕ) → 0 < times f xs → hold_at es f ≡ Some Sole) → ((f : ℕ) → times f xs ≤ 1) → MayHand es to xs
may_hand es to xs sole once = record {
  once = distinct_of xs once;
  each = λ f among. let s = sole f (among_times f xs among) in (ap is_here s, λ shared. absurd (let w : true ≡ false = sym (ap is_whole s) ∙ shared in cc));
}

aside_set : (f : ℕ) (l : Lists) (child : ℕ) (xs : List ℕ) → child < length l.aside → times f (aside_frames (set l.aside child xs)) + times f (aside_of child l) ≡ times f (aside_frames l.aside) + times f xs
unfolding aside_frames
aside_set f l child xs lt = times_set f (λ (ys : List ℕ). ys) l.aside child xs [] lt

pub within_both : (ns ms ks : ℕ → Bool) (d : ℕ) → ns d ≡ true → ms ≡ without_name ns d → ks ≡ only_name d → (e : ℕ) → both_names ms ks e ≡ true → ns e ≡ true
within_both ns ms ks d y m k e x = elim (or_by (ms e) (ks e) x) [
  | inl a ↦ without_within ns d e (sym (ap (λ (f : ℕ → Bool). f e) m) ∙ a)
  | inr b ↦ ap ns (eqb-true e d (sym (ap (λ (f : ℕ → Bool). f e) k) ∙ b)) ∙ y
]

pub apart_left : (ns ms : ℕ → Bool) (d : ℕ) → ms ≡ without_name ns d → IsApart ms (only_name d)
apart_left ns ms d m e x y = without_apart ns d e (sym (ap (λ (f : ℕ → Bool). f e) m) ∙ x) y

pub apart_both : (ns ms ks : ℕ → Bool) (d : ℕ) → ms ≡ without_name ns d → ks ≡ only_name d → IsApart ms ks
apart_both ns ms ks d m k e x y = without_apart ns d e (sym (ap (λ (f : ℕ → Bool). f e) m) ∙ x) (sym (ap (λ (f : ℕ → Bool). f e) k) ∙ y)

sums : (xss : List (List ExposedFrame)) → sum_by (λ (xs : List ExposedFrame). length (frames_of xs)) xss ≡ sum_by (λ (xs : List ExposedFrame). length xs) xss
sums [] = refl
sums (xs ∷ xss) = omega (arith, sum_by-cons (λ (ys : List ExposedFrame). length (frames_of ys)) xs xss, sum_by-cons (λ (ys : List ExposedFrame). length ys) xs xss, length-map xs (λ (x : ExposedFrame). x.frame), sums xss)

module _ {Pool Seat : Type 0} (W : World Pool Seat) where
  pub start_heap : (p : Pool) (s : Seat) (n : ℕ) (l : Lists) → W.fits p s → W.names s 0 ≡ true → W.frames p ≡ n → n ≤ 16384 → IsShaped (W.frames p) (W.entries p s) → ((f : ℕ) → f < n → hold_at (W.entries p s) f ≡ Some Zero) → l ≡ record no_lists { free = reverse (range_with_len 0 n) } → IsHeap W p s l []
  start_heap p s n l fits first count few shape kept is =
      subst (λ (k : Lists). IsHeap W p s k []) (sym is) (record {
        fits = fits;
        first = first;
        few = omega (arith, count, few);
        domains = length-replicate {A = List ExposedFrame} 64 [];
        children = length-replicate {A = List ℕ} 64 [];
        pages = λ id. subst ArePages (sym (none_at 64 id)) no_pages;
        has = record {
          each = λ f.
              let p0 : times f (exposed_frames (replicate 64 [])) ≡ 0 = ap (λ (xs : List ℕ). times f xs) (no_exposed 64) in
              let o0 : times f (aside_frames (replicate 64 [])) ≡ 0 = ap (λ (xs : List ℕ). times f xs) (no_aside 64) in
              let own : times f (own_frames no_lists []) ≡ 0 = omega (arith, times_own f no_lists [], p0, o0) in
              elim (lt_or f n) [
                | inl lt ↦ rw (kept f lt, own, down_in f n lt) (refl, refl)
                | inr le ↦ rw (hold_past (W.entries p s) f (omega (arith, shape.places, count, le)), own, down_out f n le) refl
              ];
        };
      })

  -- the lists of exposed pages are as before
  pub heap_by : (p q : Pool) (s t : Seat) (l m : Lists) (loose more : List ℕ) → IsHeap W p s l loose → W.fits q t → W.names t 0 ≡ true → W.frames q ≡ W.frames p → m.exposed ≡ l.exposed → length m.aside ≡ 64 → Has (W.entries q t) [] (own_frames m more) m.free → IsHeap W q t m more
  heap_by p q s t l m loose more h fits first count same children has = record {
    fits = fits;
    first = first;
    few = omega (arith, h.few, count);
    domains = ap length same ∙ h.domains;
    children = children;
    pages = λ id. subst (λ (xss : List (List ExposedFrame)). ArePages (get_or xss id [])) (sym same) (h.pages id);
    has = has;
  }

  -- only the free list is another
  pub heap_free : (p q : Pool) (s t : Seat) (l m : Lists) (loose more : List ℕ) → IsHeap W p s l loose → W.fits q t → W.names t 0 ≡ true → W.frames q ≡ W.frames p → m ≡ record l { free = m.free } → Has (W.entries q t) [] (own_frames l more) m.free → IsHeap W q t m more
  heap_free p q s t l m loose more h fits first count rest has =
      subst (λ (k : Lists). IsHeap W q t k more) (sym rest) (heap_by p q s t l (record l { free = m.free }) loose more h fits first count refl h.children has)

  -- the same entries, and other names
  pub heap_named : (p q : Pool) (s t : Seat) (l : Lists) (loose : List ℕ) → IsHeap W p s l loose → W.fits q t → W.names t 0 ≡ true → W.frames q ≡ W.frames p → W.entries q t ≡ W.entries p s → IsHeap W q t l loose
  heap_named p q s t l loose h fits first count same =
      heap_free p q s t l l loose loose h fits first count refl (subst (λ (es : List (Option Entry)). Has es [] (own_frames l loose) l.free) (sym same) h.has)

  -- Frames off the free list: each is named once there, and kept.
  pub off_once : (p : Pool) (s : Seat) (l m : Lists) (loose xs : List ℕ) → IsHeap W p s l loose → l.free ≡ m.free ++ xs → (f : ℕ) → (times f xs ≤ 1) × (times f xs ≤ times f l.free)
  off_once p s l m loose xs h left f =
      let e = ap (λ (ys : List ℕ). times f ys) left in
      let o = has_once (W.entries p s) [] (own_frames l loose) l.free h.has f in
      (omega (arith, e, o, times_append f m.free xs), omega (arith, e, times_append f m.free xs))

  pub off_zero : (p : Pool) (s : Seat) (l m : Lists) (loose xs : List ℕ) → IsHeap W p s l loose → l.free ≡ m.free ++ xs → (f : ℕ) → 0 < times f xs → hold_at (W.entries p s) f ≡ Some Zero
  off_zero p s l m loose xs h left f lt = has_zero (W.entries p s) [] (own_frames l loose) l.free h.has f (omega (arith, lt, (off_once p s l m loose xs h left f).1))

  -- they are retaken, and are loose then
  pub heap_retaken : (p q : Pool) (s t : Seat) (l m : Lists) (xs : List ℕ) → IsHeap W p s l [] → W.fits q t → W.names t ≡ W.names s → W.frames q ≡ W.frames p → l.free ≡ m.free ++ xs → m ≡ record l { free = m.free } → HoldsAmong xs (Some Sole) (W.entries p s) (W.entries q t) → IsHeap W q t m xs
  heap_retaken p q s t l m xs h fits names count left rest now =
      heap_free p q s t l m [] xs h fits (ap (λ (ns : ℕ → Bool). ns 0) names ∙ h.first) count rest
      (has_retaken (W.entries p s) (W.entries q t) xs [] (own_frames l []) l.free (own_frames l xs) m.free h.has now
      (λ f. let e = ap (λ (ys : List ℕ). times f ys) left in omega (arith, e, times_append f m.free xs))
      (λ f. omega (arith, times_own f l xs, times_own f l [])))

  -- loose frames are the seat's alone
  pub loose_sole : (p : Pool) (s : Seat) (l : Lists) (xs : List ℕ) → IsHeap W p s l xs → (f : ℕ) → 0 < times f xs → hold_at (W.entries p s) f ≡ Some Sole
  loose_sole p s l xs h f lt = has_sole (W.entries p s) [] (own_frames l xs) l.free h.has f (omega (arith, times_own f l xs, lt))

  pub loose_once : (p : Pool) (s : Seat) (l : Lists) (xs : List ℕ) → IsHeap W p s l xs → (f : ℕ) → times f xs ≤ 1
  loose_once p s l xs h f = omega (arith, times_own f l xs, has_once (W.entries p s) [] (own_frames l xs) l.free h.has f)

  -- loose frames go away
  pub heap_handed : (p q : Pool) (s t : Seat) (l : Lists) (xs : List ℕ) → IsHeap W p s l xs → W.fits q t → W.names t ≡ W.names s → W.frames q ≡ W.frames p → HoldsAmong xs None (W.entries p s) (W.entries q t) → IsHeap W q t l []
  heap_handed p q s t l xs h fits names count now =
      heap_free p q s t l l xs [] h fits (ap (λ (ns : ℕ → Bool). ns 0) names ∙ h.first) count refl
      (has_handed (W.entries p s) (W.entries q t) xs [] (own_frames l xs) l.free (own_frames l []) h.has now
      (λ f. omega (arith, times_own f l xs, times_own f l [])))

  -- an exposed page's frame is the seat's alone, and is in no other list
  pub exposed_sole : (p : Pool) (s : Seat) (l : Lists) (loose : List ℕ) → IsHeap W p s l loose → (f : ℕ) → 0 < times f (exposed_frames l.exposed) → (hold_at (W.entries p s) f ≡ Some Sole) × (times f (exposed_frames l.exposed) ≡ 1) × (times f loose + times f (aside_frames l.aside) + times f l.free ≡ 0)
  exposed_sole p s l loose h f lt =
      let own = times_own f l loose in
      let o = has_once (W.entries p s) [] (own_frames l loose) l.free h.has f in
      (has_sole (W.entries p s) [] (own_frames l loose) l.free h.has f (omega (arith, own, lt)), omega (arith, own, o, lt), omega (arith, own, o, lt))

  -- loose frames are put aside for a child that has none
  pub heap_set_aside : (p : Pool) (s : Seat) (l m : Lists) (child : ℕ) (xs : List ℕ) → IsHeap W p s l xs → child < 64 → aside_of child l ≡ [] → m ≡ record l { aside = set l.aside child xs } → IsHeap W p s m []
  heap_set_aside p s l m child xs h lt none is =
      let n : Lists = record l { aside = set l.aside child xs } in
      subst (λ (k : Lists). IsHeap W p s k []) (sym is) (heap_by p p s s l n xs [] h h.fits h.first refl refl (length-set l.aside child xs ∙ h.children)
      (has_same (W.entries p s) (W.entries p s) [] (own_frames l xs) l.free (own_frames n []) l.free h.has (λ f. refl)
      (λ f. let was = ap (λ (ys : List ℕ). times f ys) none in let more = aside_set f l child xs (omega (arith, lt, h.children)) in omega (arith, times_own f l xs, times_own f n [], was, more)) (λ f. refl)))

  -- a seat of kept frames is joined
  pub heap_joined : (p q : Pool) (s o t : Seat) (l : Lists) (xs : List ℕ) → IsHeap W p s l [] → Has (W.entries p o) [] [] xs → W.fits q t → W.names t ≡ both_names (W.names s) (W.names o) → W.frames q ≡ W.frames p → W.entries q t ≡ add_entries (W.entries p s) (W.entries p o) → ((f : ℕ) → is_here (hold_at (W.entries p o) f) ≡ true → hold_at (W.entries p s) f ≡ None) → IsHeap W q t (record l { free = l.free ++ xs }) []
  heap_joined p q s o t l xs h kept fits names count is absent =
      heap_free p q s t l (record l { free = l.free ++ xs }) [] [] h fits (ap (λ (ns : ℕ → Bool). ns 0) names ∙ ap (λ b. b || W.names o 0) h.first) count refl
      (has_joined (W.entries p s) (W.entries p o) (W.entries q t) (own_frames l []) l.free xs h.has kept is absent)

  -- there is room for the free frames
  pub heap_few : (p : Pool) (s : Seat) (l : Lists) (loose : List ℕ) → IsHeap W p s l loose → IsShaped (W.frames p) (W.entries p s) → length l.free ≤ 16384
  heap_few p s l loose h shape = omega (arith, has_few (W.frames p) (W.entries p s) [] (own_frames l loose) l.free shape.places h.has, h.few)

  -- another seat after a call that spares it
  pub filled_still : (ns : ℕ → Bool) (p q : Pool) (s : Seat) (id : ℕ) (xs : List ℕ) → IsFilled W p s id xs → Spares W ns p q → IsApart ns (only_name id) → IsFilled W q s id xs
  filled_still ns p q s id xs h spares apart =
      let a : IsApart ns (W.names s) = (λ d x y. apart d x (sym (ap (λ (ms : ℕ → Bool). ms d) h.names) ∙ y)) in record {
        fits = spares.fits s h.fits a;
        names = h.names;
        has = subst (λ (es : List (Option Entry)). Has es [] xs []) (sym (spares.entries s h.fits a)) h.has;
      }

  -- what spares all seats but those of some names spares all but those of more
  pub spares_widen : (ms ns : ℕ → Bool) (p q : Pool) → ((e : ℕ) → ns e ≡ true → ms e ≡ true) → Spares W ns p q → Spares W ms p q
  spares_widen ms ns p q w s = record { frames = s.frames; cap = s.cap; fits = λ t f a. s.fits t f (λ e x y. a e (w e x) y); entries = λ t f a. s.entries t f (λ e x y. a e (w e x) y) }

  pub spares_then : (ns : ℕ → Bool) (p q r : Pool) → Spares W ns p q → Spares W ns q r → Spares W ns p r
  spares_then ns p q r h k = spares_trans W ns p q r ns refl h k

  -- the frame of an exposed page
  pub page_frame : (p : Pool) (s : Seat) (l : Lists) (loose : List ℕ) (id pfn f : ℕ) → IsHeap W p s l loose → id < 64 → frame_in pfn (exposed_of id l) ≡ Some f → 0 < times f (exposed_frames l.exposed)
  unfolding exposed_frames
  page_frame p s l loose id pfn f h lt at = omega (arith, frame_named pfn f (exposed_of id l) at, times_in f frames_of l.exposed id [] (omega (arith, lt, h.domains)))

  -- only words have changed
  pub heap_worded : (p q : Pool) (s t : Seat) (l : Lists) (loose : List ℕ) → IsHeap W p s l loose → Moves W p s q t → ((f : ℕ) → hold_at (W.entries q t) f ≡ hold_at (W.entries p s) f) → IsHeap W q t l loose
  heap_worded p q s t l loose h moves holds =
      heap_free p q s t l l loose loose h moves.fits (ap (λ (ns : ℕ → Bool). ns 0) moves.names ∙ h.first) moves.others.frames refl
      (has_same (W.entries p s) (W.entries q t) [] (own_frames l loose) l.free (own_frames l loose) l.free h.has holds (λ f. refl) (λ f. refl))

  -- the exposed pages of a domain are given up
  pub heap_ended : (p q : Pool) (s t : Seat) (l : Lists) (id : ℕ) → IsHeap W p s l [] → id < 64 → Moves W p s q t → HoldsAmong (frames_of (exposed_of id l)) (Some Zero) (W.entries p s) (W.entries q t) → IsHeap W q t (record l { free = l.free ++ frames_of (exposed_of id l); exposed = set l.exposed id [] }) []
  unfolding exposed_frames
  heap_ended p q s t l id h lt moves now =
      let m : Lists = record l { free = l.free ++ frames_of (exposed_of id l); exposed = set l.exposed id [] } in
      let fit : id < length l.exposed = omega (arith, lt, h.domains) in record {
        fits = moves.fits;
        first = ap (λ (ns : ℕ → Bool). ns 0) moves.names ∙ h.first;
        few = omega (arith, h.few, moves.others.frames);
        domains = length-set l.exposed id [] ∙ h.domains;
        children = h.children;
        pages = λ i. elim (same_or_not i id) [
          | inl e ↦ subst ArePages (sym (ap (λ (k : ℕ). get_or (set l.exposed id []) k []) e ∙ get_or-set_same l.exposed id [] [] fit)) no_pages
          | inr n ↦ subst ArePages (sym (get_or-set_other l.exposed id i [] [] n)) (h.pages i)
        ];
        has = has_released (W.entries p s) (W.entries q t) (frames_of (exposed_of id l)) [] (own_frames l []) l.free (own_frames m []) m.free h.has now
            (λ f. omega (arith, times_own f l [], times_own f m [], times_set f frames_of l.exposed id [] [] fit)) (λ f. times_append f l.free (frames_of (exposed_of id l)));
      }

  -- the frames of a domain's exposed pages are the seat's alone, each named once
  pub ended_frames : (p : Pool) (s : Seat) (l : Lists) (id : ℕ) → IsHeap W p s l [] → id < 64 → (f : ℕ) → (times f (frames_of (exposed_of id l)) ≤ 1) × (0 < times f (frames_of (exposed_of id l)) → hold_at (W.entries p s) f ≡ Some Sole)
  unfolding exposed_frames
  ended_frames p s l id h lt f =
      let part = times_in f frames_of l.exposed id [] (omega (arith, lt, h.domains)) in
      let o = has_once (W.entries p s) [] (own_frames l []) l.free h.has f in
      (omega (arith, part, o, times_own f l []), λ some. has_sole (W.entries p s) [] (own_frames l []) l.free h.has f (omega (arith, part, times_own f l [], some)))

  -- the frames put aside for a child are those of its exposed pages
  pub heap_born : (p q : Pool) (s t : Seat) (l : Lists) (child : ℕ) (born : List ExposedFrame) → IsHeap W p s l [] → child < 64 → exposed_of child l ≡ [] → Moves W p s q t → ((f : ℕ) → hold_at (W.entries q t) f ≡ hold_at (W.entries p s) f) → frames_of born ≡ aside_of child l → ArePages born
      → IsHeap W q t (record l { exposed = set l.exposed child born; aside = set l.aside child [] }) []
  unfolding exposed_frames aside_frames
  heap_born p q s t l child born h lt none moves holds frames fine =
      let m : Lists = record l { exposed = set l.exposed child born; aside = set l.aside child [] } in
      let fit : child < length l.exposed = omega (arith, lt, h.domains) in
      let kid : child < length l.aside = omega (arith, lt, h.children) in record {
        fits = moves.fits;
        first = ap (λ (ns : ℕ → Bool). ns 0) moves.names ∙ h.first;
        few = omega (arith, h.few, moves.others.frames);
        domains = length-set l.exposed child born ∙ h.domains;
        children = length-set l.aside child [] ∙ h.children;
        pages = λ i. elim (same_or_not i child) [
          | inl e ↦ subst ArePages (sym (ap (λ (k : ℕ). get_or (set l.exposed child born) k []) e ∙ get_or-set_same l.exposed child born [] fit)) fine
          | inr n ↦ subst ArePages (sym (get_or-set_other l.exposed child i born [] n)) (h.pages i)
        ];
        has = has_same (W.entries p s) (W.entries q t) [] (own_frames l []) l.free (own_frames m []) l.free h.has holds
            (λ f.
            let was = ap (λ (xs : List ExposedFrame). times f (frames_of xs)) none in
            let come = ap (λ (xs : List ℕ). times f xs) frames in
            omega (arith, times_own f l [], times_own f m [], times_set f frames_of l.exposed child born [] fit, times_set f (λ (ys : List ℕ). ys) l.aside child [] [] kid, was, come))
            (λ f. refl);
      }

  -- the frames put aside for a child are the seat's alone, and apart from those of exposed pages
  abbrev pub IsAsideOwn : Pool → Seat → Lists → ℕ → ℕ → ℕ → Type 0
  IsAsideOwn p s l child parent f = (times f (frames_of (exposed_of parent l)) + times f (aside_of child l) ≤ 1) × (0 < times f (frames_of (exposed_of parent l)) → hold_at (W.entries p s) f ≡ Some Sole) × (0 < times f (aside_of child l) → hold_at (W.entries p s) f ≡ Some Sole) × (0 < times f (exposed_frames l.exposed) → times f (aside_of child l) ≡ 0)

  pub aside_own : (p : Pool) (s : Seat) (l : Lists) (child parent : ℕ) → IsHeap W p s l [] → child < 64 → parent < 64 → (f : ℕ) → IsAsideOwn p s l child parent f
  unfolding exposed_frames aside_frames
  aside_own p s l child parent h lc lp f =
      let part = times_in f frames_of l.exposed parent [] (omega (arith, lp, h.domains)) in
      let kept = times_in f (λ (ys : List ℕ). ys) l.aside child [] (omega (arith, lc, h.children)) in
      let o = has_once (W.entries p s) [] (own_frames l []) l.free h.has f in
      let own = times_own f l [] in
      (omega (arith, part, kept, o, own), λ some. has_sole (W.entries p s) [] (own_frames l []) l.free h.has f (omega (arith, part, own, some)), λ some. has_sole (W.entries p s) [] (own_frames l []) l.free h.has f (omega (arith, kept, own, some)), λ some. omega (arith, kept, o, own, some))

  -- there are no more own frames than frames
  pub own_few : (p : Pool) (s : Seat) (l : Lists) (loose : List ℕ) → IsHeap W p s l loose → IsShaped (W.frames p) (W.entries p s) → exposed_count l + aside_count l ≤ 16384
  unfolding exposed_frames aside_frames
  own_few p s l loose h shape =
      let own = own_frames l loose in
      let few : length own ≤ W.frames p = few_of (W.frames p) own (λ f. omega (arith, has_once (W.entries p s) [] own l.free h.has f))
      (λ f lt. let e = place_of (W.entries p s) (W.entries p s) f refl (ap is_here (has_sole (W.entries p s) [] own l.free h.has f lt)) in omega (arith, e, shape.places)) in
      let a = length-append (exposed_frames l.exposed) (loose ++ aside_frames l.aside) in
      let b = length-append loose (aside_frames l.aside) in
      let d : length (flat_map frames_of l.exposed) ≡ exposed_count l = length-flat_map frames_of l.exposed ∙ sums l.exposed in
      let e : length (flat_map (λ (ys : List ℕ). ys) l.aside) ≡ aside_count l = length-flat_map (λ (ys : List ℕ). ys) l.aside in
      omega (arith, few, a, b, d, e, h.few)

  -- a domain has other exposed pages, and other frames are loose, but all in all the same frames
  pub heap_relisted : (p : Pool) (s : Seat) (l : Lists) (id : ℕ) (new : List ExposedFrame) (loose more : List ℕ) → IsHeap W p s l loose → id < 64 → ((f : ℕ) → times f (frames_of new) + times f more ≡ times f (frames_of (exposed_of id l)) + times f loose) → ArePages new → IsHeap W p s (record l { exposed = set l.exposed id new }) more
  unfolding exposed_frames
  heap_relisted p s l id new loose more h lt same fine =
      let m : Lists = record l { exposed = set l.exposed id new } in
      let fit : id < length l.exposed = omega (arith, lt, h.domains) in record {
        fits = h.fits;
        first = h.first;
        few = h.few;
        domains = length-set l.exposed id new ∙ h.domains;
        children = h.children;
        pages = λ i. elim (same_or_not i id) [
          | inl e ↦ subst ArePages (sym (ap (λ (k : ℕ). get_or (set l.exposed id new) k []) e ∙ get_or-set_same l.exposed id new [] fit)) fine
          | inr n ↦ subst ArePages (sym (get_or-set_other l.exposed id i new [] n)) (h.pages i)
        ];
        has = has_same (W.entries p s) (W.entries p s) [] (own_frames l loose) l.free (own_frames m more) l.free h.has (λ f. refl)
            (λ f. omega (arith, times_own f l loose, times_own f m more, times_set f frames_of l.exposed id new [] fit, same f))
            (λ f. refl);
      }

  -- loose frames become the exposed pages of a domain that had none
  pub heap_laid : (p : Pool) (s : Seat) (l : Lists) (id : ℕ) (born : List ExposedFrame) (xs : List ℕ) → IsHeap W p s l xs → id < 64 → exposed_of id l ≡ [] → frames_of born ≡ xs → ArePages born → IsHeap W p s (record l { exposed = set l.exposed id born }) []
  heap_laid p s l id born xs h lt none frames fine =
      heap_relisted p s l id born xs [] h lt
      (λ f. let was = ap (λ (ys : List ExposedFrame). times f (frames_of ys)) none in let come = ap (λ (ys : List ℕ). times f ys) frames in omega (arith, was, come)) fine
