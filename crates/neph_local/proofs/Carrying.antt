-- A fork goes on by one page.
use Rattle.std.proofs.Common.{◌≡◌, ◌≢◌, ◌<◌, ◌≤◌, ◌+◌, ◌⊎◌, inl, inr, ℕ, length, Bool, true, false, List, Some, None, refl, sym, ap, ◌∙◌, arith, nat_lt}
use Rattle.std.proofs.lemmas.Bool.{ltb-true, ltb-false}
use Rattle.neph_pool.specs.Handing.{AreDistinct}
use Rattle.std.specs.declared.option.Option.{Option}
use Rattle.neph_pool.specs.declared.entry.Entry.{Entry}
use Rattle.neph_pool.specs.declared.entry.Hold.{Hold}
use Rattle.neph_pool.specs.declared.entry.Hold.TheVariants.{Sole, Counted}
use Rattle.neph_pool.specs.Entries.{hold_at, words_at, is_here, IsSoleAt, is_counted}
use Rattle.neph_pool.proofs.Rows.{same_or_not}
use Rattle.neph_gmap.specs.declared.page.Page.{Page}
use Rattle.neph_memory.specs.declared.own.Own.{Own}
use Rattle.neph_memory.proofs.Places.{some_same, frame_small}
use Rattle.neph_pool.specs.Bytes.{bytes_of, bytes_at}
use Rattle.neph_memory.specs.Pages.{frame_at}
use Rattle.neph_memory.specs.Memory.{page_bytes, bytes_for, IsMemory}
use Rattle.neph_memory.specs.Building.{IsAmong}
use Rattle.neph_local.specs.Forks.{NoPageLeft, IsDone, IsForking}

none_some : (x : Option ℕ) (f : ℕ) → x ≡ None → x ≡ Some f → ⊥
none_some x f a b = cc

not_here : (b : Bool) → b ≡ true → b ≡ false → ⊥
not_here b h k = cc

sole_here : (h : Option Hold) → h ≡ Some Sole → is_here h ≡ true
sole_here h e = ap is_here e

sole_counted : (h : Option Hold) → h ≡ Some Sole → is_counted h ≡ true → ⊥
sole_counted h e k = let z : is_counted h ≡ false = ap is_counted e in cc

abbrev done_more : (ps : List Page) (next g : ℕ) → IsDone ps next g → IsDone ps (next + 1) g
done_more ps next g d = (d.0, d.1, omega (arith, d.2), d.3)

-- a page that isn't the domain's own
module _ (es ef : List (Option Entry)) (ps : List Page) (next : ℕ) (frames : List ℕ) (k : IsForking es ef ps next frames) (none : frame_at ps next ≡ None) where
  less_by : (p g : ℕ) → (p ≡ next) ⊎ (p ≢ next) → p < next + 1 → frame_at ps p ≡ Some g → p < next
  less_by p g (inl e) lt at = absurd (none_some _ g none (ap (frame_at ps) (sym e) ∙ at))
  less_by p g (inr n) lt at = omega (arith, n, lt)

  abbrev done_less : (g : ℕ) → IsDone ps (next + 1) g → IsDone ps next g
  done_less g d = (d.0, d.1, less_by d.0 g (same_or_not d.0 next) d.2 d.3, d.3)

  only_still : (g : ℕ) → IsDone ps next g ⊎ IsAmong frames g → IsDone ps (next + 1) g ⊎ IsAmong frames g
  only_still g (inl d) = inl (done_more ps next g d)
  only_still g (inr h) = inr h

  pub forking_past : IsForking es ef ps (next + 1) frames
  forking_past = record {
    lent = λ g d. k.lent g (done_less g d);
    bytes = λ p g le lt at. k.bytes p g le (less_by p g (same_or_not p next) lt at) at;
    aside = k.aside;
    once = k.once;
    only = λ g h. only_still g (k.only g h);
  }

-- the page in the frame f is shared
module _ (es es' ef ef' : List (Option Entry)) (root : ℕ) (o : Own) (m : IsMemory es root o) (next f : ℕ) (frames : List ℕ) (k : IsForking es ef o.map.pages next frames) (at : frame_at o.map.pages next ≡ Some f) where
  not_done : (g : ℕ) → g ≡ f → IsDone o.map.pages next g → ⊥
  not_done g e d = let same : d.0 ≡ next = m.made.apart d.0 next f (d.3 ∙ ap Some e) at in omega (arith, same, d.2)

  counted_by : IsDone o.map.pages next f ⊎ IsAmong frames f → is_counted (hold_at ef f) ≡ true → ⊥
  counted_by (inl d) c = not_done f refl d
  counted_by (inr h) c = sole_counted _ (k.aside f h) c

  counted_here : (h : Option Hold) → is_counted h ≡ true → is_here h ≡ true
  counted_here None e = absurd (cc)
  counted_here (Some x) e = refl

  -- the child has no counted reference of it yet
  free_by : (b : Bool) → is_counted (hold_at ef f) ≡ b → is_counted (hold_at ef f) ≡ false
  free_by true e = absurd (counted_by (k.only f (counted_here _ e)) e)
  free_by false e = e

  pub free : is_counted (hold_at ef f) ≡ false
  free = free_by (is_counted (hold_at ef f)) refl

  module _ (small : 1 ≤ next) (absent : is_here (hold_at ef f) ≡ false) (lent : hold_at ef' f ≡ Some (Counted 1)) (same : words_at ef' f ≡ words_at es f) (holds : (g : ℕ) → g ≢ f → hold_at ef' g ≡ hold_at ef g)
      (words : (g : ℕ) → g ≢ f → words_at ef' g ≡ words_at ef g) (bytes : (q : ℕ) → page_bytes es' o.map.pages q ≡ page_bytes es o.map.pages q) where
    done_other : (g : ℕ) → g ≢ f → IsDone o.map.pages (next + 1) g → IsDone o.map.pages next g
    done_other g n d = by_case (same_or_not d.0 next) where
      by_case : (d.0 ≡ next) ⊎ (d.0 ≢ next) → IsDone o.map.pages next g
      by_case (inl e) = absurd (n (some_same g f (sym d.3 ∙ ap (frame_at o.map.pages) e ∙ at)))
      by_case (inr k) = (d.0, d.1, omega (arith, k, d.2), d.3)

    lent_by : (g : ℕ) → (g ≡ f) ⊎ (g ≢ f) → IsDone o.map.pages (next + 1) g → hold_at ef' g ≡ Some (Counted 1)
    lent_by g (inl e) d = ap (hold_at ef') e ∙ lent
    lent_by g (inr n) d = holds g n ∙ k.lent g (done_other g n d)

    bytes_by : (p g : ℕ) → (g ≡ f) ⊎ (g ≢ f) → 1 ≤ p → p < next + 1 → frame_at o.map.pages p ≡ Some g → page_bytes es' o.map.pages p ≡ Some (bytes_at ef' g)
    bytes_by p g (inl e) le lt h = bytes p ∙ ap (bytes_for es) h ∙ ap (λ (x : ℕ). Some (bytes_at es x)) e ∙ ap (λ (ws : List ℕ). Some (bytes_of ws)) (sym same) ∙ ap (λ (x : ℕ). Some (bytes_at ef' x)) (sym e)
    bytes_by p g (inr n) le lt h = let d = done_other g n (p, le, lt, h) in bytes p ∙ k.bytes p g le (less p g n lt h) h ∙ ap (λ (ws : List ℕ). Some (bytes_of ws)) (sym (words g n)) where
      less : (p g : ℕ) → g ≢ f → p < next + 1 → frame_at o.map.pages p ≡ Some g → p < next
      less p g n lt h = by_case (same_or_not p next) where
        by_case : (p ≡ next) ⊎ (p ≢ next) → p < next
        by_case (inl e) = absurd (n (some_same g f (sym h ∙ ap (frame_at o.map.pages) e ∙ at)))
        by_case (inr k) = omega (arith, k, lt)

    aside_not : (g : ℕ) → IsAmong frames g → g ≢ f
    aside_not g h e = not_here _ (ap is_here (ap (hold_at ef) (sym e) ∙ k.aside g h)) absent

    only_by : (g : ℕ) → (g ≡ f) ⊎ (g ≢ f) → is_here (hold_at ef' g) ≡ true → IsDone o.map.pages (next + 1) g ⊎ IsAmong frames g
    only_by g (inl e) h = inl (next, small, omega arith, at ∙ ap Some (sym e))
    only_by g (inr n) h = still (k.only g (ap is_here (sym (holds g n)) ∙ h)) where
      still : IsDone o.map.pages next g ⊎ IsAmong frames g → IsDone o.map.pages (next + 1) g ⊎ IsAmong frames g
      still (inl d) = inl (done_more o.map.pages next g d)
      still (inr h) = inr h

    pub forking_step : IsForking es' ef' o.map.pages (next + 1) frames
    forking_step = record {
      lent = λ g d. lent_by g (same_or_not g f) d;
      bytes = λ p g le lt h. bytes_by p g (same_or_not g f) le lt h;
      aside = λ g h. holds g (aside_not g h) ∙ k.aside g h;
      once = k.once;
      only = λ g h. only_by g (same_or_not g f) h;
    }

pub bytes_same : (fs es : List (Option Entry)) (qs ps : List Page) → qs ≡ ps → ((q : ℕ) → page_bytes fs qs q ≡ page_bytes es ps q) → (q : ℕ) → page_bytes fs ps q ≡ page_bytes es ps q
bytes_same fs es qs ps e h q = ap (λ (xs : List Page). page_bytes fs xs q) (sym e) ∙ h q

-- pages that aren't the domain's own are passed over
module _ (es ef : List (Option Entry)) (ps : List Page) (next n : ℕ) (frames : List ℕ) (k : IsForking es ef ps next frames) (none : (q : ℕ) → next ≤ q → q < n → frame_at ps q ≡ None) where
  before : (b : Bool) (p g : ℕ) → nat_lt p next ≡ b → p < n → frame_at ps p ≡ Some g → p < next
  before true p g e lt at = ltb-true p next e
  before false p g e lt at = absurd (none_some _ g (none p (ltb-false p next e) lt) at)

  skip_only : (g : ℕ) → ((p f : ℕ) → frame_at ps p ≡ Some f → p < next → p < n) → IsDone ps next g ⊎ IsAmong frames g → IsDone ps n g ⊎ IsAmong frames g
  skip_only g up (inl d) = inl (d.0, d.1, up d.0 g d.3 d.2, d.3)
  skip_only g up (inr h) = inr h

  pub forking_skip : ((p f : ℕ) → frame_at ps p ≡ Some f → p < next → p < n) → IsForking es ef ps n frames
  forking_skip up = record {
    lent = λ g d. k.lent g (d.0, d.1, before (nat_lt d.0 next) d.0 g refl d.2 d.3, d.3);
    bytes = λ p g l x at. k.bytes p g l (before (nat_lt p next) p g refl x at) at;
    aside = k.aside;
    once = k.once;
    only = λ g h. skip_only g up (k.only g h);
  }

-- a fork of which no page is left
pub forking_done : (es ef : List (Option Entry)) (ps : List Page) (next : ℕ) (frames : List ℕ) → IsForking es ef ps next frames → NoPageLeft ps next → IsForking es ef ps (length ps) frames
forking_done es ef ps next frames k none = forking_skip es ef ps next (length ps) frames k (λ q l x. none q l) (λ p f at lt. frame_small ps p f at)

-- a fork that hasn't begun
pub forking_none : (es ef : List (Option Entry)) (ps : List Page) (frames : List ℕ) → ((g : ℕ) → IsAmong frames g → IsSoleAt ef g) → AreDistinct frames → ((g : ℕ) → is_here (hold_at ef g) ≡ true → IsAmong frames g)
    → IsForking es ef ps 1 frames
forking_none es ef ps frames sole once only = record {
  lent = λ g d. absurd (nothing d.0 d.1 d.2);
  bytes = λ p g l x at. absurd (nothing p l x);
  aside = sole;
  once = once;
  only = λ g h. inr (only g h);
} where
  nothing : (p : ℕ) → 1 ≤ p → p < 1 → ⊥
  nothing p l x = omega (arith, l, x)
