-- What a seat has after the calls of a pool that a turn makes, by what the calls ensure of its
-- entries.
use Rattle.std.proofs.Common.{◌≡◌, ℕ, ◌+◌, ◌<◌, Bool, true, false, List, [], ◌∷◌, length, Some, None, refl, sym, ap, ◌∙◌, subst, arith, if◌then◌else◌}
use Rattle.std.specs.declared.option.Option.{Option}
use Rattle.neph_pool.specs.declared.entry.Entry.{Entry}
use Rattle.neph_pool.specs.declared.entry.Hold.TheVariants.{Zero, Sole, Counted}
use Rattle.neph_pool.specs.Entries.{hold_at, with_hold, without, is_here, IsSoleAt, weight_of}
use Rattle.neph_pool.specs.Handing.{left_hold, moved_hold, left_after, moved_into}
use Rattle.neph_accounts.specs.Holdings.{times, Holding, Has}
use Rattle.neph_accounts.specs.Changes.{HoldsNow, IsMore}
use Rattle.neph_accounts.proofs.Times.{one_at}
use Rattle.neph_accounts.proofs.Changes.{now_as, now_then, now_hold, now_released, now_gone, now_given, now_taken, lent_now, borrowed_now, retaken_now, weight_here}
use Rattle.neph_accounts.proofs.Steps.{more_here, page_facts, own_facts, kept_facts, page_lent, flying_taken, own_taken, page_taken, page_left, own_left, kept_left, page_kept, own_kept}
use Rattle.neph_accounts.proofs.Moves.{copied_gone, copied_kept}

module _ (es now : List (Option Entry)) (f : ℕ) (l : Holding) (has : Has es l) where
  -- a frame that is kept free is handed to another seat
  pub free_given : (ys : List ℕ) → IsMore f ys l.kept → now ≡ left_after es (f ∷ [])
      → Has now (record l { kept = ys })
  free_given ys less e =
      let h = (kept_facts es now f l has (omega (arith, more_here f ys l.kept less))).0 in
      kept_left es now f l has ys
      (now_as f es now (left_hold (hold_at es f)) None now refl (ap left_hold h)
      (now_given f es now (ap is_here h) e)) less

  -- one of the seat's own
  pub own_given : (ys : List ℕ) → IsMore f ys l.own → now ≡ left_after es (f ∷ [])
      → Has now (record l { own = ys })
  own_given ys less e =
      let h = (own_facts es now f l has (omega (arith, more_here f ys l.own less))).0 in
      own_left es now f l has ys
      (now_as f es now (left_hold (hold_at es f)) None now refl (ap left_hold h)
      (now_given f es now (ap is_here h) e)) less

  -- a page's, of which the seat has the only reference: the page goes to the heap, or comes back
  pub page_given : (ys : List ℕ) → IsSoleAt es f → IsMore f ys l.pages
      → now ≡ left_after es (f ∷ []) → Has now (record l { pages = ys })
  page_given ys h less e =
      page_left es now f l has ys
      (now_as f es now (left_hold (hold_at es f)) None now refl (ap left_hold h)
      (now_given f es now (ap is_here h) e)) less

  -- a page step of a clone: a page's frame is shared, and one reference of it handed to the child's
  -- seat
  pub page_shared : (mid : List (Option Entry)) → 0 < times f l.pages
      → mid ≡ with_hold es f (Counted 2) → now ≡ left_after mid (f ∷ []) → Has now l
  page_shared mid some e q =
      page_lent es now f l has some (lent_now f es mid now (page_facts es now f l has some).0 e q)

  -- a page's reference is given up; its frame is kept free where that was the last
  pub page_released : (last : Bool) (ys zs : List ℕ) → IsMore f ys l.pages
      → (last ≡ true → IsMore f l.kept zs) → (last ≡ false → zs ≡ l.kept)
      → now ≡ (if last then with_hold es f Zero else without es f)
      → Has now (record l { pages = ys; kept = zs })
  page_released last ys zs less more same e =
      by last more same (now_released f es now last here e) where
        here : is_here (hold_at es f) ≡ true
        here = weight_here (hold_at es f)
            (page_facts es now f l has (omega (arith, more_here f ys l.pages less))).0

        by : (b : Bool) → (b ≡ true → IsMore f l.kept zs) → (b ≡ false → zs ≡ l.kept)
            → HoldsNow f (if b then Some Zero else None) es now
            → Has now (record l { pages = ys; kept = zs })
        by true more same step = page_kept es now f l has ys zs step less (more refl)
        by false more same step =
            subst (λ (xs : List ℕ). Has now (record l { pages = ys; kept = xs })) (sym (same refl))
            (page_left es now f l has ys step less)

  -- a frame of the seat's own is given up, and kept free
  pub own_released : (last : Bool) (ys zs : List ℕ) → IsMore f ys l.own → IsMore f l.kept zs
      → (IsSoleAt es f → last ≡ true) → now ≡ (if last then with_hold es f Zero else without es f)
      → Has now (record l { own = ys; kept = zs })
  own_released last ys zs less more told e =
      let h = (own_facts es now f l has (omega (arith, more_here f ys l.own less))).0 in
      let is : now ≡ with_hold es f Zero = e
      ∙ ap (λ (b : Bool). if b then with_hold es f Zero else without es f) (told h) in
      own_kept es now f l has ys zs (now_hold f es now Zero (ap is_here h) is) less more

-- A page moves into a frame of the seat's own: its old reference is given up, and where it was the
-- last the old frame is retaken.
pub page_copied : (es now : List (Option Entry)) (f g : ℕ) (l m : Holding) (last : Bool) → Has es l
    → 0 < times f l.pages → 0 < times g l.own
    → ((x : ℕ) → times x m.pages + one_at f x ≡ times x l.pages + one_at g x) → m.flying ≡ l.flying
    → m.kept ≡ l.kept
    → (last ≡ true → (x : ℕ) → times x m.own + one_at g x ≡ times x l.own + one_at f x)
    → (last ≡ false → (x : ℕ) → times x m.own + one_at g x ≡ times x l.own)
    → now ≡ (if last then with_hold (with_hold es f Zero) f Sole else without es f) → Has now m
page_copied es now f g l m last has old new pages flying kept some gone e =
    by last some gone e where
      once : weight_of (hold_at es f) ≡ 1
      once = (page_facts es now f l has old).0

      by : (b : Bool)
          → (b ≡ true → (x : ℕ) → times x m.own + one_at g x ≡ times x l.own + one_at f x)
          → (b ≡ false → (x : ℕ) → times x m.own + one_at g x ≡ times x l.own)
          → now ≡ (if b then with_hold (with_hold es f Zero) f Sole else without es f) → Has now m
      by true some gone e =
          copied_kept es now l m f g has old new pages flying kept
          (retaken_now f es (with_hold es f Zero) now once refl e) (some refl)
      by false some gone e =
          copied_gone es now l m f g has old new pages flying kept (now_gone f es now e) (gone refl)

module _ (es to now : List (Option Entry)) (f : ℕ) (m : Holding) (has : Has to m)
    (long : length to ≡ length es) (absent : hold_at to f ≡ None) where
  -- a frame that was kept free comes in, and is retaken for the seat's own
  pub spare_got : (mid : List (Option Entry)) (zs : List ℕ) → hold_at es f ≡ Some Zero
      → IsMore f m.own zs → mid ≡ moved_into es to (f ∷ []) → now ≡ with_hold mid f Sole
      → Has now (record m { own = zs })
  spare_got mid zs h more e q =
      let first =
      now_as f to mid (moved_hold (hold_at es f)) (Some Zero) mid refl (ap moved_hold h)
      (now_taken f es to mid long (ap is_here h) e) in
      own_taken to now f m has zs absent (now_then f to now (Some Zero)
      (Some Sole) mid first (now_hold f mid now Sole (ap is_here first.here) q)) more

  -- a frame that another seat had to itself comes in for the seat's own
  pub own_got : (zs : List ℕ) → IsSoleAt es f → IsMore f m.own zs → now ≡ moved_into es to (f ∷ [])
      → Has now (record m { own = zs })
  own_got zs h more e =
      own_taken to now f m has zs absent (now_as f to now (moved_hold (hold_at es f))
      (Some Sole) now refl (ap moved_hold h) (now_taken f es to now long (ap is_here h) e)) more

  -- or under a page
  pub page_got : (zs : List ℕ) → IsSoleAt es f → IsMore f m.pages zs
      → now ≡ moved_into es to (f ∷ []) → Has now (record m { pages = zs })
  page_got zs h more e =
      page_taken to now f m has zs absent (now_as f to now (moved_hold (hold_at es f))
      (Some Sole) now refl (ap moved_hold h) (now_taken f es to now long (ap is_here h) e)) more

-- a page step of a clone, for the child's seat
pub page_borrowed : (es mid to now : List (Option Entry)) (f : ℕ) (l k : Holding) (ys : List ℕ)
    → Has es l → Has to k → 0 < times f l.pages → hold_at to f ≡ None
    → mid ≡ with_hold es f (Counted 2) → length to ≡ length mid → now ≡ moved_into mid to (f ∷ [])
    → IsMore f k.flying ys → Has now (record k { flying = ys })
page_borrowed es mid to now f l k ys has had some absent e long q more =
    flying_taken to now f k had ys absent
    (borrowed_now f es mid to now (page_facts es now f l has some).0 e long q) more
