-- What a seat has after one of its frames changes.
use Rattle.std.proofs.Common.{◌≡◌, ◌≢◌, ℕ, ◌+◌, ◌<◌, inl, inr, List, [], ◌∷◌, ◌++◌, Some, None, refl, sym, ◌∙◌, arith}
use Rattle.std.specs.declared.option.Option.{Option}
use Rattle.neph_pool.specs.declared.entry.Entry.{Entry}
use Rattle.neph_pool.specs.declared.entry.Hold.{Hold}
use Rattle.neph_pool.specs.declared.entry.Hold.TheVariants.{Zero, Sole, Counted}
use Rattle.neph_pool.specs.Entries.{hold_at, weight_of}
use Rattle.neph_accounts.specs.Holdings.{times, Holding, HasAt, Has}
use Rattle.neph_accounts.specs.Changes.{HoldsNow, IsMore}
use Rattle.neph_accounts.proofs.Times.{one_self, one_else, same_or_not, times_cons, times_push}
use Rattle.neph_accounts.proofs.Holds.{at_page, at_own, at_kept, none_at}

-- a list with a frame more
pub more_cons : (f : ℕ) (xs : List ℕ) → IsMore f xs (f ∷ xs)
more_cons f xs g = refl

pub more_push : (f : ℕ) (xs : List ℕ) → IsMore f xs (xs ++ f ∷ [])
more_push f xs g = omega (arith, times_push g xs f, times_cons g f xs)

pub more_here : (f : ℕ) (xs ys : List ℕ) → IsMore f xs ys → times f ys ≡ times f xs + 1
more_here f xs ys h = let k = h f in omega (arith, k, times_cons f f xs, one_self f)

pub more_else : (f : ℕ) (xs ys : List ℕ) → IsMore f xs ys → (g : ℕ) → g ≢ f
    → times g ys ≡ times g xs
more_else f xs ys h g n = let k = h g in
    omega (arith, k, times_cons g f xs, one_else f g (λ e. n (sym e)))

-- these lists name each frame but f as often
abbrev pub AreBut : ℕ → List ℕ → List ℕ → Type 0
AreBut f xs ys = (g : ℕ) → g ≢ f → times g ys ≡ times g xs

pub but_same : (f : ℕ) (xs : List ℕ) → AreBut f xs xs
but_same f xs g n = refl

pub but_less : (f : ℕ) (xs ys : List ℕ) → IsMore f ys xs → AreBut f xs ys
but_less f xs ys h g n = sym (more_else f ys xs h g n)

-- one frame changes, and so do the lists at it alone
pub has_step : (es now : List (Option Entry)) (f : ℕ) (h : Option Hold) (l m : Holding) → Has es l
    → HoldsNow f h es now → AreBut f l.pages m.pages → AreBut f l.flying m.flying
    → AreBut f l.own m.own → AreBut f l.kept m.kept
    → HasAt h (times f m.pages) (times f m.flying) (times f m.own) (times f m.kept) → Has now m
has_step es now f h l m has step p y o k new g = elim (same_or_not g f) [
  | inl e ↦ rw (e, step.here) new
  | inr n ↦ rw (step.others g n, p g n, y g n, o g n, k g n) (has g)
]

-- the same lists by other names
pub has_as : (es now : List (Option Entry)) (l m : Holding)
    → ((g : ℕ) → hold_at now g ≡ hold_at es g) → ((g : ℕ) → times g m.pages ≡ times g l.pages)
    → ((g : ℕ) → times g m.flying ≡ times g l.flying) → ((g : ℕ) → times g m.own ≡ times g l.own)
    → ((g : ℕ) → times g m.kept ≡ times g l.kept)
    → Has es l → Has now m
has_as es now l m h p y o k has g = rw (h g, p g, y g, o g, k g) (has g)

module _ (es now : List (Option Entry)) (f : ℕ) (l : Holding) (has : Has es l) where
  abbrev hold : Option Hold
  hold = hold_at es f

  pub page_facts : 0 < times f l.pages
      → (weight_of hold ≡ 1) × (times f l.pages ≡ 1)
      × (times f l.flying + times f l.own + times f l.kept ≡ 0)
  page_facts lt =
      at_page hold (times f l.pages) (times f l.flying) (times f l.own) (times f l.kept) (has f) lt

  pub own_facts : 0 < times f l.own
      → (hold ≡ Some Sole) × (times f l.own ≡ 1)
      × (times f l.pages + times f l.flying + times f l.kept ≡ 0)
  own_facts lt =
      at_own hold (times f l.pages) (times f l.flying) (times f l.own) (times f l.kept) (has f) lt

  pub kept_facts : 0 < times f l.kept
      → (hold ≡ Some Zero) × (times f l.kept ≡ 1)
      × (times f l.pages + times f l.flying + times f l.own ≡ 0)
  kept_facts lt =
      at_kept hold (times f l.pages) (times f l.flying) (times f l.own) (times f l.kept) (has f) lt

  pub none_facts : hold ≡ None
      → times f l.pages + times f l.flying + times f l.own + times f l.kept ≡ 0
  none_facts e =
      none_at hold (times f l.pages) (times f l.flying) (times f l.own) (times f l.kept) (has f) e

  -- a page's frame is shared out: the seat keeps one reference of it
  pub page_lent : 0 < times f l.pages → HoldsNow f (Some (Counted 1)) es now → Has now l
  page_lent lt step =
      let a = page_facts lt in
      has_step es now f (Some (Counted 1)) l l has step (but_same f l.pages) (but_same f l.flying)
      (but_same f l.own) (but_same f l.kept) (refl, omega (arith, a.1, a.2), omega (arith, a.2))

  -- a page's frame is found to have no other reference
  pub page_found : 0 < times f l.pages → HoldsNow f (Some Sole) es now → Has now l
  page_found lt step =
      let a = page_facts lt in
      has_step es now f (Some Sole) l l has step (but_same f l.pages) (but_same f l.flying)
      (but_same f l.own) (but_same f l.kept) (omega (arith, a.1, a.2), omega (arith, a.2))

  -- a page in flight comes to stand on a frame of another seat's page
  pub flying_taken : (ys : List ℕ) → hold ≡ None → HoldsNow f (Some (Counted 1)) es now
      → IsMore f l.flying ys → Has now (record l { flying = ys })
  flying_taken ys none step more =
      let a = none_facts none in
      has_step es now f (Some (Counted 1)) l (record l { flying = ys }) has step
      (but_same f l.pages) (more_else f l.flying ys more) (but_same f l.own)
      (but_same f l.kept)
      (refl, omega (arith, a, more_here f l.flying ys more), omega (arith, a))

  -- a frame comes in for the seat's own
  pub own_taken : (ys : List ℕ) → hold ≡ None → HoldsNow f (Some Sole) es now → IsMore f l.own ys
      → Has now (record l { own = ys })
  own_taken ys none step more =
      let a = none_facts none in
      has_step es now f (Some Sole) l (record l { own = ys }) has step (but_same f l.pages)
      (but_same f l.flying) (more_else f l.own ys more) (but_same f l.kept)
      (omega (arith, a, more_here f l.own ys more), omega (arith, a))

  -- a frame comes in under a page
  pub page_taken : (ys : List ℕ) → hold ≡ None → HoldsNow f (Some Sole) es now
      → IsMore f l.pages ys → Has now (record l { pages = ys })
  page_taken ys none step more =
      let a = none_facts none in
      has_step es now f (Some Sole) l (record l { pages = ys }) has step
      (more_else f l.pages ys more) (but_same f l.flying) (but_same f l.own)
      (but_same f l.kept) (omega (arith, a, more_here f l.pages ys more), omega (arith, a))

  -- a frame comes in to be kept free
  pub kept_taken : (ys : List ℕ) → hold ≡ None → HoldsNow f (Some Zero) es now → IsMore f l.kept ys
      → Has now (record l { kept = ys })
  kept_taken ys none step more =
      let a = none_facts none in
      has_step es now f (Some Zero) l (record l { kept = ys }) has step (but_same f l.pages)
      (but_same f l.flying) (but_same f l.own) (more_else f l.kept ys more)
      (omega (arith, a), omega (arith, a, more_here f l.kept ys more))

  -- a page's frame goes, or the seat's reference of it does
  pub page_left : (ys : List ℕ) → HoldsNow f None es now → IsMore f ys l.pages
      → Has now (record l { pages = ys })
  page_left ys step less =
      let a = page_facts (omega (arith, more_here f ys l.pages less)) in
      has_step es now f None l (record l { pages = ys }) has step (but_less f l.pages ys less)
      (but_same f l.flying) (but_same f l.own) (but_same f l.kept)
      (omega (arith, a.1, a.2, more_here f ys l.pages less))

  -- a frame of the seat's own goes
  pub own_left : (ys : List ℕ) → HoldsNow f None es now → IsMore f ys l.own
      → Has now (record l { own = ys })
  own_left ys step less =
      let a = own_facts (omega (arith, more_here f ys l.own less)) in
      has_step es now f None l (record l { own = ys }) has step (but_same f l.pages)
      (but_same f l.flying) (but_less f l.own ys less) (but_same f l.kept)
      (omega (arith, a.1, a.2, more_here f ys l.own less))

  -- a frame that was kept free goes
  pub kept_left : (ys : List ℕ) → HoldsNow f None es now → IsMore f ys l.kept
      → Has now (record l { kept = ys })
  kept_left ys step less =
      let a = kept_facts (omega (arith, more_here f ys l.kept less)) in
      has_step es now f None l (record l { kept = ys }) has step (but_same f l.pages)
      (but_same f l.flying) (but_same f l.own) (but_less f l.kept ys less)
      (omega (arith, a.1, a.2, more_here f ys l.kept less))

  -- the last reference of a page's frame is given up: the frame is kept free
  pub page_kept : (ys zs : List ℕ) → HoldsNow f (Some Zero) es now → IsMore f ys l.pages
      → IsMore f l.kept zs → Has now (record l { pages = ys; kept = zs })
  page_kept ys zs step less more =
      let a = page_facts (omega (arith, more_here f ys l.pages less)) in
      has_step es now f (Some Zero) l (record l { pages = ys; kept = zs }) has step
      (but_less f l.pages ys less) (but_same f l.flying) (but_same f l.own)
      (more_else f l.kept zs more) (
        omega (arith, a.1, a.2, more_here f ys l.pages less),
        omega (arith, a.2, more_here f l.kept zs more),
      )

  -- a frame of the seat's own is given up
  pub own_kept : (ys zs : List ℕ) → HoldsNow f (Some Zero) es now → IsMore f ys l.own
      → IsMore f l.kept zs → Has now (record l { own = ys; kept = zs })
  own_kept ys zs step less more =
      let a = own_facts (omega (arith, more_here f ys l.own less)) in
      has_step es now f (Some Zero) l (record l { own = ys; kept = zs }) has step
      (but_same f l.pages) (but_same f l.flying) (but_less f l.own ys less)
      (more_else f l.kept zs more) (
        omega (arith, a.1, a.2, more_here f ys l.own less),
        omega (arith, a.2, more_here f l.kept zs more),
      )

  -- a frame that was kept free is taken for the seat's own
  pub kept_owned : (ys zs : List ℕ) → HoldsNow f (Some Sole) es now → IsMore f ys l.kept
      → IsMore f l.own zs → Has now (record l { kept = ys; own = zs })
  kept_owned ys zs step less more =
      let a = kept_facts (omega (arith, more_here f ys l.kept less)) in
      has_step es now f (Some Sole) l (record l { kept = ys; own = zs }) has step
      (but_same f l.pages) (but_same f l.flying) (more_else f l.own zs more)
      (but_less f l.kept ys less) (
        omega (arith, a.1, a.2, more_here f l.own zs more),
        omega (arith, a.1, a.2, more_here f ys l.kept less),
      )

  -- a frame of the seat's own comes under a page
  pub own_paged : (ys zs : List ℕ) → ((g : ℕ) → hold_at now g ≡ hold_at es g) → IsMore f ys l.own
      → IsMore f l.pages zs → Has now (record l { own = ys; pages = zs })
  own_paged ys zs same less more =
      let a = own_facts (omega (arith, more_here f ys l.own less)) in
      let step : HoldsNow f (Some Sole) es now =
      record { here = same f ∙ a.0; others = λ g n. same g } in
      has_step es now f (Some Sole) l (record l { own = ys; pages = zs }) has step
      (more_else f l.pages zs more) (but_same f l.flying) (but_less f l.own ys less)
      (but_same f l.kept) (
        omega (arith, a.1, a.2, more_here f ys l.own less, more_here f l.pages zs more),
        omega (arith, a.2),
      )
