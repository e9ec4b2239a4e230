-- What a hold tells of the lists that name the frame.
use Rattle.std.proofs.Common.{◌≡◌, ℕ, ◌+◌, ◌<◌, true, Some, None, refl, ap, arith}
use Rattle.std.specs.declared.option.Option.{Option}
use Rattle.neph_pool.specs.declared.entry.Hold.{Hold}
use Rattle.neph_pool.specs.declared.entry.Hold.TheVariants.{Zero, Sole, Counted}
use Rattle.neph_pool.specs.Entries.{weight_of, is_here}
use Rattle.neph_pool.specs.Seats.{zero_of}
use Rattle.neph_accounts.specs.Holdings.{HasAt}

module _ (h : Option Hold) (pages flying own kept : ℕ) where
  -- the references that the seat has are those of pages and of its own
  pub weight_has : HasAt h pages flying own kept → weight_of h ≡ pages + flying + own
  weight_has e = weight h e where
    weight : (h : Option Hold) → HasAt h pages flying own kept → weight_of h ≡ pages + flying + own
    weight None e = omega (arith, e)
    weight (Some Zero) e = omega (arith, e.0)
    weight (Some Sole) e = omega (arith, e.0, e.1)
    weight (Some (Counted n)) e = omega (arith, e.0, e.1, e.2)

  pub zero_has : HasAt h pages flying own kept → zero_of h ≡ kept
  zero_has e = zeros h e where
    zeros : (h : Option Hold) → HasAt h pages flying own kept → zero_of h ≡ kept
    zeros None e = omega (arith, e)
    zeros (Some Zero) e = omega (arith, e.1)
    zeros (Some Sole) e = omega (arith, e.1)
    zeros (Some (Counted n)) e = omega (arith, e.2)

  -- a frame that some list names is there
  pub here_has : HasAt h pages flying own kept → 0 < pages + flying + own + kept → is_here h ≡ true
  here_has e lt = here h e where
    here : (h : Option Hold) → HasAt h pages flying own kept → is_here h ≡ true
    here None e = absurd (omega (arith, e, lt))
    here (Some h) e = refl

  -- a frame under a page has one reference of the seat, and no other use there
  pub at_page : HasAt h pages flying own kept → 0 < pages
      → (weight_of h ≡ 1) × (pages ≡ 1) × (flying + own + kept ≡ 0)
  at_page e lt = page h e where
    page : (h : Option Hold) → HasAt h pages flying own kept
        → (weight_of h ≡ 1) × (pages ≡ 1) × (flying + own + kept ≡ 0)
    page None e = absurd (omega (arith, e, lt))
    page (Some Zero) e = absurd (omega (arith, e.0, lt))
    page (Some Sole) e = (refl, omega (arith, e.0, lt), omega (arith, e.0, e.1, lt))
    page (Some (Counted n)) e = (e.0, omega (arith, e.1, lt), omega (arith, e.1, e.2, lt))

  -- one under a page in flight is shared
  pub at_flying : HasAt h pages flying own kept → 0 < flying
      → (h ≡ Some (Counted 1)) × (flying ≡ 1) × (pages + own + kept ≡ 0)
  at_flying e lt = flies h e where
    flies : (h : Option Hold) → HasAt h pages flying own kept
        → (h ≡ Some (Counted 1)) × (flying ≡ 1) × (pages + own + kept ≡ 0)
    flies None e = absurd (omega (arith, e, lt))
    flies (Some Zero) e = absurd (omega (arith, e.0, lt))
    flies (Some Sole) e = absurd (omega (arith, e.1, lt))
    flies (Some (Counted n)) e =
        (ap (λ (k : ℕ). Some (Counted k)) e.0, omega (arith, e.1, lt), omega (arith, e.1, e.2, lt))

  -- one that is the seat's own has no other reference
  pub at_own : HasAt h pages flying own kept → 0 < own
      → (h ≡ Some Sole) × (own ≡ 1) × (pages + flying + kept ≡ 0)
  at_own e lt = owns h e where
    owns : (h : Option Hold) → HasAt h pages flying own kept
        → (h ≡ Some Sole) × (own ≡ 1) × (pages + flying + kept ≡ 0)
    owns None e = absurd (omega (arith, e, lt))
    owns (Some Zero) e = absurd (omega (arith, e.0, lt))
    owns (Some Sole) e = (refl, omega (arith, e.0, lt), omega (arith, e.0, e.1, lt))
    owns (Some (Counted n)) e = absurd (omega (arith, e.2, lt))

  -- one that is kept free has none
  pub at_kept : HasAt h pages flying own kept → 0 < kept
      → (h ≡ Some Zero) × (kept ≡ 1) × (pages + flying + own ≡ 0)
  at_kept e lt = keeps h e where
    keeps : (h : Option Hold) → HasAt h pages flying own kept
        → (h ≡ Some Zero) × (kept ≡ 1) × (pages + flying + own ≡ 0)
    keeps None e = absurd (omega (arith, e, lt))
    keeps (Some Zero) e = (refl, e.1, e.0)
    keeps (Some Sole) e = absurd (omega (arith, e.1, lt))
    keeps (Some (Counted n)) e = absurd (omega (arith, e.2, lt))

  -- a seat has no entry exactly of a frame that no list names
  pub at_none : HasAt h pages flying own kept → pages + flying + own + kept ≡ 0 → h ≡ None
  at_none e z = gone h e where
    gone : (h : Option Hold) → HasAt h pages flying own kept → h ≡ None
    gone None e = refl
    gone (Some Zero) e = absurd (omega (arith, e.1, z))
    gone (Some Sole) e = absurd (omega (arith, e.0, z))
    gone (Some (Counted n)) e = absurd (omega (arith, e.1, z))

  pub none_at : HasAt h pages flying own kept → h ≡ None → pages + flying + own + kept ≡ 0
  none_at e z = gone h e z where
    gone : (h : Option Hold) → HasAt h pages flying own kept → h ≡ None
        → pages + flying + own + kept ≡ 0
    gone None e z = e
    gone (Some h) e z = absurd (cc)

  -- a shared frame is under a page, in flight or not
  pub at_counted : HasAt h pages flying own kept → (n : ℕ) → h ≡ Some (Counted n)
      → pages + flying ≡ 1
  at_counted e n is = by h e is where
    by : (h : Option Hold) → HasAt h pages flying own kept → h ≡ Some (Counted n)
        → pages + flying ≡ 1
    by None e is = absurd (cc)
    by (Some Zero) e is = absurd (cc)
    by (Some Sole) e is = absurd (cc)
    by (Some (Counted k)) e is = e.1
