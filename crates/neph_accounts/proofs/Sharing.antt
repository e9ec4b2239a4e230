-- A page's frame has a second reference exactly where another page has its colour.
use Rattle.std.proofs.Common.{◌≡◌, ◌≢◌, ℕ, zero, suc, ◌+◌, ◌<◌, ◌≤◌, nat_lt, List, [], length, get_or, IfSome, Some, None, refl, sym, ap, ◌∙◌, arith}
use Rattle.std.proofs.lemmas.Bool.{lt-ltb}
use Rattle.std.specs.declared.option.Option.{Option}
use Rattle.neph_pool.specs.World.{World}
use Rattle.neph_pool.specs.Entries.{IsSoleAt}
use Rattle.neph_model.specs.Books.{Books, pages_of, book_at, is_shared}
use Rattle.neph_accounts.specs.Holdings.{times}
use Rattle.neph_accounts.specs.Places.{Place, holding_of, page_frames, flying_frames, own_frames, kept_frames, times_named, pages_under, other_uses, AreSurveyed}
use Rattle.neph_accounts.specs.Accounts.{Account, no_account, account_at, row_of, rows, pages_on, places, AreAccounts}
use Rattle.neph_accounts.specs.Colours.{Stands}
use Rattle.neph_accounts.proofs.Times.{times_in}
use Rattle.neph_accounts.proofs.Sums.{any_term, two_terms}
use Rattle.neph_accounts.proofs.Frames.{count_is, sole_one, only_kept, only_owned, only_under, named_small}
use Rattle.neph_accounts.proofs.Ids.{pages_are, flying_under, rows_sum, row_at, rows_long}
use Rattle.neph_accounts.proofs.Colours.{page_is, page_used, pages_on_colour}
use Rattle.neph_accounts.proofs.Uses.{page_small}

-- no colour on a page stands for a frame under no page
pub not_under : (φ : ℕ → ℕ) (frames : List (List ℕ)) (bs : Books) (f : ℕ) → Stands φ frames bs
    → pages_on frames f ≡ 0 → (c : ℕ) → 0 < pages_of c bs → φ c ≢ f
not_under φ frames bs f st none c used e = let k = ap (pages_on frames) e in
    omega (arith, none, used, k, pages_on_colour φ frames bs st c used)

module _ {Pool Seat : Type 0} (W : World Pool Seat) (p : Pool) (heap : Place Seat)
    (us : List (Account Seat)) (h : AreSurveyed W p (places heap us))
    (ok : AreAccounts heap us) where
  abbrev all : List (Option (Place Seat))
  all = places heap us

  -- a frame that a seat has for something else than pages is under none, nor is one that it keeps
  pub own_bare : (i f : ℕ) → 0 < times f (holding_of (get_or all i None)).own
      → pages_on (rows us) f ≡ 0
  own_bare i f lt =
      let some =
      any_term
      (λ (x : Option (Place Seat)). times f (own_frames (holding_of x))) all i None refl in
      let none =
      only_owned W p all h f (named_small W p all h i f (omega (arith, lt)))
      (omega (arith, lt, some)) in
      omega (arith, none.0, pages_are heap us ok f)

  pub kept_bare : (i f : ℕ) → 0 < times f (holding_of (get_or all i None)).kept
      → pages_on (rows us) f ≡ 0
  kept_bare i f lt =
      let some =
      any_term
      (λ (x : Option (Place Seat)). times f (kept_frames (holding_of x))) all i None refl in
      let none =
      only_kept W p all h f (named_small W p all h i f (omega (arith, lt)))
      (omega (arith, lt, some)) in
      omega (arith, none, pages_are heap us ok f)

  module _ (φ : ℕ → ℕ) (bs : Books) (st : Stands φ (rows us) bs) (id pfn : ℕ) (lt : id < length us)
      (fit : pfn < length (account_at id us).row) where
    abbrev frame : ℕ
    frame = get_or (account_at id us).row pfn 0

    abbrev colour : ℕ
    colour = get_or (book_at id bs).colours pfn 0

    in_row : pfn < length (get_or (rows us) id [])
    in_row = rw (row_at us id) fit

    in_rows : id < length (rows us)
    in_rows = omega (arith, lt, rows_long us)

    frame_is : frame ≡ φ colour
    frame_is = ap (λ (xs : List ℕ). get_or xs pfn 0) (sym (row_at us id))
        ∙ page_is φ (rows us) bs st id pfn in_row

    used : 0 < pages_of colour bs
    used = page_used φ (rows us) bs st id pfn in_rows in_row

    -- as many pages stand on the page's frame as have its colour
    pub page_pages : pages_on (rows us) frame ≡ pages_of colour bs
    page_pages = ap (pages_on (rows us)) frame_is ∙ pages_on_colour φ (rows us) bs st colour used

    small : frame < W.frames p
    small = page_small W p heap us h ok frame (omega (arith, page_pages, used))

    count : times_named page_frames all frame ≡ pages_of colour bs
    count = pages_are heap us ok frame ∙ page_pages

    bare : other_uses all frame ≡ 0
    bare = let k = only_under W p all h frame small (omega (arith, count, used)) in omega (arith, k)

    -- a page of a child in flight stands on a frame of its parent's too
    flying_two : (holding_of (account_at id us).flight).flying ≡ []
        → 0 < times_named flying_frames all frame → 2 ≤ pages_of colour bs
    flying_two none some =
        let t = flying_under heap us ok frame some in
        let ne : id ≢ t.0 =
        λ e. let z : times frame (holding_of (account_at t.0 us).flight).flying ≡ 0 =
        ap (λ (j : ℕ). times frame (holding_of (account_at j us).flight).flying) (sym e)
        ∙ ap (times frame) none in omega (arith, z, t.2) in
        let here : 0 < times frame (account_at id us).row =
        times_in (account_at id us).row pfn fit in
        omega (
          arith,
          here,
          t.3,
          two_terms
              (λ (a : Account Seat). times frame (row_of a)) us id t.0 no_account lt t.1 ne,
          rows_sum frame us,
          page_pages,
        )

    -- Where the domain has no clone in flight, two references or more of its page's frame tell that
    -- the page's colour is shared.
    pub two_are_shared : (holding_of (account_at id us).flight).flying ≡ []
        → nat_lt 1 (pages_under all frame + other_uses all frame) ≡ is_shared colour bs
    two_are_shared none = by (times_named flying_frames all frame) refl where
      by : (n : ℕ) → times_named flying_frames all frame ≡ n
          → nat_lt 1 (pages_under all frame + other_uses all frame) ≡ nat_lt 1 (pages_of colour bs)
      by zero e = ap (nat_lt 1) (omega (arith, e, count, bare))
      by (suc n) e =
          let two = flying_two none (omega (arith, e)) in
          lt-ltb 1 (pages_under all frame + other_uses all frame) (omega (arith, two, count))
          ∙ sym (lt-ltb 1 (pages_of colour bs) two)

    -- so does the pool's count
    pub count_tells : (holding_of (account_at id us).flight).flying ≡ []
        → IfSome (W.told p) (λ counts. nat_lt 1 (get_or counts frame 0) ≡ is_shared colour bs)
    count_tells none = by (W.told p) (count_is W p all h frame small) where
      by : (o : Option (List ℕ))
          → IfSome o
          (λ counts. get_or counts frame 0 ≡ pages_under all frame + other_uses all frame)
          → IfSome o (λ counts. nat_lt 1 (get_or counts frame 0) ≡ is_shared colour bs)
      by None k = tt
      by (Some counts) k = ap (nat_lt 1) k ∙ two_are_shared none

    -- where a seat has the frame to itself, no other page has the colour
    pub sole_is_one : (i : ℕ)
        → IfSome (get_or all i None)
        (λ x. IsSoleAt (W.entries p x.seat) frame → pages_of colour bs ≡ 1)
    sole_is_one i = by (get_or all i None) (sole_one W p all h frame i small) where
      by : (o : Option (Place Seat))
          → IfSome o (λ x. IsSoleAt (W.entries p x.seat) frame
          → pages_under all frame + other_uses all frame ≡ 1)
          → IfSome o (λ x. IsSoleAt (W.entries p x.seat) frame → pages_of colour bs ≡ 1)
      by None k = tt
      by (Some x) k = λ sole. omega (arith, k sole, count, used)
