-- The laws of frames, counts and colours of a machine that stands for a state.
use Rattle.std.proofs.Common.{◌≡◌, ℕ, zero, suc, ◌+◌, ◌<◌, ◌≤◌, ◌⊎◌, nat_lt, List, [], ◌∷◌, length, map, get_or, slice_index, slice_index_or, IfSome, Some, None, refl, sym, ap, ◌∙◌, subst, arith, Bool, true, false, flat_map, ltb-true, ltb-false}
use Rattle.std.specs.declared.option.Option.{Option}
use Rattle.neph_model.specs.Books.{State, free, counts, is_shared, pages_of}
use Rattle.neph_runs.specs.Orderly.{seat as part_at}
use Rattle.neph_pool.specs.Entries.{IsSoleAt}
use Rattle.neph_pool.specs.World.{World}
use Rattle.neph_pool.specs.Handing.{is_among}
use Rattle.neph_ptab.specs.Tables.{IsTable}
use Rattle.neph_memory.specs.Memory.{IsSpareAt}
use Rattle.neph_memory.specs.Pages.{frame_at}
use Rattle.neph_guest.specs.declared.live.Live.{Live}
use Rattle.neph_heap.specs.Lists.{aside_of, aside_frames}
use Rattle.neph_heap.proofs.Counting.{times_in}
use Rattle.neph_accounts.specs.Holdings.{times}
use Rattle.neph_accounts.specs.Places.{Place as Held, seat_of, holding_of, pages_under, other_uses, AreSurveyed}
use Rattle.neph_accounts.specs.Accounts.{Account, account_at, pages_on, places, rows, AreAccounts}
use Rattle.neph_accounts.specs.Heaps.{row_frames}
use Rattle.neph_accounts.specs.Colours.{IsStood}
use Rattle.neph_accounts.specs.Budgets.{AreUses}
use Rattle.neph_accounts.proofs.Uses as uses
use Rattle.neph_accounts.proofs.Sharing as sharing
use Rattle.neph_accounts.proofs.Bare as bare
use Rattle.neph_accounts.proofs.Ids.{domain_place, row_under, pages_are as pages_on_are}
use Rattle.neph_accounts.proofs.Times.{times_in as times_in_row}
use Rattle.neph_accounts.proofs.Frames.{count_is}
use Rattle.std.proofs.Math.ListN.{get_or-map}
use Rattle.neph_pool.specs.Seats.{AreAllSeats, AreCounted}
use Rattle.neph_accounts.proofs.Handovers.{among_some}
use Rattle.neph_machine.specs.declared.place.Place.{Place}
use Rattle.neph_machine.specs.declared.place.Place.TheVariants.{Flight as InFlight, Domain}
use Rattle.neph_machine.specs.declared.place.Flight.{Flight}
use Rattle.neph_machine.specs.declared.machine.Machine.{Machine}
use Rattle.neph_machine.specs.Places.{place_at}
use Rattle.neph_machine.specs.Rows.{frames_in, away_in, row_of, rows_of}
use Rattle.neph_machine.specs.Surveyed.{IsSurveyed}
use Rattle.neph_machine.specs.StandsFor.{StandsFor}
use Rattle.neph_machine.proofs.Reached.{IsReached}
use Rattle.neph_machine.proofs.Summing.{past_end}
use Rattle.neph_machine.proofs.Listed.{frame_is}
use Rattle.neph_machine.proofs.Holding.{kind_own}
use Rattle.neph_machine.proofs.Accounts.{seated, pages_at, flight_in, flight_of, domain_in, heap_place, accounts, accounts_long, account_is, rows_are, domain_at, flight_at, borne, domain_small, flight_none}
use Rattle.neph_machine.proofs.Seated.{are_surveyed}
use Rattle.neph_machine.proofs.Ordered.{are_accounts, are_budgeted}

-- the frame under a page that is the domain's own
pub row_frame : (xs : List (Option ℕ)) (away : ℕ → ℕ) (from p f : ℕ) → get_or xs p None ≡ Some f
    → (p < length (row_frames xs away from)) × (get_or (row_frames xs away from) p 0 ≡ f)
row_frame [] away from p f e = absurd (cc)
row_frame (None ∷ xs) away from zero f e = absurd (cc)
row_frame (None ∷ xs) away from (suc p) f e = let t = row_frame xs away (suc from) p f e in
    (let l = t.0 in omega arith, t.1)
row_frame (Some g ∷ xs) away from zero f e = (omega arith, cc)
row_frame (Some g ∷ xs) away from (suc p) f e = let t = row_frame xs away (suc from) p f e in
    (let l = t.0 in omega arith, t.1)

-- one of some lists names no more than all
any_flat : (f : ℕ) (xss : List (List ℕ)) (i : ℕ)
    → times f (get_or xss i []) ≤ times f (flat_map (λ (xs : List ℕ). xs) xss)
any_flat f xss i = by (nat_lt i (length xss)) refl where
  by : (b : Bool) → nat_lt i (length xss) ≡ b
      → times f (get_or xss i []) ≤ times f (flat_map (λ (xs : List ℕ). xs) xss)
  by true e = times_in f (λ (xs : List ℕ). xs) xss i [] (ltb-true i (length xss) e)
  by false e = let none : times f (get_or xss i []) ≡ 0 =
      ap (times f) (past_end xss i [] (ltb-false i (length xss) e)) in omega (arith, none)

module _ {Pool Seat : Type 0} (W : World Pool Seat) (m : Machine Pool Seat) (st : State) where
  abbrev us : List (Account Seat)
  us = accounts W m st

  abbrev heap : Held Seat
  heap = heap_place W m

  module _ (survey : IsSurveyed W) (reached : IsReached m.script st)
      (stands : StandsFor W m st) where
    surveyed : AreSurveyed W m.pool (places heap us)
    surveyed = are_surveyed W m st reached (seated W m st stands) survey

    ordered : AreAccounts heap us
    ordered = are_accounts W m st reached (seated W m st stands)

    stood : IsStood (rows us) st.books
    stood = subst (λ (rs : List (List ℕ)). IsStood rs st.books) (sym (rows_are W m st)) stands.colours

    -- all seats of the pool, and what their references come to
    abbrev pub seats : List (Option Seat)
    seats = map seat_of (places heap us)

    pub all_seats : AreAllSeats W m.pool seats
    all_seats = surveyed.held.all

    pub seats_counted : AreCounted W m.pool seats
    seats_counted = surveyed.counted

    -- the free list is as long as the definitions say
    pub free_is : length m.hv.heap.stock.free ≡ free m.script st
    free_is = uses.free_is W m.pool heap us stood.0 m.script st surveyed ordered stood.1
        (are_budgeted W m st reached (seated W m st stands)) (sym stands.frames)

    -- the frames are used as the definitions count them
    pub counts_are : AreUses (W.frames m.pool) heap us (counts m.script st)
    counts_are = uses.uses_are W m.pool heap us stood.0 m.script st surveyed ordered stood.1
        (are_budgeted W m st reached (seated W m st stands)) (sym stands.frames)

    module _ (id : ℕ) (l : Live Pool Seat) (lt : id < 64)
        (here : place_at id m.places.items ≡ Domain l) where
      long : id < length us
      long = omega (arith, lt, accounts_long W m st)

      row_here : (account_at id us).row ≡ row_of m.hv.heap.stock id (Domain l)
      row_here = ap (λ (a : Account Seat). a.row) (account_is W m st id lt)
          ∙ ap (row_of m.hv.heap.stock id) here

      domain_here : (account_at id us).domain ≡ domain_in W m (Domain l)
      domain_here = ap (λ (a : Account Seat). a.domain) (account_is W m st id lt)
          ∙ ap (domain_in W m) here

      page_row : (pfn f : ℕ) → frame_at l.local.own.map.pages pfn ≡ Some f
          → (pfn < length (account_at id us).row) × (get_or (account_at id us).row pfn 0 ≡ f)
      page_row pfn f at =
          subst (λ (row : List ℕ). (pfn < length row) × (get_or row pfn 0 ≡ f)) (sym row_here)
          (row_frame (frames_in l.local.own.map.pages) (away_in m.hv.heap.stock id) 0 pfn f
          (sym (frame_is l.local.own.map.pages pfn) ∙ at))

      -- the count of a page's frame tells whether its colour is shared, where the domain has no
      -- clone in flight
      pub shared_is : (part_at st id).guest.begun ≡ [] → (pfn f : ℕ)
          → frame_at l.local.own.map.pages pfn ≡ Some f
          → IfSome (W.told m.pool) (λ counts. nat_lt 1 (slice_index counts f)
          ≡ is_shared (slice_index_or (part_at st id).book.colours pfn 0) st.books)
      shared_is none pfn f at =
          let t = page_row pfn f at in
          let idle = ap (λ (a : Account Seat). (holding_of a.flight).flying) (account_is W m st id lt)
          ∙ ap (λ (o : Option (Held Seat)). (holding_of o).flying) (flight_none W m st reached (seated W m st stands) id none) in
          subst
          (λ (g : ℕ). IfSome (W.told m.pool) (λ counts. nat_lt 1 (slice_index counts g)
          ≡ is_shared (slice_index_or (part_at st id).book.colours pfn 0) st.books)) t.1
          (sharing.count_tells W m.pool heap us surveyed ordered stood.0 st.books stood.1 id pfn long t.0 idle)

      -- the domain's seat is one of all
      pub seat_at : (i : ℕ) × (get_or seats i None ≡ Some l.local.seat)
      seat_at =
          let i = domain_place us id long in
          (suc i.0, get_or-map seat_of (places heap us) (suc i.0) None ∙ ap seat_of (i.2 ∙ domain_here))

      -- as many pages lie in a page's frame as have its colour, the page among them
      pub pages_are : (pfn f : ℕ) → frame_at l.local.own.map.pages pfn ≡ Some f
          → pages_on (rows_of m) f
          ≡ pages_of (slice_index_or (part_at st id).book.colours pfn 0) st.books
      pages_are pfn f at =
          let t = page_row pfn f at in
          sym (ap (λ (rs : List (List ℕ)). pages_on rs f) (rows_are W m st))
          ∙ ap (pages_on (rows us)) (sym t.1)
          ∙ sharing.page_pages W m.pool heap us surveyed ordered stood.0 st.books stood.1 id pfn long t.0

      pub page_used : (pfn f : ℕ) → frame_at l.local.own.map.pages pfn ≡ Some f
          → 0 < pages_of (slice_index_or (part_at st id).book.colours pfn 0) st.books
      page_used pfn f at =
          let t = page_row pfn f at in
          let here = times_in_row (account_at id us).row pfn t.0 in
          let same : times (get_or (account_at id us).row pfn 0) (account_at id us).row ≡ times f (account_at id us).row =
          ap (λ (g : ℕ). times g (account_at id us).row) t.1 in
          let rows : pages_on (rows us) f ≡ pages_on (rows_of m) f =
          ap (λ (rs : List (List ℕ)). pages_on rs f) (rows_are W m st) in
          omega (arith, here, same, rows, row_under heap us ordered f id long, pages_are pfn f at)

      -- the frame is one of the pool's
      pub page_small : (pfn f : ℕ) → frame_at l.local.own.map.pages pfn ≡ Some f → f < W.frames m.pool
      page_small pfn f at =
          let rows : pages_on (rows us) f ≡ pages_on (rows_of m) f =
          ap (λ (rs : List (List ℕ)). pages_on rs f) (rows_are W m st) in
          uses.page_small W m.pool heap us surveyed ordered f
          (omega (arith, rows, page_used pfn f at, pages_are pfn f at))

      -- a page whose frame has one reference shares its colour with no other, whether a clone is in
      -- flight or not
      pub one_is : (pfn f : ℕ) → frame_at l.local.own.map.pages pfn ≡ Some f
          → IfSome (W.told m.pool) (λ counts. slice_index counts f ≡ 1
          → pages_of (slice_index_or (part_at st id).book.colours pfn 0) st.books ≡ 1)
      one_is pfn f at =
          by (W.told m.pool) (count_is W m.pool (places heap us) surveyed f (page_small pfn f at)) where
            alike : pages_on (rows us) f ≡ pages_on (rows_of m) f
            alike = ap (λ (rs : List (List ℕ)). pages_on rs f) (rows_are W m st)

            by : (o : Option (List ℕ))
                → IfSome o (λ counts. get_or counts f 0 ≡ pages_under (places heap us) f + other_uses (places heap us) f)
                → IfSome o (λ counts. slice_index counts f ≡ 1
                → pages_of (slice_index_or (part_at st id).book.colours pfn 0) st.books ≡ 1)
            by None k = tt
            by (Some counts) k = λ one. omega (
              arith,
              k,
              one,
              alike,
              pages_on_are heap us ordered f,
              page_used pfn f at,
              pages_are pfn f at,
            )

      -- a page whose frame its seat has to itself shares its colour with no other
      pub sole_is : (pfn f : ℕ) → frame_at l.local.own.map.pages pfn ≡ Some f
          → IsSoleAt (W.entries m.pool l.local.seat) f
          → pages_of (slice_index_or (part_at st id).book.colours pfn 0) st.books ≡ 1
      sole_is pfn f at sole =
          let t = page_row pfn f at in
          let i = domain_place us id long in
          let one = sharing.sole_is_one W m.pool heap us surveyed ordered stood.0 st.books stood.1 id pfn long t.0 (suc i.0) in
          subst
          (λ (o : Option (Held Seat)). IfSome o (λ x. IsSoleAt (W.entries m.pool x.seat) (get_or (account_at id us).row pfn 0)
          → pages_of (slice_index_or (part_at st id).book.colours pfn 0) st.books ≡ 1))
          (i.2 ∙ domain_here) one
          (subst (IsSoleAt (W.entries m.pool l.local.seat)) (sym t.1) sole)

      -- a table of a domain and its spare are under no page
      pub own_unpaged : (f : ℕ)
          → IsTable (W.entries m.pool l.local.seat) l.local.tables.root f ⊎ IsSpareAt l.local.own f
          → pages_on (rows_of m) f ≡ 0
      own_unpaged f kind =
          let d = domain_at W m st reached (seated W m st stands) id l here in
          let some = kind_own (W.entries m.pool l.local.seat) l.local.tables.root l.local.own d.stands.memory f kind in
          subst (λ (rs : List (List ℕ)). pages_on rs f ≡ 0) (rows_are W m st)
          (bare.domain_own_bare W m.pool heap us surveyed ordered id f long
          (subst (λ (o : Option (Held Seat)). 0 < times f (holding_of o).own) (sym domain_here) some))

    module _ (c : ℕ) (fl : Flight Pool Seat)
        (there : place_at c m.places.items ≡ InFlight fl) where
      parent_small : fl.parent < 64
      parent_small =
          let b = borne W m st reached (seated W m st stands) c fl there in
          domain_small W m st reached (seated W m st stands) fl.parent b.l b.here

      parent_long : fl.parent < length us
      parent_long = omega (arith, parent_small, accounts_long W m st)

      flight_own : (holding_of (account_at fl.parent us).flight).own ≡ fl.fork.frames.items
      flight_own =
          let x : Place Pool Seat = place_at fl.parent m.places.items in
          ap (λ (a : Account Seat). (holding_of a.flight).own) (account_is W m st fl.parent parent_small)
          ∙ ap (λ (xs : List ℕ). (holding_of (flight_of W m (pages_at W m x) xs)).own)
          (flight_at W m st reached (seated W m st stands) c fl there).1.begun
          ∙ ap (λ (y : Place Pool Seat). (holding_of (flight_in W m (pages_at W m x) y)).own) there

      -- a frame that a child in flight has for its tables and its identity page is under none
      pub flight_unpaged : (f : ℕ) → is_among f fl.fork.frames.items ≡ true
          → pages_on (rows_of m) f ≡ 0
      flight_unpaged f among =
          subst (λ (rs : List (List ℕ)). pages_on rs f ≡ 0) (rows_are W m st)
          (bare.flight_own_bare W m.pool heap us surveyed ordered fl.parent f parent_long
          (subst (λ (xs : List ℕ). 0 < times f xs) (sym flight_own) (among_some f fl.fork.frames.items among)))

      -- Frames of those that the child has and of those that the hypervisor has put aside for it are
      -- each one frame, under no page.
      module _ (fs : List ℕ) (from : (f : ℕ) → times f fs
          ≤ times f fl.fork.frames.items + times f (aside_of c m.hv.heap.stock)) where
        from_seats : (f : ℕ) → times f fs
            ≤ times f (holding_of (account_at fl.parent us).flight).own + times f heap.holding.own
        unfolding aside_frames
        from_seats f =
            let own : times f (holding_of (account_at fl.parent us).flight).own ≡ times f fl.fork.frames.items =
            ap (times f) flight_own in
            let k = from f in
            omega (arith, k, own, any_flat f m.hv.heap.stock.aside c)

        pub fresh_once : (f : ℕ) → times f fs ≤ 1
        fresh_once f =
            bare.aside_once W m.pool heap us surveyed ordered fl.parent parent_long fs from_seats f

        pub fresh_unpaged : (f : ℕ) → 0 < times f fs → pages_on (rows_of m) f ≡ 0
        fresh_unpaged f some = subst (λ (rs : List (List ℕ)). pages_on rs f ≡ 0) (rows_are W m st)
            (bare.aside_bare W m.pool heap us surveyed ordered fl.parent parent_long fs from_seats f some)

    -- nor is a frame that is put aside
    pub aside_unpaged : (c f : ℕ) → 0 < times f (aside_of c m.hv.heap.stock)
        → pages_on (rows_of m) f ≡ 0
    unfolding aside_frames
    aside_unpaged c f some =
        let most = any_flat f m.hv.heap.stock.aside c in
        subst (λ (rs : List (List ℕ)). pages_on rs f ≡ 0) (rows_are W m st)
        (bare.heap_own_bare W m.pool heap us surveyed ordered f (omega (arith, some, most)))

    -- nor a free one
    pub free_unpaged : (f : ℕ) → 0 < times f m.hv.heap.stock.free → pages_on (rows_of m) f ≡ 0
    free_unpaged f some = subst (λ (rs : List (List ℕ)). pages_on rs f ≡ 0) (rows_are W m st)
        (bare.free_bare W m.pool heap us surveyed ordered f some)
