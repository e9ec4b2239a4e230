-- The accounts of a machine that stands for a state are in order, and as the definitions count.
use Rattle.std.proofs.Common.{◌≡◌, ℕ, ◌+◌, ◌*◌, ◌<◌, ◌⊎◌, inl, inr, Bool, true, false, not, List, [], ◌∷◌, length, is_some, option_to_list, refl, sym, ap, ◌∙◌, subst, arith, if◌then◌else◌}
use Rattle.std.specs.List.{sum_by, range_with_len}
use Rattle.std.specs.FinMap as fm
use Rattle.std.specs.declared.option.Option.{Option}
use Rattle.std.proofs.lemmas.List.{length-map}
use Rattle.std.proofs.lemmas.List.Concat.{length-flat_map}
use Rattle.neph_model.specs.Books.{State, aside_for as aside_wanted, table_frames, need_of, book_at}
use Rattle.neph_model.specs.Machine.{Shared, Exposed, is_live, exposed_at}
use Rattle.neph_runs.specs.Orderly.{seat as part_at}
use Rattle.neph_pool.specs.World.{World}
use Rattle.neph_guest.specs.declared.live.Live.{Live}
use Rattle.neph_heap.specs.declared.exposed_frame.ExposedFrame.{ExposedFrame}
use Rattle.neph_heap.specs.Lists.{Lists, exposed_of, aside_of, frames_of, exposed_frames, aside_frames}
use Rattle.neph_heap.specs.Heap.{ArePages}
use Rattle.neph_heap.proofs.Counting.{times_flat}
use Rattle.neph_heap.proofs.Filled.{page_count}
use Rattle.neph_heap.proofs.Maps.{pages_at as pages_of_id}
use Rattle.neph_accounts.specs.Holdings.{times}
use Rattle.neph_accounts.specs.Places.{Place as Held, holding_of}
use Rattle.neph_accounts.specs.Accounts.{Account, no_account, IsAccount, IsHeap, AreAccounts}
use Rattle.neph_accounts.specs.Heaps.{local_frames}
use Rattle.neph_accounts.specs.Budgets.{HasTables, HasAside, AreBudgeted}
use Rattle.neph_accounts.proofs.Heaps.{row_split}
use Rattle.neph_accounts.proofs.Sums.{sum_places, same_in}
use Rattle.neph_machine.specs.declared.place.Place.{Place}
use Rattle.neph_machine.specs.declared.place.Place.TheVariants.{Empty, Flight as InFlight, Domain}
use Rattle.neph_machine.specs.declared.place.Flight.{Flight}
use Rattle.neph_machine.specs.declared.machine.Machine.{Machine}
use Rattle.neph_machine.specs.Places.{place_at}
use Rattle.neph_machine.specs.Rows.{frames_in, away_in, row_of}
use Rattle.neph_machine.specs.StandsFor.{Exposes}
use Rattle.neph_local.proofs.Tallying.{leaves_counted}
use Rattle.neph_machine.proofs.Reached.{IsReached}
use Rattle.neph_machine.proofs.Summing.{of_first, by_parents}
use Rattle.neph_machine.proofs.Listed.{option_length, frame_is, frame_page, shared_frames, shared_done}
use Rattle.neph_machine.proofs.Exposing.{exposed_listed}
use Rattle.neph_machine.proofs.Holding.{own_length}
use Rattle.neph_machine.proofs.Accounts.{AreSeated, parent_in, sum_accounts, domain_in, aside_for, heap_place, account, accounts, accounts_long, account_is, all_accounts, begun_by, domain_at, flight_at, empty_at, begun_kind, borne, domain_small, flight_small, flight_none, flight_some}

-- the frames under a domain's pages are its own and those of its exposed pages
pub row_is : {Pool Seat : Type 0} (stock : Lists) (id : ℕ) (l : Live Pool Seat) (f : ℕ)
    → ArePages (exposed_of id stock) → Exposes stock id l
    → times f (row_of stock id (Domain l)) ≡ times f (local_frames (frames_in l.local.own.map.pages)) + times f (frames_of (exposed_of id stock))
row_is stock id l f pages exposes =
    let ps = l.local.own.map.pages in
    let xs = exposed_of id stock in
    let long : length (frames_in ps) ≡ length ps = length-map ps _ in
    let listed = exposed_listed (frames_in ps) xs f pages.once
    (λ i lt. exposes.split i (omega (arith, lt, long)) ∙ ap (λ (o : Option ℕ). not (is_some o)) (frame_is ps i))
    (λ q s. let k = exposes.within q s in omega (arith, k, long)) in
    row_split (frames_in ps) (away_in stock id) 0 f
    ∙ ap (λ (k : ℕ). times f (local_frames (frames_in ps)) + k) listed

module _ {Pool Seat : Type 0} (W : World Pool Seat) (m : Machine Pool Seat) (st : State)
    (reached : IsReached m.script st) (stands : AreSeated W m st) where
  abbrev stock : Lists
  stock = m.hv.heap.stock

  abbrev us : List (Account Seat)
  us = accounts W m st

  heap_pages : (f : ℕ) → times f (exposed_frames stock.exposed) ≡ sum_by (λ a. times f a.exposed) us
  unfolding exposed_frames
  heap_pages f =
      let g : List ExposedFrame → ℕ = λ xs. times f (frames_of xs) in
      let at : sum_by (λ id. g (exposed_of id stock)) (range_with_len 0 (length stock.exposed)) ≡ sum_by g stock.exposed =
      sum_places g stock.exposed [] 0 (λ id. g (exposed_of id stock)) (λ i lt. ap (λ (k : ℕ). g (exposed_of k stock)) (omega arith)) in
      times_flat f frames_of stock.exposed ∙ sym (rw stands.heap.domains at at)
      ∙ sym (sum_accounts W m st (λ a. times f a.exposed))

  aside_at : ℕ → ℕ
  aside_at c = length (aside_of c stock)

  pub parent_at : ℕ → ℕ
  parent_at c = parent_in (place_at c m.places.items)

  pub has_child : (id : ℕ) → id < 64 → (begun_by W m st id ≡ [])
      ⊎ ((c : ℕ) × (c < 64) × (begun_by W m st id ≡ c ∷ []) × (parent_at c ≡ id))
  unfolding parent_at
  has_child id lt = elim (begun_kind W m st reached stands id) [
    | inl e ↦ inl e
    | inr b ↦ inr (
      b.child,
      flight_small W m st reached stands b.child b.flight b.there,
      b.begun,
      ap parent_in b.there ∙ b.parent,
    )
  ]

  -- the parent of a child in flight has begun it
  pub begun_at : (c : ℕ) (f : Flight Pool Seat) → place_at c m.places.items ≡ InFlight f
      → (parent_at c < 64) × (begun_by W m st (parent_at c) ≡ c ∷ [])
  unfolding parent_at
  begun_at c f e =
      let b = borne W m st reached stands c f e in
      let low = domain_small W m st reached stands f.parent b.l b.here in
      let is : parent_at c ≡ f.parent = ap parent_in e in (
        omega (arith, low, is),
        ap (begun_by W m st) is ∙ (flight_at W m st reached stands c f e).1.begun,
      )

  is_child : (c : ℕ) → c < 64
      → (aside_at c ≡ 0) ⊎ ((parent_at c < 64) × (begun_by W m st (parent_at c) ≡ c ∷ []))
  unfolding aside_at
  is_child c lt = by (place_at c m.places.items) refl where
    by : (x : Place Pool Seat) → place_at c m.places.items ≡ x → (aside_at c ≡ 0)
        ⊎ ((parent_at c < 64) × (begun_by W m st (parent_at c) ≡ c ∷ []))
    by Empty e = inl (ap (λ (xs : List ℕ). length xs) (empty_at W m st reached stands c e).1)
    by (Domain l) e = inl (ap (λ (xs : List ℕ). length xs) (domain_at W m st reached stands c l e).aside)
    by (InFlight f) e = inr (begun_at c f e)

  aside_first : (begun : List ℕ) → of_first aside_at begun ≡ length (aside_for W m begun)
  unfolding aside_at
  aside_first [] = refl
  aside_first (c ∷ cs) = refl

  aside_sum : length (aside_frames stock.aside) ≡ sum_by aside_at (range_with_len 0 64)
  unfolding aside_frames aside_at
  aside_sum =
      let at : sum_by aside_at (range_with_len 0 (length stock.aside)) ≡ sum_by (λ (xs : List ℕ). length xs) stock.aside =
      sum_places (λ (xs : List ℕ). length xs) stock.aside [] 0 aside_at (λ i lt. ap aside_at (omega arith)) in
      length-flat_map (λ (ys : List ℕ). ys) stock.aside ∙ sym (rw stands.heap.children at at)

  pub heap_aside : length (aside_frames stock.aside) ≡ sum_by (λ a. length a.aside) us
  heap_aside =
      aside_sum
      ∙ sym (by_parents 64 aside_at (begun_by W m st) parent_at has_child is_child)
      ∙ same_in (λ id. of_first aside_at (begun_by W m st id)) (λ id. length (aside_for W m (begun_by W m st id))) 0 64
      (λ id low lt. aside_first (begun_by W m st id))
      ∙ sym (sum_accounts W m st (λ a. length a.aside))

  heap_is : IsHeap (heap_place W m).holding us
  heap_is = record { pages = heap_pages; own = heap_aside; no_flying = refl }

  no_account_is : IsAccount (no_account {Seat = Seat})
  no_account_is = record {
    row = λ f. refl;
    no_flying = refl;
    none_free = refl;
    flying = λ f h. absurd (omega arith);
    flight_pages = refl;
    flight_free = refl;
  }

  none_flying : (x : Place Pool Seat) → (holding_of (domain_in W m x)).flying ≡ []
  none_flying Empty = refl
  none_flying (InFlight f) = refl
  none_flying (Domain l) = refl

  none_kept : (x : Place Pool Seat) → (holding_of (domain_in W m x)).kept ≡ []
  none_kept Empty = refl
  none_kept (InFlight f) = refl
  none_kept (Domain l) = refl

  -- the frames under a domain's pages
  pub domain_row : (id : ℕ) (l : Live Pool Seat) → place_at id m.places.items ≡ Domain l → (f : ℕ)
      → times f (row_of stock id (Domain l)) ≡ times f (local_frames (frames_in l.local.own.map.pages)) + times f (frames_of (exposed_of id stock))
  domain_row id l e f =
      row_is stock id l f (stands.heap.pages id) (domain_at W m st reached stands id l e).exposes

  row_at : (id f : ℕ) → times f (account W m st id).row
      ≡ times f (holding_of (account W m st id).domain).pages + times f (account W m st id).exposed
  row_at id f = by (place_at id m.places.items) refl where
    by : (x : Place Pool Seat) → place_at id m.places.items ≡ x
        → times f (row_of stock id x)
        ≡ times f (holding_of (domain_in W m x)).pages + times f (frames_of (exposed_of id stock))
    by Empty e =
        let z : times f (frames_of (exposed_of id stock)) ≡ 0 =
        ap (λ (xs : List ExposedFrame). times f (frames_of xs)) (empty_at W m st reached stands id e).0.exposed in
        omega (arith, z)
    by (InFlight g) e =
        let z : times f (frames_of (exposed_of id stock)) ≡ 0 =
        ap (λ (xs : List ExposedFrame). times f (frames_of xs)) (flight_at W m st reached stands id g e).0.exposed in
        omega (arith, z)
    by (Domain l) e = domain_row id l e f

  flying_at : (id f : ℕ) → 0 < times f (holding_of (account W m st id).flight).flying
      → 0 < times f (account W m st id).row
  flying_at id f some = elim (begun_kind W m st reached stands id) [
    | inl e ↦ absurd
        (let z : times f (holding_of (account W m st id).flight).flying ≡ 0 =
        ap (λ (o : Option (Held Seat)). times f (holding_of o).flying) (flight_none W m st reached stands id e) in
        omega (arith, z, some))
    | inr b ↦
        (let ps = b.l.local.own.map.pages in
        let z : times f (holding_of (account W m st id).flight).flying ≡ times f (shared_frames ps b.flight.fork.next) =
        ap (λ (o : Option (Held Seat)). times f (holding_of o).flying) (flight_some W m st reached stands id b) in
        let done = shared_done ps b.flight.fork.next f (omega (arith, z, some)) in
        let local = frame_page ps done.0 f done.3 in
        let row : times f (account W m st id).row ≡ times f (row_of stock id (Domain b.l)) =
        ap (λ (x : Place Pool Seat). times f (row_of stock id x)) b.here in
        omega (arith, row, local, domain_row id b.l b.here f))
  ]

  account_ordered : (id : ℕ) → id < 64 → IsAccount (account W m st id)
  account_ordered id lt = record {
    row = row_at id;
    no_flying = none_flying (place_at id m.places.items);
    none_free = none_kept (place_at id m.places.items);
    flying = flying_at id;
    flight_pages = elim (begun_kind W m st reached stands id) [
      | inl e ↦ ap (λ (o : Option (Held Seat)). (holding_of o).pages) (flight_none W m st reached stands id e)
      | inr b ↦ ap (λ (o : Option (Held Seat)). (holding_of o).pages) (flight_some W m st reached stands id b)
    ];
    flight_free = elim (begun_kind W m st reached stands id) [
      | inl e ↦ ap (λ (o : Option (Held Seat)). (holding_of o).kept) (flight_none W m st reached stands id e)
      | inr b ↦ ap (λ (o : Option (Held Seat)). (holding_of o).kept) (flight_some W m st reached stands id b)
    ];
  }

  -- the accounts are in order
  pub are_accounts : AreAccounts (heap_place W m) us
  are_accounts = record {
    heap_is = heap_is;
    each = all_accounts W m st (λ id a. IsAccount a) (λ id. no_account_is) account_ordered;
  }

  abbrev bit : Bool → ℕ
  bit b = if b then 1 else 0

  has_tables : (id : ℕ) → id < 64 → HasTables st id (account W m st id)
  has_tables id lt = by (place_at id m.places.items) refl where
    none : is_live id st.machine.shared.lives ≡ false → (book_at id st.books).spare ≡ false
        → 0 ≡ (if is_live id st.machine.shared.lives then table_frames st.machine id else 0) + bit (book_at id st.books).spare
    none live spare =
        let a : (if is_live id st.machine.shared.lives then table_frames st.machine id else 0) ≡ 0 =
        ap (λ (b : Bool). if b then table_frames st.machine id else 0) live in
        let c : bit (book_at id st.books).spare ≡ 0 = ap bit spare in
        omega (arith, a, c)

    by : (x : Place Pool Seat) → place_at id m.places.items ≡ x
        → length (holding_of (domain_in W m x)).own
        ≡ (if is_live id st.machine.shared.lives then table_frames st.machine id else 0) + bit (book_at id st.books).spare
    by Empty e = let h = (empty_at W m st reached stands id e).0 in none h.live h.spare
    by (InFlight f) e = let h = (flight_at W m st reached stands id f e).0 in none h.live h.spare
    by (Domain l) e =
        let d = domain_at W m st reached stands id l e in
        let o = (part_at st id).own in
        let a : (if is_live id st.machine.shared.lives then table_frames st.machine id else 0) ≡ 1 + length o.leaves =
        ap (λ (b : Bool). if b then table_frames st.machine id else 0) d.live in
        let c : bit (book_at id st.books).spare ≡ length (option_to_list l.local.own.spare) =
        ap bit d.spare ∙ sym (option_length l.local.own.spare) in
        omega (
          arith,
          a,
          c,
          own_length (W.entries m.pool l.local.seat) l.local.tables.root l.local.own d.stands.memory,
          leaves_counted W m.pool l.local o.pages o.vmap o.leaves d.own.own.memory,
        )

  if_none : (b : Bool) (n : ℕ) → n ≡ 0 → (if b then n else 0) ≡ 0
  if_none true n e = e
  if_none false n e = refl

  -- the definitions have as many exposed pages of an id as the hypervisor lists
  exposed_count : (id : ℕ)
      → fm.len (exposed_at id st.machine.shared.pages) ≡ length (exposed_of id stock)
  exposed_count id =
      let es = W.entries m.pool m.hv.heap.seat in
      ap (λ (sh : Shared). fm.len (exposed_at id sh.pages)) stands.shared
      ∙ ap (λ (x : Exposed). fm.len x) (pages_of_id es stock.exposed id)
      ∙ page_count es (exposed_of id stock) (stands.heap.pages id).once

  has_aside : (id : ℕ) → id < 64 → HasAside st id (account W m st id)
  has_aside id lt = elim (begun_kind W m st reached stands id) [
    | inl e ↦
        (let a : length (holding_of (account W m st id).flight).own ≡ 0 =
        ap (λ (o : Option (Held Seat)). length (holding_of o).own) (flight_none W m st reached stands id e) in
        let b : length (account W m st id).aside ≡ 0 = ap (λ (xs : List ℕ). length (aside_for W m xs)) e in
        let c : aside_wanted st.machine id ≡ 0 * need_of st.machine id =
        ap (λ (xs : List ℕ). length xs * need_of st.machine id) e in
        let z = if_none (is_live id st.machine.shared.lives) (aside_wanted st.machine id) (omega (arith, c)) in
        omega (arith, a, b, z))
    | inr b ↦
        (let d = domain_at W m st reached stands id b.l b.here in
        let o = (part_at st id).own in
        let a : length (holding_of (account W m st id).flight).own ≡ length b.flight.fork.frames.items =
        ap (λ (o : Option (Held Seat)). length (holding_of o).own) (flight_some W m st reached stands id b) in
        let c : length (account W m st id).aside ≡ length (aside_of b.child stock) =
        ap (λ (xs : List ℕ). length (aside_for W m xs)) b.begun in
        let n : aside_wanted st.machine id ≡ 1 * need_of st.machine id =
        ap (λ (xs : List ℕ). length xs * need_of st.machine id) b.begun in
        let live : (if is_live id st.machine.shared.lives then aside_wanted st.machine id else 0) ≡ aside_wanted st.machine id =
        ap (λ (k : Bool). if k then aside_wanted st.machine id else 0) d.live in
        omega (
          arith,
          a,
          c,
          n,
          live,
          b.aside,
          b.fork.enough,
          exposed_count id,
          leaves_counted W m.pool b.l.local o.pages o.vmap o.leaves d.own.own.memory,
        ))
  ]

  -- they have as many frames that are under no page as the definitions count
  pub are_budgeted : AreBudgeted st us
  are_budgeted = record {
    ids = accounts_long W m st;
    tables = λ id lt. subst (λ (a : Account Seat). HasTables st id a) (sym (account_is W m st id lt)) (has_tables id lt);
    aside = λ id lt. subst (λ (a : Account Seat). HasAside st id a) (sym (account_is W m st id lt)) (has_aside id lt);
  }
