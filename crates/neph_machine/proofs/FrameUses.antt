-- What the frames of a machine that stands for a state are used for, by what stands in its places.
use Rattle.std.proofs.Common.{◌≡◌, ℕ, ◌+◌, ◌<◌, ◌⊎◌, inl, inr, Bool, List, [], ◌∷◌, length, refl, sym, ap, ◌∙◌, arith, if◌then◌else◌}
use Rattle.std.specs.List.{sum_by, range_with_len}
use Rattle.std.proofs.lemmas.List.Concat.{length-flat_map}
use Rattle.neph_model.specs.Books.{State, no_book, book_at, counts, spares_held, table_frames as table_count}
use Rattle.neph_model.specs.Machine.{is_live, sum_live}
use Rattle.neph_model.specs.declared.book.Book.{Book}
use Rattle.neph_runs.specs.Orderly.{seat as part_at}
use Rattle.neph_pool.specs.World.{World}
use Rattle.neph_gmap.specs.declared.page.Page.{Page}
use Rattle.neph_local.proofs.Tallying.{leaves_counted}
use Rattle.neph_heap.specs.Lists.{aside_frames, aside_count}
use Rattle.neph_accounts.specs.Places.{holding_of}
use Rattle.neph_accounts.specs.Accounts.{Account}
use Rattle.neph_accounts.proofs.Sums.{sum_plus, sum_places, same_in}
use Rattle.neph_machine.specs.declared.place.Place.{Place}
use Rattle.neph_machine.specs.declared.place.Place.TheVariants.{Empty, Flight as InFlight, Domain}
use Rattle.neph_machine.specs.declared.machine.Machine.{Machine}
use Rattle.neph_machine.specs.Places.{place_at}
use Rattle.neph_machine.specs.FrameUses.{tables_in, spares_in, aside_in, AreFrameUses}
use Rattle.neph_machine.specs.Surveyed.{IsSurveyed}
use Rattle.neph_machine.specs.StandsFor.{StandsFor}
use Rattle.neph_machine.proofs.Reached.{IsReached}
use Rattle.neph_machine.proofs.Summing.{of_first, by_parents}
use Rattle.neph_machine.proofs.Accounts.{AreSeated, seated, flight_in, flight_of, pages_at, accounts, account, sum_accounts, begun_by, domain_at, flight_at, empty_at}
use Rattle.neph_machine.proofs.Ordered.{parent_at, begun_at, has_child, heap_aside}
use Rattle.neph_machine.proofs.FrameLaws as laws

module _ {Pool Seat : Type 0} (W : World Pool Seat) (m : Machine Pool Seat) (st : State)
    (reached : IsReached m.script st) (stood : StandsFor W m st) where
  abbrev stands : AreSeated W m st
  stands = seated W m st stood

  -- a sum over the places, by the ids
  sum_items : (g : Place Pool Seat → ℕ)
      → sum_by (λ id. g (place_at id m.places.items)) (range_with_len 0 64)
      ≡ sum_by g m.places.items
  sum_items g =
      let at : sum_by (λ id. g (place_at id m.places.items)) (range_with_len 0 (length m.places.items)) ≡ sum_by g m.places.items =
      sum_places g m.places.items Empty 0 (λ id. g (place_at id m.places.items))
      (λ i lt. ap (λ (k : ℕ). g (place_at k m.places.items)) (omega arith)) in
      rw stands.places at at

  table_at : (id : ℕ)
      → (if is_live id st.machine.shared.lives then table_count st.machine id else 0)
      ≡ tables_in W m.pool (place_at id m.places.items)
  table_at id = by (place_at id m.places.items) refl where
    by : (x : Place Pool Seat) → place_at id m.places.items ≡ x
        → (if is_live id st.machine.shared.lives then table_count st.machine id else 0)
        ≡ tables_in W m.pool x
    by Empty e = ap (λ (b : Bool). if b then table_count st.machine id else 0)
        (empty_at W m st reached stands id e).0.live
    by (InFlight f) e = ap (λ (b : Bool). if b then table_count st.machine id else 0)
        (flight_at W m st reached stands id f e).0.live
    by (Domain l) e =
        let d = domain_at W m st reached stands id l e in
        let o = (part_at st id).own in
        ap (λ (b : Bool). if b then table_count st.machine id else 0) d.live
        ∙ ap (λ (k : ℕ). 1 + k) (leaves_counted W m.pool l.local o.pages o.vmap o.leaves d.own.own.memory)

  tables_are : sum_live (table_count st.machine) st.machine.shared.lives
      ≡ sum_by (tables_in W m.pool) m.places.items
  unfolding sum_live
  tables_are =
      same_in (λ id. if is_live id st.machine.shared.lives then table_count st.machine id else 0)
      (λ id. tables_in W m.pool (place_at id m.places.items)) 0 64 (λ id low lt. table_at id)
      ∙ sum_items (tables_in W m.pool)

  abbrev bit : Bool → ℕ
  bit b = if b then 1 else 0

  spare_at : (id : ℕ) → bit (book_at id st.books).spare
      ≡ spares_in (place_at id m.places.items)
  spare_at id = by (place_at id m.places.items) refl where
    by : (x : Place Pool Seat) → place_at id m.places.items ≡ x
        → bit (book_at id st.books).spare ≡ spares_in x
    by Empty e = ap bit (empty_at W m st reached stands id e).0.spare
    by (InFlight f) e = ap bit (flight_at W m st reached stands id f e).0.spare
    by (Domain l) e = ap bit (domain_at W m st reached stands id l e).spare

  spares_are : spares_held st.books ≡ sum_by spares_in m.places.items
  spares_are =
      let at : sum_by (λ id. bit (book_at id st.books).spare) (range_with_len 0 (length st.books.list)) ≡ spares_held st.books =
      sum_places (λ (b : Book). bit b.spare) st.books.list no_book 0 (λ id. bit (book_at id st.books).spare)
      (λ i lt. ap (λ (k : ℕ). bit (book_at k st.books).spare) (omega arith)) in
      sym (rw reached.sound.orderly.places.books at at)
      ∙ same_in (λ id. bit (book_at id st.books).spare) (λ id. spares_in (place_at id m.places.items)) 0 64
      (λ id low lt. spare_at id)
      ∙ sum_items spares_in

  fork_at : ℕ → ℕ
  fork_at c = aside_in (place_at c m.places.items)

  flight_own : (ps : List Page) (begun : List ℕ)
      → length (holding_of (flight_of W m ps begun)).own ≡ of_first fork_at begun
  unfolding fork_at
  flight_own ps [] = refl
  flight_own ps (c ∷ cs) = by (place_at c m.places.items) where
    by : (x : Place Pool Seat) → length (holding_of (flight_in W m ps x)).own ≡ aside_in x
    by Empty = refl
    by (InFlight f) = refl
    by (Domain l) = refl

  is_fork : (c : ℕ) → c < 64 → (fork_at c ≡ 0)
      ⊎ ((parent_at W m st reached stands c < 64) × (begun_by W m st (parent_at W m st reached stands c) ≡ c ∷ []))
  unfolding fork_at
  is_fork c lt = by (place_at c m.places.items) refl where
    by : (x : Place Pool Seat) → place_at c m.places.items ≡ x → (fork_at c ≡ 0)
        ⊎ ((parent_at W m st reached stands c < 64) × (begun_by W m st (parent_at W m st reached stands c) ≡ c ∷ []))
    by Empty e = inl (ap aside_in e)
    by (Domain l) e = inl (ap aside_in e)
    by (InFlight f) e = inr (begun_at W m st reached stands c f e)

  forks_are : sum_by (λ a. length (holding_of a.flight).own) (accounts W m st)
      ≡ sum_by aside_in m.places.items
  unfolding fork_at
  forks_are =
      sum_accounts W m st (λ a. length (holding_of a.flight).own)
      ∙ same_in (λ id. length (holding_of (account W m st id).flight).own)
      (λ id. of_first fork_at (begun_by W m st id)) 0 64
      (λ id low lt. flight_own (pages_at W m (place_at id m.places.items)) (begun_by W m st id))
      ∙ by_parents 64 fork_at (begun_by W m st) (parent_at W m st reached stands)
      (has_child W m st reached stands) is_fork
      ∙ sum_items aside_in

  heap_count : sum_by (λ a. length a.aside) (accounts W m st) ≡ aside_count m.hv.heap.stock
  unfolding aside_frames
  heap_count = sym (heap_aside W m st reached stands)
      ∙ length-flat_map (λ (ys : List ℕ). ys) m.hv.heap.stock.aside

  -- the frames of the places are used as the definitions count them
  pub frames_are : IsSurveyed W → AreFrameUses W m (counts m.script st)
  frames_are survey =
      let u = laws.counts_are W m st survey reached stood in
      record {
        total = u.total;
        tables = tables_are;
        spares = spares_are;
        aside = u.aside
            ∙ sum_plus (λ (a : Account Seat). length (holding_of a.flight).own)
            (λ (a : Account Seat). length a.aside) (accounts W m st)
            ∙ omega (arith, forks_are, heap_count);
        free = u.free;
        all = u.all;
      }
