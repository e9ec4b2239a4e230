-- The machine's frames are used as the definitions count them.
use Rattle.std.proofs.Common.{◌≡◌, ℕ, ◌+◌, ◌<◌, List, length, None, refl, sym, ◌∙◌, arith, if◌then◌else◌}
use Rattle.std.specs.List.{sum_by, range_with_len}
use Rattle.neph_pool.specs.World.{World}
use Rattle.neph_model.specs.declared.script.Script.{Script}
use Rattle.neph_model.specs.declared.book.Book.{Book}
use Rattle.neph_model.specs.Machine.{sum_live, is_live}
use Rattle.neph_model.specs.Books.{State, Books, no_book, book_at, colours_used, spares_held, table_frames, aside_for, counts, free}
use Rattle.neph_accounts.specs.Holdings.{times}
use Rattle.neph_accounts.specs.Places.{Place, holding_of, page_frames, pages_under, frames_with, AreSurveyed}
use Rattle.neph_accounts.specs.Accounts.{Account, no_account, rows, pages_on, places, AreAccounts}
use Rattle.neph_accounts.specs.Colours.{Stands}
use Rattle.neph_accounts.specs.Budgets.{AreBudgeted, AreUses}
use Rattle.neph_accounts.proofs.Sums.{sum_plus, sum_places, some_term}
use Rattle.neph_accounts.proofs.Distinct.{some_kinds}
use Rattle.neph_accounts.proofs.Frames.{all_frames, named_small}
use Rattle.neph_accounts.proofs.Ids.{pages_are, under_some, kept_all, own_all, rows_long}
use Rattle.neph_accounts.proofs.Colours.{frames_used}

module _ {Pool Seat : Type 0} (W : World Pool Seat) (p : Pool) (heap : Place Seat)
    (us : List (Account Seat)) (h : AreSurveyed W p (places heap us))
    (ok : AreAccounts heap us) where
  -- a frame under a page is one of the pool's
  pub page_small : (f : ℕ) → 0 < pages_on (rows us) f → f < W.frames p
  page_small f lt =
      let t = some_term (λ x. times f (page_frames (holding_of x)))
      (places heap us) None (omega (arith, lt, pages_are heap us ok f)) in
      named_small W p (places heap us) h t.0 f (omega (arith, t.2))

  module _ (φ : ℕ → ℕ) (bs : Books) (st : Stands φ (rows us) bs) where
    -- the frames under pages are as many as the colours
    pub colours_are : frames_with (W.frames p) (pages_under (places heap us)) ≡ colours_used bs
    colours_are =
        some_kinds (W.frames p) (pages_under (places heap us)) (pages_on (rows us))
        (under_some heap us ok) (λ f lt. omega (arith, lt, pages_are heap us ok f))
        ∙ frames_used φ (rows us) bs st (W.frames p) page_small

-- a sum over the live domains
live_sum : (f : ℕ → ℕ) (st : State)
    → sum_by (λ id. if is_live id st.machine.shared.lives then f id else 0)
    (range_with_len 0 64) ≡ sum_live f st.machine.shared.lives
unfolding sum_live
live_sum f st = refl

spare_sum : (bs : Books) → length bs.list ≡ 64
    → sum_by (λ id. if (book_at id bs).spare then 1 else 0) (range_with_len 0 64) ≡ spares_held bs
spare_sum bs long =
    rw long at
    (sum_places (λ (b : Book). if b.spare then 1 else 0) bs.list no_book 0
    (λ id. if (book_at id bs).spare then 1 else 0)
    (λ i lt. let e : 0 + i ≡ i = omega arith in rw e refl))

module _ {Seat : Type 0} (st : State) (us : List (Account Seat)) (budget : AreBudgeted st us) where
  -- the tables and spares of all domains
  tables_are : length st.books.list ≡ 64
      → sum_by (λ a. length (holding_of a.domain).own) us ≡ sum_live
      (table_frames st.machine) st.machine.shared.lives + spares_held st.books
  tables_are long =
      let t : ℕ → ℕ =
      λ id. if is_live id st.machine.shared.lives then table_frames st.machine id else 0 in
      let s : ℕ → ℕ = λ id. if (book_at id st.books).spare then 1 else 0 in
      let sum =
      sum_places (λ (a : Account Seat). length (holding_of a.domain).own) us no_account 0
      (λ id. t id + s id)
      (λ i lt. let e : 0 + i ≡ i = omega arith in
      rw e (sym (budget.tables i (omega (arith, lt, budget.ids))))) in
      let same : sum_by (λ id. t id + s id)
      (range_with_len 0 64) ≡ sum_by (λ a. length (holding_of a.domain).own) us =
      rw budget.ids at sum in
      omega (
        arith,
        same,
        sum_plus t s (range_with_len 0 64),
        live_sum (table_frames st.machine) st,
        spare_sum st.books long,
      )

  -- what is put aside for all clones in flight
  aside_are : sum_by (λ a. length (holding_of a.flight).own + length a.aside) us ≡ sum_live
      (aside_for st.machine) st.machine.shared.lives
  aside_are =
      let t : ℕ → ℕ =
      λ id. if is_live id st.machine.shared.lives then aside_for st.machine id else 0 in
      let sum =
      sum_places
      (λ (a : Account Seat). length
      (holding_of a.flight).own + length a.aside) us no_account 0 t
      (λ i lt. let e : 0 + i ≡ i = omega arith in
      rw e (sym (budget.aside i (omega (arith, lt, budget.ids))))) in
      let same : sum_by t (range_with_len 0 64) ≡ sum_by
      (λ a. length (holding_of a.flight).own + length a.aside) us = rw budget.ids at sum in
      omega (arith, same, live_sum (aside_for st.machine) st)

module _ {Pool Seat : Type 0} (W : World Pool Seat) (p : Pool) (heap : Place Seat)
    (us : List (Account Seat)) (φ : ℕ → ℕ) (s : Script) (st : State)
    (h : AreSurveyed W p (places heap us)) (ok : AreAccounts heap us)
    (stands : Stands φ (rows us) st.books) (budget : AreBudgeted st us)
    (total : s.frames ≡ W.frames p) where
  -- the free list, the frames under pages, and the others are all
  all_is : length heap.holding.kept +
      (colours_used st.books + sum_live
      (table_frames st.machine) st.machine.shared.lives + spares_held st.books + sum_live
      (aside_for st.machine) st.machine.shared.lives) ≡ s.frames
  all_is =
      let long : length st.books.list ≡ 64 = omega (arith, stands.ids, rows_long us, budget.ids) in
      omega (
        arith,
        all_frames W p (places heap us) h,
        kept_all heap us ok,
        own_all heap us ok,
        colours_are W p heap us h ok φ st.books stands,
        tables_are st us budget long,
        aside_are st us budget,
        total,
      )

  -- the free list is as long as the definitions say
  pub free_is : length heap.holding.kept ≡ free s st
  free_is = omega (arith, all_is)

  -- and the numbers of the definitions are those of the frames
  pub uses_are : AreUses (W.frames p) heap us (counts s st)
  uses_are = record {
    total = total;
    colours = sym (colours_are W p heap us h ok φ st.books stands);
    tables = sym (tables_are st us budget (omega (arith, stands.ids, rows_long us, budget.ids)));
    aside = sym (aside_are st us budget);
    free = sym free_is;
    all = omega (arith, all_is);
  }
