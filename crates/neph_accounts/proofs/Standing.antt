-- The colours stand for the machine's frames behind each turn, by what becomes of the accounts.
use Rattle.std.proofs.Common.{◌≡◌, ◌≢◌, ℕ, ◌+◌, ◌<◌, ◌≤◌, List, [], length, set, get_or, IfSome, None, sym, ap, ◌∙◌, subst, arith}
use Rattle.neph_base.specs.declared.reply.Reply.{Reply}
use Rattle.neph_base.specs.declared.reply.Reply.TheVariants.{Ended, Child}
use Rattle.neph_pool.specs.World.{World}
use Rattle.neph_pool.specs.Entries.{IsSoleAt}
use Rattle.neph_model.specs.declared.script.Start.{Start}
use Rattle.neph_model.specs.declared.own.Own.{Own}
use Rattle.neph_model.specs.declared.book.Book.{Book}
use Rattle.neph_model.specs.declared.book.Spends.{Spends}
use Rattle.neph_model.specs.declared.book.Spends.TheVariants.{Copy}
use Rattle.neph_model.specs.Books.{Books, book_at, put_book, opening_books}
use Rattle.neph_model.specs.Turns.{books_after, books_committed}
use Rattle.neph_accounts.specs.Holdings.{times}
use Rattle.neph_accounts.specs.Places.{Place, holding_of, AreSurveyed}
use Rattle.neph_accounts.specs.Accounts.{Account, account_at, rows, places, AreAccounts}
use Rattle.neph_accounts.specs.Colours.{IsStood, new_frames, IsChildRow, CopiesNothing}
use Rattle.neph_accounts.proofs.Ids.{row_at, rows_long, rows_put}
use Rattle.neph_accounts.proofs.Colours.{by_places, row_long}
use Rattle.neph_accounts.proofs.Recolouring.{with_colour}
use Rattle.neph_accounts.proofs.Bearing.{with_new, stands_committed}
use Rattle.neph_accounts.proofs.Starting.{stands_opening}
use Rattle.neph_accounts.proofs.Turns.{stands_quiet, stands_line, stands_copy, stands_end}
use Rattle.neph_accounts.proofs.Bare.{domain_own_bare, aside_once, aside_bare, sole_once}

-- no row changes
pub rows_same : {Seat : Type 0} (us vs : List (Account Seat)) → length vs ≡ length us
    → ((id : ℕ) → (account_at id vs).row ≡ (account_at id us).row) → rows vs ≡ rows us
rows_same us vs long same =
    by_places (rows vs) (rows us) (rows_long vs ∙ long ∙ sym (rows_long us))
    (λ id. row_at vs id ∙ same id ∙ sym (row_at us id))

module _ {Seat : Type 0} (us vs : List (Account Seat)) (bs : Books) (id : ℕ)
    (long : length vs ≡ length us) (lt : id < length us) (st : IsStood (rows us) bs) where
  in_books : id < length bs.list
  in_books = let k = st.1.ids in omega (arith, lt, k, rows_long us)

  -- a turn without an entry
  pub stood_quiet : (b : Book) → ((j : ℕ) → (account_at j vs).row ≡ (account_at j us).row)
      → b.colours ≡ (book_at id bs).colours → IsStood (rows vs) (put_book id b bs)
  stood_quiet b same colours = let e = rows_same us vs long same in
      rw e (st.0, stands_quiet st.0 (rows us) bs id b st.1 in_books colours)

  -- a line that copies no page, and is no end
  pub stood_line : (o : Own) (spends : Spends) (answer : Reply)
      → ((j : ℕ) → (account_at j vs).row ≡ (account_at j us).row) → CopiesNothing spends
      → answer ≢ Ended → IsStood (rows vs) (books_after id o spends answer bs)
  stood_line o spends answer same none n = let e = rows_same us vs long same in
      rw e (st.0, stands_line st.0 (rows us) bs id o spends answer st.1 in_books none n)

  -- the end of a domain
  pub stood_end : (o : Own) (spends : Spends)
      → ((j : ℕ) → j ≢ id → (account_at j vs).row ≡ (account_at j us).row)
      → (account_at id vs).row ≡ [] → IsStood (rows vs) (books_after id o spends Ended bs)
  stood_end o spends same none =
      let put = rows_put us vs id long same in (
        st.0,
        stands_end st.0 (rows us)
            (rows vs) bs id o spends st.1 in_books
            (record { ids = put.ids; here = put.here ∙ none; others = put.others }),
      )

  module _ {Pool : Type 0} (W : World Pool Seat) (p : Pool) (heap : Place Seat)
      (h : AreSurveyed W p (places heap us)) (ok : AreAccounts heap us) where
    -- a line that copies a page into the domain's spare
    pub stood_copy : (pfn f : ℕ) (o : Own) (answer : Reply) → answer ≢ Ended
        → pfn < length (account_at id us).row
        → 0 < times f (holding_of (account_at id us).domain).own
        → ((j : ℕ) → j ≢ id → (account_at j vs).row ≡ (account_at j us).row)
        → (account_at id vs).row ≡ set (account_at id us).row pfn f
        → IsStood (rows vs) (books_after id o (Copy pfn) answer bs)
    stood_copy pfn f o answer n fit spare same row =
        let put = rows_put us vs id long same in
        let here : get_or (rows vs) id [] ≡ set (get_or (rows us) id []) pfn f = put.here ∙ row
        ∙ ap (λ (xs : List ℕ). set xs pfn f) (sym (row_at us id)) in
        let wide : pfn < length (book_at id bs).colours =
        (let k = ap (λ (xs : List ℕ). length xs) (row_at us id) in
        omega (arith, fit, k, row_long st.0 (rows us) bs st.1 id)) in (
          with_colour bs.fresh f st.0,
          stands_copy st.0 (rows us)
              (rows vs) bs id pfn f o answer st.1 in_books n wide
              (record { ids = put.ids; here = here; others = put.others })
              (domain_own_bare W p heap us h ok id f lt spare),
        )

    -- a commit, whose child's new frames were put aside for it
    pub stood_commit : (child : ℕ) (o : Own) → child < length us → id ≢ child
        → ((j : ℕ) → j ≢ child → (account_at j vs).row ≡ (account_at j us).row)
        → IsChildRow o (account_at id us).row (account_at child vs).row
        → ((f : ℕ)
        → times f (new_frames o 0 (account_at child vs).row) ≤ times f
        (holding_of (account_at id us).flight).own + times f heap.holding.own)
        → IsStood (rows vs) (books_committed id o (Child child) bs)
    stood_commit child o high ne same born from =
        let row : List ℕ = (account_at child vs).row in
        let news : List ℕ = new_frames o 0 row in
        let born_at : IsChildRow o (get_or (rows us) id []) row =
        subst (λ (xs : List ℕ). IsChildRow o xs row) (sym (row_at us id)) born in (
          with_new bs.fresh news st.0,
          stands_committed st.0 (rows us)
              (rows vs) bs id child o row st.1 (let k = st.1.ids in
              omega (arith, high, k, rows_long us)) (rows_put us vs child long same) born_at
              (aside_once W p heap us h ok id lt news from)
              (aside_bare W p heap us h ok id lt news from) in_books ne,
        )

-- the start of a script, where each page's frame is its seat's alone
pub stood_start : {Pool Seat : Type 0} (W : World Pool Seat) (p : Pool) (heap : Place Seat)
    (us : List (Account Seat)) (starts : List Start) → AreSurveyed W p (places heap us)
    → AreAccounts heap us → length us ≡ length (opening_books starts).list
    → ((id : ℕ)
    → length (account_at id us).row ≡ length (book_at id (opening_books starts)).colours)
    → ((i f : ℕ)
    → IfSome (get_or (places heap us) i None)
    (λ x. 0 < times f x.holding.pages → IsSoleAt (W.entries p x.seat) f))
    → IsStood (rows us) (opening_books starts)
stood_start W p heap us starts h ok ids sizes sole = (
  _,
  stands_opening starts (rows us) (rows_long us ∙ ids)
      (λ id. ap (λ (xs : List ℕ). length xs) (row_at us id) ∙ sizes id)
      (sole_once W p heap us h ok sole),
)
