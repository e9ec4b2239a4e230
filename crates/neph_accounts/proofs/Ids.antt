-- What all places name, by the accounts of the ids.
use Rattle.std.proofs.Common.{◌≡◌, ◌≢◌, ℕ, zero, suc, ◌+◌, ◌<◌, ◌≤◌, List, [], ◌∷◌, length, get_or, Some, None, refl, ap, arith, sym, ◌∙◌}
use Rattle.std.specs.List.{sum_by}
use Rattle.std.proofs.lemmas.List.Sums.{sum_by-cons}
use Rattle.std.specs.declared.option.Option.{Option}
use Rattle.neph_accounts.specs.Holdings.{times}
use Rattle.neph_accounts.specs.Places.{Place, holding_of, page_frames, flying_frames, own_frames, kept_frames, times_named, length_in, pages_under}
use Rattle.neph_accounts.specs.Accounts.{Account, no_account, account_at, row_of, rows, pages_on, seats_in, places, AreAccounts}
use Rattle.neph_accounts.specs.Colours.{RowPut}
use Rattle.neph_accounts.proofs.Sums.{sum_plus, some_term, one_term}

module _ {Seat : Type 0} where
  -- a sum over the seats of the accounts
  pub sum_seats : (g : Option (Place Seat) → ℕ) (us : List (Account Seat))
      → sum_by g (seats_in us) ≡ sum_by (λ a. g a.domain + g a.flight) us
  sum_seats g [] = refl
  sum_seats g (a ∷ us) =
      omega (
        arith,
        sum_seats g us,
        sum_by-cons g a.domain (a.flight ∷ seats_in us),
        sum_by-cons g a.flight (seats_in us),
        sum_by-cons (λ (b : Account Seat). g b.domain + g b.flight) a us,
      )

  -- numbers that are the same in each account have the same sum
  pub same_sum : (f g : Account Seat → ℕ) (us : List (Account Seat))
      → ((id : ℕ) → f (account_at id us) ≡ g (account_at id us)) → sum_by f us ≡ sum_by g us
  same_sum f g [] h = refl
  same_sum f g (a ∷ us) h = let first : f a ≡ g a = h zero in
      omega (
        arith,
        first,
        same_sum f g us (λ id. h (suc id)),
        sum_by-cons f a us,
        sum_by-cons g a us,
      )

  pub no_sum : (f : Account Seat → ℕ) (us : List (Account Seat))
      → ((id : ℕ) → f (account_at id us) ≡ 0) → sum_by f us ≡ 0
  no_sum f [] h = refl
  no_sum f (a ∷ us) h = let first : f a ≡ 0 = h zero in
      omega (arith, first, no_sum f us (λ id. h (suc id)), sum_by-cons f a us)

  pub rows_sum : (f : ℕ) (us : List (Account Seat))
      → pages_on (rows us) f ≡ sum_by (λ a. times f (row_of a)) us
  rows_sum f [] = refl
  rows_sum f (a ∷ us) =
      omega (
        arith,
        rows_sum f us,
        sum_by-cons (times f) a.row (rows us),
        sum_by-cons (λ (b : Account Seat). times f (row_of b)) a us,
      )

  pub row_at : (us : List (Account Seat)) (id : ℕ) → get_or (rows us) id [] ≡ (account_at id us).row
  row_at [] id = refl
  row_at (a ∷ us) zero = refl
  row_at (a ∷ us) (suc id) = row_at us id

  pub rows_long : (us : List (Account Seat)) → length (rows us) ≡ length us
  rows_long [] = refl
  rows_long (a ∷ us) = ap suc (rows_long us)

  -- the place of a domain, and that of its child in flight, among all places
  pub domain_place : (us : List (Account Seat)) (id : ℕ) → id < length us
      → (i : ℕ) × (i < length (seats_in us))
      × (get_or (seats_in us) i None ≡ (account_at id us).domain)
  domain_place [] id lt = absurd (omega arith)
  domain_place (a ∷ us) zero lt = (zero, omega arith, refl)
  domain_place (a ∷ us) (suc id) lt = let t = domain_place us id (omega arith) in
      (suc (suc t.0), omega (arith, t.1), t.2)

  pub flight_place : (us : List (Account Seat)) (id : ℕ) → id < length us
      → (i : ℕ) × (i < length (seats_in us))
      × (get_or (seats_in us) i None ≡ (account_at id us).flight)
  flight_place [] id lt = absurd (omega arith)
  flight_place (a ∷ us) zero lt = (suc zero, omega arith, refl)
  flight_place (a ∷ us) (suc id) lt = let t = flight_place us id (omega arith) in
      (suc (suc t.0), omega (arith, t.1), t.2)

  module _ (heap : Place Seat) (us : List (Account Seat)) (h : AreAccounts heap us) where
    -- the pages of all places are those of the domains' rows
    pub pages_are : (f : ℕ) → times_named page_frames (places heap us) f ≡ pages_on (rows us) f
    pages_are f =
        let g : Option (Place Seat) → ℕ = λ x. times f (page_frames (holding_of x)) in
        let each =
        same_sum (λ a. times f (row_of a))
        (λ a. (g a.domain + g a.flight) + times f a.exposed) us (λ id.
        let a = h.each id in
        let none : times f (holding_of (account_at id us).flight).pages ≡ 0 =
        ap (times f) a.flight_pages in
        omega (arith, a.row f, none)) in
        omega (
          arith,
          rows_sum f us,
          each,
          sum_plus (λ (a : Account Seat). g a.domain + g a.flight)
              (λ (a : Account Seat). times f a.exposed) us,
          sum_seats g us,
          sum_by-cons g (Some heap)
              (seats_in us),
          h.heap_is.pages f,
        )

    -- those in flight are the children's
    pub flying_are : (f : ℕ)
        → times_named flying_frames (places heap us) f ≡ sum_by
        (λ a. times f (holding_of a.flight).flying) us
    flying_are f =
        let g : Option (Place Seat) → ℕ = λ x. times f (flying_frames (holding_of x)) in
        let each =
        same_sum (λ a. times f (holding_of a.flight).flying)
        (λ a. g a.domain + g a.flight) us (λ id.
        let none : times f (holding_of (account_at id us).domain).flying ≡ 0 =
        ap (times f) (h.each id).no_flying in
        omega (arith, none)) in
        let none : times f heap.holding.flying ≡ 0 = ap (times f) h.heap_is.no_flying in
        omega (arith, each, sum_seats g us, sum_by-cons g (Some heap) (seats_in us), none)

    -- a frame under a page in flight is under one of the parent's pages
    pub flying_under : (f : ℕ) → 0 < times_named flying_frames (places heap us) f
        → (id : ℕ) × (id < length us) × (0 < times f (holding_of (account_at id us).flight).flying)
        × (0 < times f (account_at id us).row)
    flying_under f lt =
        let t = some_term
        (λ (a : Account Seat). times f (holding_of a.flight).flying) us no_account
        (omega (arith, lt, flying_are f)) in
        (t.0, t.1, t.2, (h.each t.0).flying f t.2)

    -- a row's frames are under pages
    pub row_under : (f id : ℕ) → id < length us
        → times f (account_at id us).row ≤ pages_on (rows us) f
    row_under f id lt =
        omega (
          arith,
          rows_sum f us,
          one_term (λ (a : Account Seat). times f (row_of a)) us id no_account lt,
        )

    -- a frame is under some page where it is under one that is not in flight
    pub under_some : (f : ℕ) → 0 < pages_under (places heap us) f → 0 < pages_on (rows us) f
    under_some f lt = by (times_named flying_frames (places heap us) f) refl where
      by : (n : ℕ) → times_named flying_frames (places heap us) f ≡ n → 0 < pages_on (rows us) f
      by zero e = omega (arith, lt, e, pages_are f)
      by (suc n) e = let t = flying_under f (omega (arith, e)) in
          omega (arith, t.3, row_under f t.0 t.1)

    -- no seat but the heap's keeps a frame free
    pub kept_all : length_in kept_frames (places heap us) ≡ length heap.holding.kept
    kept_all =
        let g : Option (Place Seat) → ℕ = λ x. length (kept_frames (holding_of x)) in
        let none = no_sum (λ a. g a.domain + g a.flight) us (λ id.
        let a : length (holding_of (account_at id us).domain).kept ≡ 0 =
        ap (λ (xs : List ℕ). length xs) (h.each id).none_free in
        let b : length (holding_of (account_at id us).flight).kept ≡ 0 =
        ap (λ (xs : List ℕ). length xs) (h.each id).flight_free in
        omega (arith, a, b)) in
        omega (arith, none, sum_seats g us, sum_by-cons g (Some heap) (seats_in us))

    -- the frames that are for something else than pages
    pub own_all : length_in own_frames (places heap us) ≡ sum_by
        (λ a. length (holding_of a.domain).own) us + sum_by
        (λ a. length (holding_of a.flight).own + length a.aside) us
    own_all =
        let g : Option (Place Seat) → ℕ = λ x. length (own_frames (holding_of x)) in
        omega (
          arith,
          h.heap_is.own,
          sum_seats g us,
          sum_by-cons g (Some heap) (seats_in us),
          sum_plus (λ (a : Account Seat). g a.domain) (λ (a : Account Seat). g a.flight) us,
          sum_plus (λ (a : Account Seat). g a.flight) (λ (a : Account Seat). length a.aside) us,
        )

-- one account changes, and so does its row alone
pub rows_put : {Seat : Type 0} (us vs : List (Account Seat)) (id : ℕ) → length vs ≡ length us
    → ((other : ℕ) → other ≢ id → (account_at other vs).row ≡ (account_at other us).row)
    → RowPut id (account_at id vs).row (rows us) (rows vs)
rows_put us vs id long same = record {
  ids = rows_long vs ∙ long ∙ sym (rows_long us);
  here = row_at vs id;
  others = λ other n. row_at vs other ∙ same other n ∙ sym (row_at us other);
}
