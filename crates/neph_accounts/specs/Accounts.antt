-- What a machine of many domains has for each id, and the heap, which has what is no domain's own.
use Rattle.std.specs.Prelude.{◌≡◌, ◌<◌, ◌+◌, ℕ, List, [], ◌∷◌, map, length, sum_by, Some, None, slice_index_or}
use Rattle.std.specs.declared.option.Option.{Option}
use Rattle.neph_accounts.specs.Holdings.{times, Holding}
use Rattle.neph_accounts.specs.Places.{Place, holding_of}

-- What the machine has for an id: the frame of each page of its domain by number; those of its
-- exposed pages, which the heap has; those that the heap has put aside for its clone in flight; the
-- seat of its domain; and that of its child in flight.
pub record Account (Seat : Type 0) : Type 0 where
  pub row : List ℕ
  pub exposed : List ℕ
  pub aside : List ℕ
  pub domain : Option (Place Seat)
  pub flight : Option (Place Seat)

-- the account of an id that has no domain
abbrev pub no_account : {Seat : Type 0} → Account Seat
no_account = record { row = []; exposed = []; aside = []; domain = None; flight = None }

abbrev pub account_at : {Seat : Type 0} → ℕ → List (Account Seat) → Account Seat
account_at id accounts = slice_index_or accounts id no_account

abbrev pub row_of : {Seat : Type 0} → Account Seat → List ℕ
row_of a = a.row

-- the frames of all domains' pages, by id and by page
abbrev pub rows : {Seat : Type 0} → List (Account Seat) → List (List ℕ)
rows accounts = map row_of accounts

-- how many pages of these rows stand on a frame
abbrev pub pages_on : List (List ℕ) → ℕ → ℕ
pages_on rows f = sum_by (times f) rows

-- the seats of these accounts
abbrev pub seats_in : {Seat : Type 0} → List (Account Seat) → List (Option (Place Seat))
seats_in [] = []
seats_in (a ∷ accounts) = a.domain ∷ a.flight ∷ seats_in accounts

-- all seats
abbrev pub places : {Seat : Type 0} → Place Seat → List (Account Seat) → List (Option (Place Seat))
places heap accounts = Some heap ∷ seats_in accounts

-- A domain's pages stand on the frames that its seat has for pages, and on those that the heap has
-- for its exposed ones. It keeps none free. Its child in flight has frames of its pages, and others
-- put aside.
pub record IsAccount {Seat : Type 0} (a : Account Seat) : Type 0 where
  pub row : (f : ℕ) → times f a.row ≡ times f (holding_of a.domain).pages + times f a.exposed
  pub no_flying : (holding_of a.domain).flying ≡ []
  pub none_free : (holding_of a.domain).kept ≡ []
  pub flying : (f : ℕ) → 0 < times f (holding_of a.flight).flying → 0 < times f a.row
  pub flight_pages : (holding_of a.flight).pages ≡ []
  pub flight_free : (holding_of a.flight).kept ≡ []

-- The heap has the frames of the exposed pages, those that it has put aside, and the free ones.
pub record IsHeap {Seat : Type 0} (h : Holding) (accounts : List (Account Seat)) : Type 0 where
  pub pages : (f : ℕ) → times f h.pages ≡ sum_by (λ a. times f a.exposed) accounts
  pub own : length h.own ≡ sum_by (λ a. length a.aside) accounts
  pub no_flying : h.flying ≡ []

-- the accounts of a machine are in order
pub record AreAccounts {Seat : Type 0} (heap : Place Seat) (accounts : List (Account Seat))
    : Type 0 where
  pub heap_is : IsHeap heap.holding accounts
  pub each : (id : ℕ) → IsAccount (account_at id accounts)
