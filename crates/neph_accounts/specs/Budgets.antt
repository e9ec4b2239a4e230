-- How many frames that are under no page an account has, by the definitions.
use Rattle.std.specs.Prelude.{◌≡◌, ◌<◌, ◌+◌, ℕ, List, length, sum_by, if◌then◌else◌}
use Rattle.neph_model.specs.Machine.{is_live}
use Rattle.neph_model.specs.Frames.{Counts, AddsUp}
use Rattle.neph_model.specs.Books.{State, book_at, table_frames, aside_for}
use Rattle.neph_accounts.specs.Places.{Place, holding_of, pages_under, frames_with}
use Rattle.neph_accounts.specs.Accounts.{Account, account_at, places}

-- A live domain has its tables for its own, and its spare.
abbrev pub HasTables : {Seat : Type 0} → State → ℕ → Account Seat → Type 0
HasTables st id a =
    length (holding_of a.domain).own
    ≡ (if is_live id st.machine.shared.lives then table_frames st.machine id else 0)
    + (if (book_at id st.books).spare then 1 else 0)

-- Its child in flight and the heap have put aside what its clone needs.
abbrev pub HasAside : {Seat : Type 0} → State → ℕ → Account Seat → Type 0
HasAside st id a =
    length (holding_of a.flight).own + length a.aside
    ≡ (if is_live id st.machine.shared.lives then aside_for st.machine id else 0)

-- so it is for each of the 64 ids
pub record AreBudgeted {Seat : Type 0} (st : State) (accounts : List (Account Seat)) : Type 0 where
  pub ids : length accounts ≡ 64
  pub tables : (id : ℕ) → id < 64 → HasTables st id (account_at id accounts)
  pub aside : (id : ℕ) → id < 64 → HasAside st id (account_at id accounts)

-- These counts are how many of n frames are used for what: under pages, tables and spares of
-- domains, put aside for clones, and kept free.
pub record AreUses {Seat : Type 0} (n : ℕ) (heap : Place Seat) (accounts : List (Account Seat))
    (c : Counts) : Type 0 where
  pub total : c.total ≡ n
  pub colours : c.colours ≡ frames_with n (pages_under (places heap accounts))
  pub tables : c.tables + c.spares ≡ sum_by (λ a. length (holding_of a.domain).own) accounts
  pub aside : c.aside
      ≡ sum_by (λ a. length (holding_of a.flight).own + length a.aside) accounts
  pub free : c.free ≡ length heap.holding.kept
  pub all : AddsUp c
