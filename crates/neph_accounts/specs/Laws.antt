-- The laws of frames, counts and colours.
use Rattle.std.specs.Prelude.{◌≡◌, ◌≢◌, ◌<◌, ◌≤◌, ◌+◌, ◌⊎◌, ℕ, nat_lt, List, [], IfSome, None, length, replicate, slice_index, slice_index_or, slice_set}
use Rattle.std.specs.List.{range_with_len}
use Rattle.std.specs.declared.option.Option.{Option}
use Rattle.neph_base.specs.declared.reply.Reply.{Reply}
use Rattle.neph_base.specs.declared.reply.Reply.TheVariants.{Ended, Child}
use Rattle.neph_pool.specs.declared.plain_pool.PlainPool.{PlainPool}
use Rattle.neph_pool.specs.declared.plain_pool.PlainSeat.{PlainSeat}
use Rattle.neph_pool.specs.Entries.{IsSoleAt}
use Rattle.neph_pool.specs.Plain.{plain_world, counts_of, IsStart}
use Rattle.neph_model.specs.declared.script.Script.{Script}
use Rattle.neph_model.specs.declared.script.Start.{Start}
use Rattle.neph_model.specs.declared.own.Own.{Own}
use Rattle.neph_model.specs.declared.book.Book.{Book}
use Rattle.neph_model.specs.declared.book.Spends.{Spends}
use Rattle.neph_model.specs.declared.book.Spends.TheVariants.{Nothing, Copy}
use Rattle.neph_model.specs.Books.{Books, State, pages_of, book_at, put_book, is_shared, colours_used, counts, free, opening_books}
use Rattle.neph_model.specs.Turns.{books_after, books_committed}
use Rattle.neph_accounts.specs.Holdings.{times, no_holding}
use Rattle.neph_accounts.specs.Places.{Place, holding_of, own_frames, kept_frames, length_in, pages_under, other_uses, IsFree, IsPrivate, IsSharedFrame, frames_with, AreHeld}
use Rattle.neph_accounts.specs.Accounts.{Account, no_account, account_at, rows, pages_on, places, AreAccounts}
use Rattle.neph_accounts.specs.Colours.{Stands, IsStood, RowPut, new_frames, IsChildRow, CopiesNothing}
use Rattle.neph_accounts.specs.Budgets.{AreBudgeted, AreUses}
use Rattle.neph_accounts.specs.Named.{AreNamed, AreIds}

-- Facts of one or two seats each give all that a law of all seats asks.
abbrev pub SeatsAreAll : Type 0
SeatsAreAll =
    (p : PlainPool) (heap : Place PlainSeat) (accounts : List (Account PlainSeat))
    → AreNamed plain_world p heap accounts → AreHeld plain_world p (places heap accounts)

-- Where each live domain's seat has its id for its only name, that of a child in flight the
-- child's, and the heap's all others, no two share a name, and each name is some seat's.
abbrev pub IdsNameSeats : Type 0
IdsNameSeats =
    (p : PlainPool) (heap : Place PlainSeat) (accounts : List (Account PlainSeat))
    → (child : ℕ → ℕ) → AreIds plain_world p heap accounts child
    → AreNamed plain_world p heap accounts

-- the place of a heap that keeps the first n frames free, and has no other
abbrev pub free_heap : ℕ → PlainSeat → Place PlainSeat
free_heap n s = record { seat = s; holding = record no_holding { kept = range_with_len 0 n } }

-- A new pool's seat is a heap's that keeps all frames free, beside 64 ids without a domain.
abbrev pub NewPoolIsFree : Type 0
NewPoolIsFree =
    (n cap : ℕ) (p : PlainPool) (s : PlainSeat) → IsStart n cap p s
    → AreNamed plain_world p (free_heap n s) (replicate 64 no_account)
    × AreAccounts (free_heap n s) (replicate 64 no_account)

-- Each frame is one of three: free, private, or shared.
abbrev pub HasOneUse : Type 0
HasOneUse =
    (p : PlainPool) (xs : List (Option (Place PlainSeat))) → AreHeld plain_world p xs
    → (f : ℕ) → f < plain_world.frames p
    → IsFree xs f ⊎ (IsPrivate xs f ⊎ IsSharedFrame xs f)

-- No frame is two of them.
abbrev pub UsesExclude : Type 0
UsesExclude =
    (xs : List (Option (Place PlainSeat))) (f : ℕ)
    → (IsFree xs f → IsPrivate xs f → ⊥)
    × (IsFree xs f → IsSharedFrame xs f → ⊥)
    × (IsPrivate xs f → IsSharedFrame xs f → ⊥)

-- A frame's count is the number of pages that stand on it, those in flight among them, and of seats
-- that have it for something else.
abbrev pub CountsPages : Type 0
CountsPages =
    (p : PlainPool) (xs : List (Option (Place PlainSeat))) → AreHeld plain_world p xs
    → (f : ℕ) → f < plain_world.frames p
    → slice_index (counts_of p) f ≡ pages_under xs f + other_uses xs f

-- The frames that are kept free, those under pages and those for something else are all.
abbrev pub UsesAllFrames : Type 0
UsesAllFrames =
    (p : PlainPool) (xs : List (Option (Place PlainSeat))) → AreHeld plain_world p xs
    → length_in kept_frames xs + frames_with (plain_world.frames p) (pages_under xs)
    + length_in own_frames xs
    ≡ plain_world.frames p

-- the seats of a pool with the accounts of a machine, whose colours stand for the pages' frames
pub record IsAccounted (p : PlainPool) (heap : Place PlainSeat)
    (accounts : List (Account PlainSeat)) (frame_of : ℕ → ℕ) (bs : Books) : Type 0 where
  pub held : AreHeld plain_world p (places heap accounts)
  pub order : AreAccounts heap accounts
  pub stands : Stands frame_of (rows accounts) bs

-- As many frames are under pages as there are colours on pages.
abbrev pub ColoursAreFrames : Type 0
ColoursAreFrames =
    (p : PlainPool) (heap : Place PlainSeat) (accounts : List (Account PlainSeat))
    → (frame_of : ℕ → ℕ) (bs : Books) → IsAccounted p heap accounts frame_of bs
    → frames_with (plain_world.frames p) (pages_under (places heap accounts)) ≡ colours_used bs

-- The heap keeps as many frames free as the definitions leave.
abbrev pub FreeIsKept : Type 0
FreeIsKept =
    (p : PlainPool) (heap : Place PlainSeat) (accounts : List (Account PlainSeat))
    → (frame_of : ℕ → ℕ) (s : Script) (st : State)
    → IsAccounted p heap accounts frame_of st.books → AreBudgeted st accounts
    → s.frames ≡ plain_world.frames p
    → length heap.holding.kept ≡ free s st

-- The frames are used as the definitions count them, and what they count is all.
abbrev pub UsesAreCounts : Type 0
UsesAreCounts =
    (p : PlainPool) (heap : Place PlainSeat) (accounts : List (Account PlainSeat))
    → (frame_of : ℕ → ℕ) (s : Script) (st : State)
    → IsAccounted p heap accounts frame_of st.books → AreBudgeted st accounts
    → s.frames ≡ plain_world.frames p
    → AreUses (plain_world.frames p) heap accounts (counts s st)

-- Where a domain has no page in flight, its page's frame has two references or more exactly where
-- the page's colour is shared.
abbrev pub CountTellsShared : Type 0
CountTellsShared =
    (p : PlainPool) (heap : Place PlainSeat) (accounts : List (Account PlainSeat))
    → (frame_of : ℕ → ℕ) (bs : Books) → IsAccounted p heap accounts frame_of bs
    → (id pfn : ℕ) → id < length accounts → pfn < length (account_at id accounts).row
    → (holding_of (account_at id accounts).flight).flying ≡ []
    → nat_lt 1 (slice_index (counts_of p) (slice_index_or (account_at id accounts).row pfn 0))
    ≡ is_shared (slice_index_or (book_at id bs).colours pfn 0) bs

-- Where a seat has a page's frame to itself, no other page has the page's colour.
abbrev pub SoleIsOne : Type 0
SoleIsOne =
    (p : PlainPool) (heap : Place PlainSeat) (accounts : List (Account PlainSeat))
    → (frame_of : ℕ → ℕ) (bs : Books) → IsAccounted p heap accounts frame_of bs
    → (id pfn : ℕ) → id < length accounts → pfn < length (account_at id accounts).row
    → (place : ℕ) → IfSome (slice_index_or (places heap accounts) place None)
    (λ x. IsSoleAt (plain_world.entries p x.seat)
    (slice_index_or (account_at id accounts).row pfn 0)
    → pages_of (slice_index_or (book_at id bs).colours pfn 0) bs ≡ 1)

-- At the start the colours stand for the frames, where no two pages lie in one.
abbrev pub StartsApart : Type 0
StartsApart =
    (starts : List Start) (rows : List (List ℕ))
    → length rows ≡ length (opening_books starts).list
    → ((id : ℕ) → length (slice_index_or rows id [])
    ≡ length (book_at id (opening_books starts)).colours)
    → ((f : ℕ) → pages_on rows f ≤ 1) → IsStood rows (opening_books starts)

-- A turn without an entry leaves colours and frames as they are, whatever stage and spare become.
abbrev pub QuietKeeps : Type 0
QuietKeeps =
    (frame_of : ℕ → ℕ) (rows : List (List ℕ)) (bs : Books) (id : ℕ) (b : Book)
    → Stands frame_of rows bs → id < length bs.list → b.colours ≡ (book_at id bs).colours
    → Stands frame_of rows (put_book id b bs)

-- So does a line that copies no page and doesn't end its domain.
abbrev pub LineKeeps : Type 0
LineKeeps =
    (frame_of : ℕ → ℕ) (rows : List (List ℕ)) (bs : Books) (id : ℕ) (o : Own)
    → (spends : Spends) (answer : Reply) → Stands frame_of rows bs → id < length bs.list
    → CopiesNothing spends → answer ≢ Ended
    → Stands frame_of rows (books_after id o spends answer bs)

-- A page that is copied to a frame under no page gets a colour for it.
abbrev pub CopyFollows : Type 0
CopyFollows =
    (rows now : List (List ℕ)) (bs : Books) (id pfn f : ℕ) (o : Own) (answer : Reply)
    → IsStood rows bs → id < length bs.list → answer ≢ Ended
    → pfn < length (book_at id bs).colours
    → RowPut id (slice_set (slice_index_or rows id []) pfn f) rows now → pages_on rows f ≡ 0
    → IsStood now (books_after id o (Copy pfn) answer bs)

-- A page that moves to a frame under no page keeps its colour, which no other page has.
abbrev pub MoveFollows : Type 0
MoveFollows =
    (rows now : List (List ℕ)) (bs : Books) (id pfn f : ℕ) (o : Own) (answer : Reply)
    → IsStood rows bs → id < length bs.list → answer ≢ Ended
    → pfn < length (book_at id bs).colours
    → RowPut id (slice_set (slice_index_or rows id []) pfn f) rows now → pages_on rows f ≡ 0
    → pages_of (slice_index_or (book_at id bs).colours pfn 0) bs ≡ 1
    → IsStood now (books_after id o Nothing answer bs)

-- The end of a domain takes its colours away with its pages.
abbrev pub EndFollows : Type 0
EndFollows =
    (frame_of : ℕ → ℕ) (rows now : List (List ℕ)) (bs : Books) (id : ℕ) (o : Own)
    → (spends : Spends) → Stands frame_of rows bs → id < length bs.list → RowPut id [] rows now
    → Stands frame_of now (books_after id o spends Ended bs)

-- A child has its parent's colours where it stands on its parent's frames, and new colours where it
-- stands on frames under no page, each of its own.
abbrev pub CommitFollows : Type 0
CommitFollows =
    (rows now : List (List ℕ)) (bs : Books) (id child : ℕ) (o : Own) (row : List ℕ)
    → IsStood rows bs → id < length bs.list → child < length bs.list → id ≢ child
    → RowPut child row rows now → IsChildRow o (slice_index_or rows id []) row
    → ((f : ℕ) → times f (new_frames o 0 row) ≤ 1)
    → ((f : ℕ) → 0 < times f (new_frames o 0 row) → pages_on rows f ≡ 0)
    → IsStood now (books_committed id o (Child child) bs)
