-- How the colours' frames follow the turns.
use Rattle.std.proofs.Common.{◌≡◌, ◌≢◌, ℕ, ◌<◌, ◌≤◌, false, List, [], length, set, get_or, refl, arith}
use Rattle.neph_base.specs.declared.reply.Reply.{Reply}
use Rattle.neph_base.specs.declared.reply.Reply.TheVariants.{Ended}
use Rattle.neph_model.specs.declared.own.Own.{Own}
use Rattle.neph_model.specs.declared.book.Book.{Book}
use Rattle.neph_model.specs.declared.book.Spends.{Spends}
use Rattle.neph_model.specs.declared.book.Spends.TheVariants.{Nothing, Leaf, Copy}
use Rattle.neph_model.specs.Books.{Books, book_at, put_book, no_book, book_spent, fresh_spent}
use Rattle.neph_model.specs.Turns.{book_after, books_after}
use Rattle.neph_accounts.specs.Accounts.{pages_on}
use Rattle.neph_accounts.specs.Colours.{Stands, RowPut, CopiesNothing}
use Rattle.neph_accounts.proofs.Recolouring.{with_colour, stands_put, stands_same, stands_copied}

-- a line that isn't an end leaves the colours as the spare left them
pub colours_after : (o : Own) (answer : Reply) (b : Book) → answer ≢ Ended
    → (book_after o answer b).colours ≡ b.colours
colours_after o Ended b n = absurd (n refl)
colours_after o answer b n = refl

-- a turn that makes no entry: a page step, a spare taken, a copy found needed
pub stands_quiet : (φ : ℕ → ℕ) (rows : List (List ℕ)) (bs : Books) (id : ℕ) (b : Book)
    → Stands φ rows bs → id < length bs.list → b.colours ≡ (book_at id bs).colours
    → Stands φ rows (put_book id b bs)
stands_quiet φ rows bs id b st lt same =
    stands_same φ rows bs id bs.fresh b st lt (omega arith) same

-- a line that copies no page, and doesn't end its domain
pub stands_line : (φ : ℕ → ℕ) (rows : List (List ℕ)) (bs : Books) (id : ℕ) (o : Own)
    (spends : Spends) (answer : Reply) → Stands φ rows bs → id < length bs.list
    → CopiesNothing spends → answer ≢ Ended → Stands φ rows (books_after id o spends answer bs)
stands_line φ rows bs id o Nothing answer st lt none n =
    stands_same φ rows bs id bs.fresh (book_after o answer (book_at id bs)) st lt (omega arith)
    (colours_after o answer (book_at id bs) n)
stands_line φ rows bs id o Leaf answer st lt none n =
    stands_same φ rows bs id bs.fresh
    (book_after o answer (record (book_at id bs) { spare = false })) st lt (omega arith)
    (colours_after o answer (record (book_at id bs) { spare = false }) n)
stands_line φ rows bs id o (Copy pfn) answer st lt none n = absurd none

-- a line that copies a page to a frame under none
pub stands_copy : (φ : ℕ → ℕ) (rows now : List (List ℕ)) (bs : Books) (id pfn f : ℕ) (o : Own)
    (answer : Reply) → Stands φ rows bs → id < length bs.list → answer ≢ Ended
    → pfn < length (book_at id bs).colours → RowPut id (set (get_or rows id []) pfn f) rows now
    → pages_on rows f ≡ 0
    → Stands (with_colour bs.fresh f φ) now (books_after id o (Copy pfn) answer bs)
stands_copy φ rows now bs id pfn f o answer st lt n fit put none =
    let b = book_spent (Copy pfn) bs.fresh (book_at id bs) in
    stands_copied φ rows now bs id pfn f (book_after o answer b) st lt fit put none
    (colours_after o answer b n)

later : (spends : Spends) (fresh : ℕ) → fresh ≤ fresh_spent spends fresh
later Nothing fresh = omega arith
later Leaf fresh = omega arith
later (Copy pfn) fresh = omega arith

-- the end of a domain
pub stands_end : (φ : ℕ → ℕ) (rows now : List (List ℕ)) (bs : Books) (id : ℕ) (o : Own)
    (spends : Spends) → Stands φ rows bs → id < length bs.list → RowPut id [] rows now
    → Stands φ now (books_after id o spends Ended bs)
stands_end φ rows now bs id o spends st lt put =
    stands_put φ rows now bs id no_book st lt (fresh_spent spends bs.fresh)
    (later spends bs.fresh) put (λ c l. absurd (omega arith))
