-- What the turns keep beside the plain machine: how far each domain is with its line, its spare
-- frame, and the colours of its pages. Pages that a clone lets share one frame have one colour.
use Rattle.std.specs.Prelude.{ℕ, suc, Bool, false, ◌==◌, ◌+◌, ◌-◌, ◌*◌, ◌&&◌, not, nat_lt, List, [], ◌∷◌, ◌++◌, length, replicate, count_by, sum_by, is_some, slice_index_or, slice_set, if◌then◌else◌}
use Rattle.std.specs.List.{range_with_len}
use Rattle.neph_model.specs.declared.script.Script.{Script}
use Rattle.neph_model.specs.declared.script.Start.{Start}
use Rattle.neph_model.specs.declared.book.Book.{Book}
use Rattle.neph_model.specs.declared.book.Stage.TheVariants.{Ready}
use Rattle.neph_model.specs.declared.book.Spends.{Spends}
use Rattle.neph_model.specs.declared.book.Spends.TheVariants.{Nothing, Leaf, Copy}
use Rattle.neph_model.specs.Machine.{Own, Machine, own_at, guest_at, exposed_at, sum_live}
use Rattle.neph_model.specs.Start.{start_machine}
use Rattle.neph_model.specs.Own.{page_of}
use Rattle.neph_model.specs.Trap.{need}
use Rattle.neph_model.specs.Frames.{Counts}

-- the books of the ids from 0 to 63, and the least colour that no page was given yet
pub record Books : Type 0 where
  pub list : List Book
  pub fresh : ℕ

-- the plain machine and the books of its domains
pub record State : Type 0 where
  pub machine : Machine
  pub books : Books

-- the book of a domain with pages of these colours, which is ready for its line and holds no spare
abbrev pub book_of : List ℕ → Book
book_of colours = record { stage = Ready; spare = false; colours = colours }

-- the book of an id that has no domain
abbrev pub no_book : Book
no_book = book_of []

-- the book of an id
abbrev pub book_at : ℕ → Books → Book
book_at id bs = slice_index_or bs.list id no_book

-- the books with this one in the place of an id
abbrev pub put_book : ℕ → Book → Books → Books
put_book id b bs = record bs { list = slice_set bs.list id b }

-- The books of some domain lines. Each page has a colour of its own, from this number on.
abbrev pub start_books : ℕ → List Start → List Book
start_books colour [] = []
start_books colour (t ∷ ts) = book_of (range_with_len colour t.pages)
    ∷ start_books (colour + t.pages) ts

-- how many pages some domain lines have
abbrev pub page_count : List Start → ℕ
page_count starts = sum_by (λ (t : Start). t.pages) starts

-- the books of the starting domains of these lines
abbrev pub opening_books : List Start → Books
opening_books starts = record {
  list = no_book
      ∷ (start_books 0 starts ++ replicate (63 - length starts) no_book);
  fresh = page_count starts;
}

-- the machine and the books at the start of a script
abbrev pub start_state : Script → State
start_state s = record { machine = start_machine s; books = opening_books s.starts }

-- how many pages of a book have this colour
abbrev pub pages_in : ℕ → Book → ℕ
pages_in colour b = count_by (λ c. c == colour) b.colours

-- how many pages have this colour
abbrev pub pages_of : ℕ → Books → ℕ
pages_of colour bs = sum_by (pages_in colour) bs.list

-- two pages or more have this colour
abbrev pub is_shared : ℕ → Books → Bool
is_shared colour bs = nat_lt 1 (pages_of colour bs)

-- how many colours there are on pages
abbrev pub colours_used : Books → ℕ
colours_used bs = count_by (λ c. nat_lt 0 (pages_of c bs)) (range_with_len 0 bs.fresh)

-- how many domains hold a spare
abbrev pub spares_held : Books → ℕ
spares_held bs = count_by (λ (b : Book). b.spare) bs.list

-- a domain's root table and its leaf tables
abbrev pub table_frames : Machine → ℕ → ℕ
table_frames m id = 1 + length (own_at id m.own).leaves

-- the frames that a clone of the domain of an id needs
abbrev pub need_of : Machine → ℕ → ℕ
need_of m id = need (exposed_at id m.shared.pages) (length (own_at id m.own).leaves)

-- the frames that the clones which a domain has begun have put aside
abbrev pub aside_for : Machine → ℕ → ℕ
aside_for m id = length (guest_at id m.shared.tables).begun * need_of m id

-- the frames that some use leaves
abbrev pub counts_of : ℕ → ℕ → ℕ → ℕ → ℕ → Counts
counts_of total colours tables spares aside =
    record {
      total = total;
      colours = colours;
      tables = tables;
      spares = spares;
      aside = aside;
      free = total - (colours + tables + spares + aside);
    }

-- what the frames of the machine are used for
abbrev pub counts : Script → State → Counts
counts s st = counts_of s.frames (colours_used st.books)
    (sum_live (table_frames st.machine) st.machine.shared.lives) (spares_held st.books)
    (sum_live (aside_for st.machine) st.machine.shared.lives)

-- the frames that are free
abbrev pub free : Script → State → ℕ
free s st = (counts s st).free

-- the book of a domain after its spare became this: a copy of a page gets a colour that no page has
-- had
abbrev pub book_spent : Spends → ℕ → Book → Book
book_spent Nothing fresh b = b
book_spent Leaf fresh b = record b { spare = false }
book_spent (Copy pfn) fresh b = record b { spare = false; colours = slice_set b.colours pfn fresh }

-- the least colour that no page was given after that
abbrev pub fresh_spent : Spends → ℕ → ℕ
fresh_spent Nothing fresh = fresh
fresh_spent Leaf fresh = fresh
fresh_spent (Copy pfn) fresh = fresh + 1

-- A clone shares this page: a page of the domain's own half that isn't the identity page.
abbrev pub goes_shared : Own → ℕ → Bool
goes_shared o pfn = not (pfn == 0) && is_some (page_of o pfn)

-- how many pages a clone shares
abbrev pub shared_count : Own → ℕ
shared_count o = count_by (goes_shared o) (range_with_len 0 (length o.pages))

-- The colours of a child's pages from this page on: the parent's where a page is shared, and new
-- ones from this number on where it isn't.
abbrev pub child_colours : Own → ℕ → List ℕ → ℕ → List ℕ
child_colours o pfn [] fresh = []
child_colours o pfn (c ∷ cs) fresh =
    if goes_shared o pfn then c ∷ child_colours o (suc pfn) cs fresh
    else fresh ∷ child_colours o (suc pfn) cs (fresh + 1)

-- how many new ones there are among them
abbrev pub new_count : Own → ℕ → List ℕ → ℕ
new_count o pfn [] = 0
new_count o pfn (c ∷ cs) = if goes_shared o pfn then new_count o (suc pfn) cs
    else 1 + new_count o (suc pfn) cs

-- the books after a commit of this child by a domain with this own half and book
abbrev pub books_born : ℕ → Own → Book → Books → Books
books_born child o parent bs =
    record (put_book child (book_of (child_colours o 0 parent.colours bs.fresh)) bs)
    { fresh = bs.fresh + new_count o 0 parent.colours }
