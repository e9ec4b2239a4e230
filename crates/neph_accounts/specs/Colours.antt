-- How the colours of the pages stand for the frames under them.
use Rattle.std.specs.Prelude.{◌≡◌, ◌≢◌, ◌<◌, ℕ, suc, true, if◌then◌else◌, List, [], ◌∷◌, map, length, slice_index_or, ⊤}
use Rattle.neph_model.specs.declared.own.Own.{Own}
use Rattle.neph_model.specs.declared.book.Spends.{Spends}
use Rattle.neph_model.specs.declared.book.Spends.TheVariants.{Nothing, Leaf, Copy}
use Rattle.neph_model.specs.Books.{Books, pages_of, book_at, goes_shared}

-- Each page stands on the frame of its colour, and pages of two colours stand on two frames. Each
-- colour that a page has is below the fresh one.
pub record Stands (frame_of : ℕ → ℕ) (rows : List (List ℕ)) (bs : Books) : Type 0 where
  pub ids : length rows ≡ length bs.list
  pub pages : (id : ℕ) → slice_index_or rows id [] ≡ map frame_of (book_at id bs).colours
  pub small : (c : ℕ) → 0 < pages_of c bs → c < bs.fresh
  pub apart : (c d : ℕ) → 0 < pages_of c bs → 0 < pages_of d bs
      → frame_of c ≡ frame_of d → c ≡ d

-- the colours stand for some frames
abbrev pub IsStood : List (List ℕ) → Books → Type 0
IsStood rows bs = (frame_of : ℕ → ℕ) × Stands frame_of rows bs

-- one id has this row now, and each other the row that it had
pub record RowPut (id : ℕ) (row : List ℕ) (rows now : List (List ℕ)) : Type 0 where
  pub ids : length now ≡ length rows
  pub here : slice_index_or now id [] ≡ row
  pub others : (other : ℕ) → other ≢ id → slice_index_or now other [] ≡ slice_index_or rows other []

-- the frames of a child's pages from this page on that it doesn't share with its parent
abbrev pub new_frames : Own → ℕ → List ℕ → List ℕ
new_frames o pfn [] = []
new_frames o pfn (f ∷ row) =
    if goes_shared o pfn then new_frames o (suc pfn) row else f ∷ new_frames o (suc pfn) row

-- a child has its parent's frame under each page that the clone shares
pub record IsChildRow (o : Own) (parent child : List ℕ) : Type 0 where
  pub long : length child ≡ length parent
  pub shared : (pfn : ℕ) → pfn < length parent → goes_shared o pfn ≡ true
      → slice_index_or child pfn 0 ≡ slice_index_or parent pfn 0

-- the spare of a domain becomes no copy of a page
abbrev pub CopiesNothing : Spends → Type 0
CopiesNothing Nothing = ⊤
CopiesNothing Leaf = ⊤
CopiesNothing (Copy pfn) = ⊥
