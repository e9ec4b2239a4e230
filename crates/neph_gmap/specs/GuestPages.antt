-- A guest's pages by their own numbers: where each lies, and at which virtual pages it is mapped.
use Rattle.std.specs.Prelude.{◌≡◌, ◌==◌, ◌+◌, ◌≤◌, ℕ, Bool, false, List, [], ◌∷◌, Some, filter, not, nat_lt, position, slice_get, slice_index_or, if◌then◌else◌, ⊤}
use Rattle.std.specs.List.{list_any}
use Rattle.std.specs.declared.option.Option.{Option}
use Rattle.neph_gmap.specs.declared.page.Page.{Page}
use Rattle.neph_gmap.specs.declared.page.Page.TheVariants.{Local, Exposed}

-- two maps from page numbers: to the page's place, and to its virtual pages
pub record GuestPages : Type 0 where
  pub pages : List Page
  pub vpns : List (List ℕ)

-- the virtual pages of a page, and none past the last page
abbrev pub vpns_at : GuestPages → ℕ → List ℕ
vpns_at m p = slice_index_or m.vpns p []

-- a page lies in the frame f
abbrev pub lies_in : ℕ → Page → Bool
lies_in f (Local own) = own == f
lies_in f Exposed = false

-- the first page that lies in the frame f
abbrev pub page_in : ℕ → List Page → Option ℕ
page_in f pages = position (lies_in f) pages

-- no two pages lie in one frame
abbrev pub IsUnaliased : List Page → Type 0
IsUnaliased pages = (p q f : ℕ) → slice_get pages p ≡ Some (Local f)
    → slice_get pages q ≡ Some (Local f) → p ≡ q

-- each number is at least so large, and above the one before
abbrev pub IsRisingFrom : ℕ → List ℕ → Type 0
IsRisingFrom low [] = ⊤
IsRisingFrom low (x ∷ xs) = (low ≤ x) × IsRisingFrom (x + 1) xs

-- each number is above the one before
abbrev pub IsRising : List ℕ → Type 0
IsRising xs = IsRisingFrom 0 xs

-- the list has the number
abbrev pub has_number : ℕ → List ℕ → Bool
has_number v xs = list_any (λ x. x == v) xs

-- a rising list with one more number, if it isn't there yet
abbrev pub with_number : ℕ → List ℕ → List ℕ
with_number v [] = v ∷ []
with_number v (x ∷ xs) =
    if nat_lt x v then x ∷ with_number v xs else (if x == v then x ∷ xs else v ∷ x ∷ xs)

-- a list without a number
abbrev pub without_number : ℕ → List ℕ → List ℕ
without_number v xs = filter (λ x. not (x == v)) xs
