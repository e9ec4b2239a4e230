-- The rows of the plain pool: each seat has one, and the pool's table has the row of each name.
use Rattle.std.specs.Prelude.{◌≡◌, ◌≢◌, ◌==◌, ◌<◌, ◌⊎◌, ℕ, Bool, List, map, replicate, slice_index_or, Some}
use Rattle.std.specs.declared.option.Option.{Option}
use Rattle.neph_pool.specs.declared.entry.Entry.{Entry}
use Rattle.neph_pool.specs.Frames.{PlainFrame}
use Rattle.neph_pool.specs.declared.entry.Hold.TheVariants.{Zero}
use Rattle.neph_pool.specs.Entries.{entry_as}
use Rattle.neph_pool.specs.Owners.{held_by, total_of}

-- what the row r has of a frame
unfoldable pub entry_of : ℕ → PlainFrame → Option Entry
entry_of r x = entry_as (held_by r x.owners) x.words

-- what the row r has of all frames
abbrev pub row_entries : ℕ → List PlainFrame → List (Option Entry)
row_entries r xs = map (entry_of r) xs

-- the count of references of a frame
abbrev pub total_at : PlainFrame → ℕ
total_at x = total_of x.owners

-- the words of a frame
abbrev pub words_in_frame : PlainFrame → List ℕ
words_in_frame x = x.words

-- the row of the seat that has the name d; past the last name no row
abbrev pub row_of : List ℕ → ℕ → ℕ
row_of rows d = slice_index_or rows d 64

-- the names of the seat with the row r
abbrev pub names_of : List ℕ → ℕ → ℕ → Bool
names_of rows r d = row_of rows d == r

-- the table of rows: that of name 0 is row 0, and a row has the name of its own number
pub record IsTable (rows : List ℕ) : Type 0 where
  pub first : row_of rows 0 ≡ 0
  pub small : (d : ℕ) → d < 64 → row_of rows d < 64
  pub settled : (d : ℕ) → row_of rows d < 64 → row_of rows (row_of rows d) ≡ row_of rows d

-- where two seats become one, the row `from` goes into the row `to`, and row 0 stays
abbrev pub IsRenaming : ℕ → ℕ → ℕ → ℕ → Type 0
IsRenaming row other from to =
    ((from ≡ other) × (to ≡ row) × (other ≢ 0)) ⊎ ((from ≡ row) × (to ≡ other) × (other ≡ 0))

-- a frame of zeros that nobody refers to
unfoldable pub blank_entry : Option Entry
blank_entry = Some (record { hold = Zero; words = replicate 512 0 })
