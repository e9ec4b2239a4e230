-- What a seat holds of the machine's frames: a list by frame number, with the hold and the 512
-- words of each frame that it has.
use Rattle.std.specs.Prelude.{◌≡◌, ◌<◌, ◌≤◌, ℕ, Bool, true, false, List, [], length, count_by, slice_index, slice_set, slice_index_or, Some, None}
use Rattle.std.specs.declared.option.Option.{Option}
use Rattle.neph_pool.specs.declared.entry.Entry.{Entry}
use Rattle.neph_pool.specs.declared.entry.Hold.{Hold}
use Rattle.neph_pool.specs.declared.entry.Hold.TheVariants.{Zero, Sole, Counted}

-- what the seat has of the frame f, and nothing past the last frame
abbrev pub entry_at : List (Option Entry) → ℕ → Option Entry
entry_at es f = slice_index_or es f None

abbrev pub hold_of : Option Entry → Option Hold
hold_of None = None
hold_of (Some e) = Some e.hold

abbrev pub words_of : Option Entry → List ℕ
words_of None = []
words_of (Some e) = e.words

-- an entry with another hold, and one with other words
abbrev pub with_hold_of : Option Entry → Hold → Option Entry
with_hold_of None h = None
with_hold_of (Some e) h = Some (record e { hold = h })

abbrev pub with_words_of : Option Entry → List ℕ → Option Entry
with_words_of None ws = None
with_words_of (Some e) ws = Some (record e { words = ws })

-- an entry of this hold and these words
abbrev pub entry_as : Option Hold → List ℕ → Option Entry
entry_as None ws = None
entry_as (Some h) ws = Some (record { hold = h; words = ws })

-- how the seat holds the frame f
unfoldable pub hold_at : List (Option Entry) → ℕ → Option Hold
hold_at es f = hold_of (entry_at es f)

-- the words of the frame f, as the seat sees them
unfoldable pub words_at : List (Option Entry) → ℕ → List ℕ
words_at es f = words_of (entry_at es f)

-- the entries with the hold of f changed
unfoldable pub with_hold : List (Option Entry) → ℕ → Hold → List (Option Entry)
with_hold es f h = slice_set es f (with_hold_of (entry_at es f) h)

-- the entries with the words of f changed
unfoldable pub with_words : List (Option Entry) → ℕ → List ℕ → List (Option Entry)
with_words es f ws = slice_set es f (with_words_of (entry_at es f) ws)

-- the entries with that of f gone
unfoldable pub without : List (Option Entry) → ℕ → List (Option Entry)
without es f = slice_set es f None

-- the word w of the frame f
abbrev pub word_at : List (Option Entry) → ℕ → ℕ → ℕ
word_at es f w = slice_index (words_at es f) w

-- the entries with the word w of f changed
abbrev pub with_word : List (Option Entry) → ℕ → ℕ → ℕ → List (Option Entry)
with_word es f w v = with_words es f (slice_set (words_at es f) w v)

-- the seat has an entry
abbrev pub is_here : Option Hold → Bool
is_here None = false
is_here (Some h) = true

-- the entry has a weight
abbrev pub is_held : Option Hold → Bool
is_held None = false
is_held (Some Zero) = false
is_held (Some Sole) = true
is_held (Some (Counted n)) = true

-- the entry can't be shared out: it is zero, or sole
abbrev pub is_whole : Option Hold → Bool
is_whole None = false
is_whole (Some Zero) = true
is_whole (Some Sole) = true
is_whole (Some (Counted n)) = false

-- the entry is one of references that are counted
abbrev pub is_counted : Option Hold → Bool
is_counted None = false
is_counted (Some Zero) = false
is_counted (Some Sole) = false
is_counted (Some (Counted n)) = true

-- the references of the frame that the seat holds
abbrev pub weight_of : Option Hold → ℕ
weight_of None = 0
weight_of (Some Zero) = 0
weight_of (Some Sole) = 1
weight_of (Some (Counted n)) = n

-- the seat holds references of f
abbrev pub IsHeldAt : List (Option Entry) → ℕ → Type 0
IsHeldAt es f = is_held (hold_at es f) ≡ true

-- the seat holds one reference of f
abbrev pub IsOnceAt : List (Option Entry) → ℕ → Type 0
IsOnceAt es f = weight_of (hold_at es f) ≡ 1

-- the seat knows that it holds the only reference of f
abbrev pub IsSoleAt : List (Option Entry) → ℕ → Type 0
IsSoleAt es f = hold_at es f ≡ Some Sole

-- the seat keeps f, of which there is no reference
abbrev pub IsZeroAt : List (Option Entry) → ℕ → Type 0
IsZeroAt es f = hold_at es f ≡ Some Zero

abbrev pub is_entry : Option Entry → Bool
is_entry None = false
is_entry (Some e) = true

-- how many frames the seat has an entry of
abbrev pub entry_count : List (Option Entry) → ℕ
entry_count es = count_by is_entry es

-- each of n frames has a place, each entry has the 512 words of a frame, and a weight is 1 or 2
pub record IsShaped (n : ℕ) (es : List (Option Entry)) : Type 0 where
  pub places : length es ≡ n
  pub words : (f : ℕ) → is_here (hold_at es f) ≡ true → length (words_at es f) ≡ 512
  pub some : (f : ℕ) → IsHeldAt es f → 0 < weight_of (hold_at es f)
  pub most : (f : ℕ) → weight_of (hold_at es f) ≤ 2
