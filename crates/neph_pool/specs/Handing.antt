-- What goes from one seat to another.
use Rattle.std.specs.Prelude.{◌≡◌, ◌==◌, ◌-◌, if◌then◌else◌, ℕ, Bool, true, false, List, [], ◌∷◌, length, map, replicate, slice_set, Some, None, ⊤}
use Rattle.std.specs.List.{list_any, range_with_len}
use Rattle.std.specs.declared.option.Option.{Option}
use Rattle.neph_pool.specs.declared.entry.Entry.{Entry}
use Rattle.neph_pool.specs.declared.entry.Hold.{Hold}
use Rattle.neph_pool.specs.declared.entry.Hold.TheVariants.{Zero, Sole, Counted}
use Rattle.neph_pool.specs.Entries.{entry_at, entry_as, hold_of, words_of, hold_at, is_here, is_whole, is_counted}

-- what a seat has left of a frame after it gave one reference away
abbrev pub left_hold : Option Hold → Option Hold
left_hold None = None
left_hold (Some Zero) = None
left_hold (Some Sole) = None
left_hold (Some (Counted n)) = if n == 1 then None else Some (Counted (n - 1))

-- what the other seat gets: a whole entry as it is, and else one reference
abbrev pub moved_hold : Option Hold → Option Hold
moved_hold None = None
moved_hold (Some Zero) = Some Zero
moved_hold (Some Sole) = Some Sole
moved_hold (Some (Counted n)) = Some (Counted 1)

abbrev pub left_of : Option Entry → Option Entry
left_of x = entry_as (left_hold (hold_of x)) (words_of x)

abbrev pub moved_of : Option Entry → Option Entry
moved_of x = entry_as (moved_hold (hold_of x)) (words_of x)

-- the entries es after f was given away, and the entries to after f came from es
abbrev pub giving : List (Option Entry) → ℕ → List (Option Entry)
giving es f = slice_set es f (left_of (entry_at es f))

abbrev pub taking : List (Option Entry) → List (Option Entry) → ℕ → List (Option Entry)
taking es to f = slice_set to f (moved_of (entry_at es f))

-- f is one of these frames
abbrev pub is_among : ℕ → List ℕ → Bool
is_among f part = list_any (λ g. g == f) part

-- no frame stands twice
abbrev pub AreDistinct : List ℕ → Type 0
AreDistinct [] = ⊤
AreDistinct (f ∷ part) = (is_among f part ≡ false) × AreDistinct part

-- what the giver has of the frame f after these frames were handed over
abbrev pub left_at : List (Option Entry) → List ℕ → ℕ → Option Entry
left_at es part f = if is_among f part then left_of (entry_at es f) else entry_at es f

-- what the taker has of it then
abbrev pub moved_at : List (Option Entry) → List (Option Entry) → List ℕ → ℕ → Option Entry
moved_at es to part f = if is_among f part then moved_of (entry_at es f) else entry_at to f

-- the giver after these frames were handed over, frame by frame
unfoldable pub left_after : List (Option Entry) → List ℕ → List (Option Entry)
left_after es part = map (left_at es part) (range_with_len 0 (length es))

-- the taker then
unfoldable pub moved_into : List (Option Entry) → List (Option Entry) → List ℕ → List (Option Entry)
moved_into es to part = map (moved_at es to part) (range_with_len 0 (length to))

-- the giver has the frame, and where it isn't whole the taker has no counted reference of it
abbrev pub MayTake : List (Option Entry) → List (Option Entry) → ℕ → Type 0
MayTake es to f =
    (is_here (hold_at es f) ≡ true)
    × (is_whole (hold_at es f) ≡ false → is_counted (hold_at to f) ≡ false)

-- each of these frames stands once, and may be taken
pub record MayHand (es to : List (Option Entry)) (part : List ℕ) : Type 0 where
  pub once : AreDistinct part
  pub each : (f : ℕ) → is_among f part ≡ true → MayTake es to f

-- no entry of n frames
abbrev pub nothing : ℕ → List (Option Entry)
nothing n = replicate n None

-- each entry is whole: kept, or the seat's own
abbrev pub AreWhole : List (Option Entry) → Type 0
AreWhole es = (f : ℕ) → is_here (hold_at es f) ≡ true → is_whole (hold_at es f) ≡ true

-- what two seats have of a frame that at most one of them has
abbrev pub either_entry : Option Entry → Option Entry → Option Entry
either_entry None y = y
either_entry (Some e) y = Some e

-- the entries of two seats in one
unfoldable pub add_entries : List (Option Entry) → List (Option Entry) → List (Option Entry)
add_entries [] ys = ys
add_entries (x ∷ xs) [] = x ∷ xs
add_entries (x ∷ xs) (y ∷ ys) = either_entry x y ∷ add_entries xs ys
