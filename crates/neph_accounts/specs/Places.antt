-- All seats of a pool with what each has, and how often all of them together name a frame.
use Rattle.std.specs.Prelude.{◌≡◌, ◌≤◌, ◌+◌, ℕ, List, map, length, sum_by, count_by, nat_lt, IfSome, Some, None, slice_index_or}
use Rattle.std.specs.List.{range_with_len}
use Rattle.std.specs.declared.option.Option.{Option}
use Rattle.neph_pool.specs.Entries.{IsShaped}
use Rattle.neph_pool.specs.World.{World}
use Rattle.neph_pool.specs.Seats.{AreAllSeats, AreCounted}
use Rattle.neph_accounts.specs.Holdings.{times, Holding, no_holding, Has}

-- a seat and what it has
pub record Place (Seat : Type 0) : Type 0 where
  pub seat : Seat
  pub holding : Holding

abbrev pub seat_of : {Seat : Type 0} → Option (Place Seat) → Option Seat
seat_of None = None
seat_of (Some x) = Some x.seat

-- what the seat in a place has, and nothing where there is none
abbrev pub holding_of : {Seat : Type 0} → Option (Place Seat) → Holding
holding_of None = no_holding
holding_of (Some x) = x.holding

abbrev pub page_frames : Holding → List ℕ
page_frames h = h.pages

abbrev pub flying_frames : Holding → List ℕ
flying_frames h = h.flying

abbrev pub own_frames : Holding → List ℕ
own_frames h = h.own

abbrev pub kept_frames : Holding → List ℕ
kept_frames h = h.kept

-- how often a frame is named by these lists of all places
abbrev pub times_named : {Seat : Type 0} → (Holding → List ℕ) → List (Option (Place Seat)) → ℕ → ℕ
times_named part xs f = sum_by (λ x. times f (part (holding_of x))) xs

-- how long these lists are together
abbrev pub length_in : {Seat : Type 0} → (Holding → List ℕ) → List (Option (Place Seat)) → ℕ
length_in part xs = sum_by (λ x. length (part (holding_of x))) xs

-- how many pages stand on a frame, those in flight among them
abbrev pub pages_under : {Seat : Type 0} → List (Option (Place Seat)) → ℕ → ℕ
pages_under xs f = times_named page_frames xs f + times_named flying_frames xs f

-- how often it is a seat's own for something else
abbrev pub other_uses : {Seat : Type 0} → List (Option (Place Seat)) → ℕ → ℕ
other_uses xs f = times_named own_frames xs f

-- how often it is kept free
abbrev pub keepers_of : {Seat : Type 0} → List (Option (Place Seat)) → ℕ → ℕ
keepers_of xs f = times_named kept_frames xs f

-- A frame is free: one seat keeps it, and no seat has it for anything else.
abbrev pub IsFree : {Seat : Type 0} → List (Option (Place Seat)) → ℕ → Type 0
IsFree xs f = (keepers_of xs f ≡ 1) × (pages_under xs f + other_uses xs f ≡ 0)

-- It is private: under one page, or one seat's own for something else.
abbrev pub IsPrivate : {Seat : Type 0} → List (Option (Place Seat)) → ℕ → Type 0
IsPrivate xs f = (pages_under xs f + other_uses xs f ≡ 1) × (keepers_of xs f ≡ 0)

-- It is shared: under two pages or more, and for nothing else.
abbrev pub IsSharedFrame : {Seat : Type 0} → List (Option (Place Seat)) → ℕ → Type 0
IsSharedFrame xs f = (2 ≤ pages_under xs f) × (other_uses xs f + keepers_of xs f ≡ 0)

-- how many of n frames have some count
unfoldable pub frames_with : ℕ → (ℕ → ℕ) → ℕ
frames_with n count = count_by (λ f. nat_lt 0 (count f)) (range_with_len 0 n)

module _ {Pool Seat : Type 0} (W : World Pool Seat) where
  -- these are all seats of the pool, with what each has
  pub record AreHeld (p : Pool) (xs : List (Option (Place Seat))) : Type 0 where
    pub all : AreAllSeats W p (map seat_of xs)
    pub has : (i : ℕ) → IfSome (slice_index_or xs i None) (λ x. Has (W.entries p x.seat) x.holding)

  -- beside what any pool says of all its seats
  pub record AreSurveyed (p : Pool) (xs : List (Option (Place Seat))) : Type 0 where
    pub held : AreHeld p xs
    pub counted : AreCounted W p (map seat_of xs)
    pub shaped : (s : Seat) → W.fits p s → IsShaped (W.frames p) (W.entries p s)
