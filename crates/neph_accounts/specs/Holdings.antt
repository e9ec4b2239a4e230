-- What a seat has of each frame, beside how often some lists name the frame.
use Rattle.std.specs.Prelude.{◌≡◌, ◌==◌, ◌+◌, ◌<◌, ℕ, List, [], count_by, Some, None}
use Rattle.std.specs.declared.option.Option.{Option}
use Rattle.neph_pool.specs.declared.entry.Entry.{Entry}
use Rattle.neph_pool.specs.declared.entry.Hold.{Hold}
use Rattle.neph_pool.specs.declared.entry.Hold.TheVariants.{Zero, Sole, Counted}
use Rattle.neph_pool.specs.Entries.{hold_at, IsSoleAt}

-- how often a frame is among these
abbrev pub times : ℕ → List ℕ → ℕ
times f fs = count_by (λ g. g == f) fs

-- The frames that a seat has: those under its pages, those under pages in flight to it, those that
-- are its own for something else, and those that it keeps free.
pub record Holding : Type 0 where
  pub pages : List ℕ
  pub flying : List ℕ
  pub own : List ℕ
  pub kept : List ℕ

-- the holding of a seat that has nothing
abbrev pub no_holding : Holding
no_holding = record { pages = []; flying = []; own = []; kept = [] }

-- How a seat holds a frame that is under so many of its pages, under so many of its pages in
-- flight, so often its own and so often kept free: one of these at most, and once. It may share a
-- frame that is under a page, and does share one that is under a page in flight.
abbrev pub HasAt : Option Hold → ℕ → ℕ → ℕ → ℕ → Type 0
HasAt None pages flying own kept = pages + flying + own + kept ≡ 0
HasAt (Some Zero) pages flying own kept = (pages + flying + own ≡ 0) × (kept ≡ 1)
HasAt (Some Sole) pages flying own kept = (pages + own ≡ 1) × (flying + kept ≡ 0)
HasAt (Some (Counted n)) pages flying own kept = (n ≡ 1) × (pages + flying ≡ 1) × (own + kept ≡ 0)

-- the seat has the frames of this holding so, and no other
abbrev pub Has : List (Option Entry) → Holding → Type 0
Has es h = (f : ℕ)
    → HasAt (hold_at es f) (times f h.pages) (times f h.flying) (times f h.own) (times f h.kept)

-- the seat has each of these frames to itself
abbrev pub AreSole : List (Option Entry) → List ℕ → Type 0
AreSole es fs = (f : ℕ) → 0 < times f fs → IsSoleAt es f
