-- How a seat holds each frame, beside how often its holder's lists name the frame.
use Rattle.std.specs.Prelude.{◌≡◌, ◌<◌, ◌+◌, ◌==◌, ℕ, List, count_by, Some, None}
use Rattle.std.specs.declared.option.Option.{Option}
use Rattle.neph_pool.specs.declared.entry.Entry.{Entry}
use Rattle.neph_pool.specs.declared.entry.Hold.{Hold}
use Rattle.neph_pool.specs.declared.entry.Hold.TheVariants.{Zero, Sole, Counted}
use Rattle.neph_pool.specs.Entries.{hold_at}

-- how often a list names a frame
abbrev pub times : ℕ → List ℕ → ℕ
times f xs = count_by (λ x. x == f) xs

-- A frame that so many pages lie in, that so many of the holder's own frames are, and that so many
-- of the kept ones are: at most one of these.
abbrev pub HasAt : Option Hold → ℕ → ℕ → ℕ → Type 0
HasAt None pages own kept = pages + own + kept ≡ 0
HasAt (Some Zero) pages own kept = (pages + own ≡ 0) × (kept ≡ 1)
HasAt (Some Sole) pages own kept = (pages + own ≡ 1) × (kept ≡ 0)
HasAt (Some (Counted n)) pages own kept = (n ≡ 1) × (pages ≡ 1) × (own + kept ≡ 0)

-- The seat has one reference of each frame under these pages, has these frames to itself, keeps
-- these without a reference, and has no other. All of them are different.
pub record Has (es : List (Option Entry)) (pages own kept : List ℕ) : Type 0 where
  pub each : (f : ℕ) → HasAt (hold_at es f) (times f pages) (times f own) (times f kept)

-- each of these frames is held so, and every other as before
pub record HoldsAmong (part : List ℕ) (h : Option Hold) (es fs : List (Option Entry)) : Type 0 where
  pub within : (f : ℕ) → 0 < times f part → hold_at fs f ≡ h
  pub others : (f : ℕ) → times f part ≡ 0 → hold_at fs f ≡ hold_at es f
