-- All seats of a pool together: a list of places, each with a seat or with none.
use Rattle.std.specs.Prelude.{◌≡◌, ◌<◌, ℕ, List, IfSome, None, Some, sum_by, slice_index, slice_index_or, if◌then◌else◌}
use Rattle.std.specs.declared.option.Option.{Option}
use Rattle.neph_pool.specs.declared.entry.Hold.{Hold}
use Rattle.neph_pool.specs.declared.entry.Hold.TheVariants.{Zero, Sole, Counted}
use Rattle.neph_pool.specs.Entries.{hold_at, weight_of, IsSoleAt}
use Rattle.neph_pool.specs.World.{World}

-- 1 where the entry is kept without a reference
abbrev pub zero_of : Option Hold → ℕ
zero_of None = 0
zero_of (Some Zero) = 1
zero_of (Some Sole) = 0
zero_of (Some (Counted n)) = 0

-- a number of the seat in a place, and 0 where there is none
abbrev pub in_place : {Seat : Type 0} → (Seat → ℕ) → Option Seat → ℕ
in_place number None = 0
in_place number (Some s) = number s

module _ {Pool Seat : Type 0} (W : World Pool Seat) where
  -- 1 where the seat has the name
  abbrev pub name_of : ℕ → Seat → ℕ
  name_of d s = if W.names s d then 1 else 0

  -- a number of the seat's hold of f
  abbrev pub count_at : (Option Hold → ℕ) → Pool → ℕ → Seat → ℕ
  count_at number p f s = number (hold_at (W.entries p s) f)

  -- the references of f that these seats hold
  abbrev pub weights : Pool → List (Option Seat) → ℕ → ℕ
  weights p seats f = sum_by (in_place (count_at weight_of p f)) seats

  -- how many of these seats keep f without a reference
  abbrev pub zeros : Pool → List (Option Seat) → ℕ → ℕ
  zeros p seats f = sum_by (in_place (count_at zero_of p f)) seats

  -- the seats fit the pool, and each of the 64 names is a name of exactly one of them
  pub record AreAllSeats (p : Pool) (seats : List (Option Seat)) : Type 0 where
    pub fit : (i : ℕ) → IfSome (slice_index_or seats i None) (λ s. W.fits p s)
    pub names : (d : ℕ) → d < 64 → sum_by (in_place (name_of d)) seats ≡ 1

  -- Of each frame the count is the sum of the references. One without any is kept by exactly one
  -- seat, and one with some by none. A seat that has a frame to itself has its only reference.
  pub record AreCounted (p : Pool) (seats : List (Option Seat)) : Type 0 where
    pub counts : (f : ℕ) → f < W.frames p
        → IfSome (W.told p) (λ counts. slice_index counts f ≡ weights p seats f)
    pub kept : (f : ℕ) → f < W.frames p → weights p seats f ≡ 0 → zeros p seats f ≡ 1
    pub used : (f : ℕ) → f < W.frames p → 0 < weights p seats f → zeros p seats f ≡ 0
    pub sole : (f i : ℕ) → IfSome (slice_index_or seats i None)
        (λ s. IsSoleAt (W.entries p s) f → weights p seats f ≡ 1)
