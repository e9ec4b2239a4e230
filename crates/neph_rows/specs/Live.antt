-- Which ids are live.
use Rattle.std.specs.Prelude.{ℕ, true, false, ◌≡◌, ◌<◌, ◌≤◌, if◌then◌else◌, List, Option, None, Some}
use Rattle.std.specs.Int.{bit_at}
use Rattle.neph_model.specs.declared.life.Life.{Life}
use Rattle.neph_model.specs.Machine.{is_live}

-- the bits of a word are the live ids
abbrev pub AreLiveIds : ℕ → List (Option Life) → Type 0
AreLiveIds ids lives = (id : ℕ) → id < 64 → bit_at ids id ≡ (if is_live id lives then 1 else 0)

-- no domain of an id from this one on is live, as far as that one
abbrev pub IsNoneLive : List (Option Life) → ℕ → ℕ → Type 0
IsNoneLive lives from to = (id : ℕ) → from ≤ id → id < to → is_live id lives ≡ false

-- the first live domain from an id on is this one
pub record IsFirstLive (lives : List (Option Life)) (from id : ℕ) : Type 0 where
  pub at : from ≤ id
  pub live : is_live id lives ≡ true
  pub first : IsNoneLive lives from id

-- this is the first id from that one on whose domain is live, None just where none of them is
abbrev pub IsNextLive : List (Option Life) → ℕ → Option ℕ → Type 0
IsNextLive lives from None = IsNoneLive lives from 64
IsNextLive lives from (Some id) = IsFirstLive lives from id
