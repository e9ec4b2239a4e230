-- The frames that a seat keeps without a reference.
use Rattle.std.specs.Prelude.{◌≡◌, ◌↔◌, ℕ, true, List}
use Rattle.std.specs.declared.option.Option.{Option}
use Rattle.neph_pool.specs.declared.entry.Entry.{Entry}
use Rattle.neph_pool.specs.Entries.{hold_at, is_here, IsZeroAt}
use Rattle.neph_pool.specs.Handing.{AreDistinct}
use Rattle.neph_memory.specs.Building.{IsAmong}

-- the list has each of them once
pub record Freed (es : List (Option Entry)) (frames : List ℕ) : Type 0 where
  pub once : AreDistinct frames
  pub zero : (g : ℕ) → IsAmong frames g ↔ IsZeroAt es g

-- the seat keeps frames alone, and has no reference
abbrev pub AreZero : List (Option Entry) → Type 0
AreZero es = (g : ℕ) → is_here (hold_at es g) ≡ true → IsZeroAt es g
