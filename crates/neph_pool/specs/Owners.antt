-- Who holds a frame of the plain pool.
use Rattle.std.specs.Prelude.{◌≡◌, ◌≢◌, ◌==◌, ◌+◌, ◌-◌, ◌↔◌, if◌then◌else◌, IsTrue, MatchBool, ℕ, Bool, slice_index, Some, None}
use Rattle.std.specs.declared.option.Option.{Option}
use Rattle.neph_pool.specs.declared.entry.Hold.{Hold}
use Rattle.neph_pool.specs.declared.entry.Hold.TheVariants.{Zero, Sole, Counted}
use Rattle.neph_pool.specs.Handing.{left_hold, moved_hold}
use Rattle.neph_pool.specs.declared.owners.Owners.{Owners}
use Rattle.neph_pool.specs.declared.owners.Owners.TheVariants.{Spare, Alone, Many}

-- how a row holds n references
abbrev pub counted : ℕ → Option Hold
counted n = if n == 0 then None else Some (Counted n)

-- how the row r holds the frame
abbrev pub held_by : ℕ → Owners → Option Hold
held_by r (Spare q) = if r == q then Some Zero else None
held_by r (Alone q) = if r == q then Some Sole else None
held_by r (Many weights) = counted (slice_index weights.by_row r)

-- the count of references
abbrev pub total_of : Owners → ℕ
total_of (Spare q) = 0
total_of (Alone q) = 1
total_of (Many weights) = weights.count

-- what two rows hold of a frame that at most one of them has
abbrev pub either_hold : Option Hold → Option Hold → Option Hold
either_hold None k = k
either_hold (Some h) k = Some h

-- from the owners o to the owners n: a second reference of the row's one
pub record IsShared (row : ℕ) (o n : Owners) : Type 0 where
  pub own : held_by row n ≡ Some (Counted 2)
  pub others : (r : ℕ) → r ≢ row → held_by r n ≡ held_by r o
  pub total : total_of n ≡ total_of o + 1

-- the row's one reference went, and `gone` says whether it was the last
pub record IsReleased (gone : Bool) (row : ℕ) (o n : Owners) : Type 0 where
  pub last : IsTrue gone ↔ (total_of o ≡ 1)
  pub own : MatchBool gone (held_by row n ≡ Some Zero) (held_by row n ≡ None)
  pub others : (r : ℕ) → r ≢ row → held_by r n ≡ held_by r o
  pub total : total_of n ≡ total_of o - 1

-- one reference went from a row to another, and a frame of one row alone as it is
pub record IsHanded (from to : ℕ) (o n : Owners) : Type 0 where
  pub left : held_by from n ≡ left_hold (held_by from o)
  pub moved : held_by to n ≡ moved_hold (held_by from o)
  pub others : (r : ℕ) → r ≢ from → r ≢ to → held_by r n ≡ held_by r o
  pub total : total_of n ≡ total_of o
