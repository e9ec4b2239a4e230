-- The families of the switch.
use Rattle.std.specs.Prelude.{◌==◌, ◌+◌, ◌-◌, ◌^◌, min, slice_index, slice_set, ℕ, Bool, false, List, None, Some, filter, slice_index_or}
use Rattle.std.specs.List.{range_with_len}
use Rattle.std.specs.declared.option.Option.{Option}

-- the family of each domain, by id, and how many packets each family has dropped, by its number
pub record Families : Type 0 where
  pub family_of : List (Option ℕ)
  pub drops : List ℕ

-- this is the family, where there is one
abbrev pub is_family : ℕ → Option ℕ → Bool
is_family f None = false
is_family f (Some g) = g == f

-- the domain d is a member of the family f
abbrev pub is_member : Families → ℕ → ℕ → Bool
is_member s f d = is_family f (slice_index_or s.family_of d None)

-- the members of a family, by rising id
unfoldable pub members : Families → ℕ → List ℕ
members s f = filter (is_member s f) (range_with_len 0 64)

-- one more packet to a family was dropped; the count stops at its end
abbrev pub with_drop : Families → ℕ → Families
with_drop s f =
    record s { drops = slice_set s.drops f (min (slice_index s.drops f + 1) (2 ^ 32 - 1)) }
