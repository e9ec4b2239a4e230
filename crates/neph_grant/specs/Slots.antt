-- A fixed number of slots, each empty or with an entry, and the finite map that they stand for.
use Rattle.std.specs.Prelude.{ℕ, ◌+◌, List, [], ◌∷◌, Option, None, Some}
use Rattle.std.specs.Ordering.{nat_cmp}
use Rattle.std.specs.FinMap as map

-- the entries of the slots beside their places, the first of which is `at`
abbrev pub entries_from : {X : Type 0} → ℕ → List (Option X) → List (ℕ × X)
entries_from at [] = []
entries_from at (None ∷ xs) = entries_from (at + 1) xs
entries_from at (Some x ∷ xs) = (at, x) ∷ entries_from (at + 1) xs

-- from places to the entries that stand there
unfoldable pub map_of_slots : {X : Type 0} → List (Option X) → map.FinMap nat_cmp X
map_of_slots xs = map.from_entries (entries_from 0 xs)
