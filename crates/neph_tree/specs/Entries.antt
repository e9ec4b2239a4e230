-- The entries of a tree of byte strings as lists.
use Rattle.std.specs.Prelude.{ℕ, List, Vec, map}
use Rattle.std.specs.Ordering.{nat_cmp}
use Rattle.std.specs.Cmp.Lexicographic.{slice_cmp}
use Rattle.std.specs.Borrow.{Bor}
use Rattle.std.specs.FinMap.{FinMap, from_entries}

-- keys and values as lists
abbrev pub shown : {A : Type 0} → List (Vec ℕ A × Vec ℕ A) → List (List ℕ × List ℕ)
shown es = map (λ e. (e.0.items, e.1.items)) es

-- the same of keys and values that are lent
abbrev pub lent : List (Bor (List ℕ) × Bor (List ℕ)) → List (List ℕ × List ℕ)
lent es = map (λ e. (e.0.now, e.1.now)) es

-- the map of these entries
abbrev pub nodes_in : List (Bor (List ℕ) × Bor (List ℕ)) → FinMap (slice_cmp nat_cmp) (List ℕ)
nodes_in es = from_entries (lent es)
