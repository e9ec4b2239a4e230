-- The counts that are kept.
use Rattle.std.specs.Prelude.{◌≡◌, ◌<◌, ℕ, List, slice_index}
use Rattle.std.specs.FinMap.{len}
use Rattle.neph_tree.specs.Places.{home}
use Rattle.neph_tree.specs.Nodes.{Nodes, subtree}

-- one for each domain: how many nodes are within its home
abbrev pub AreCounted : List ℕ → Nodes → Type 0
AreCounted counts nodes = (d : ℕ) → d < 64 → slice_index counts d ≡ len (subtree nodes (home d))
