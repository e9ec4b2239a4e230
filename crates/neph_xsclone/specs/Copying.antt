-- What a clone has of its parent, node by node.
use Rattle.std.specs.Prelude.{◌≡◌, ◌<◌, true, ℕ, List, Some}
use Rattle.std.specs.FinMap.{get}
use Rattle.neph_tree.specs.Places.{home, is_within}
use Rattle.neph_tree.specs.Nodes.{Nodes}
use Rattle.neph_xsclone.specs.Rewriting.{backend_9pfs, backend_console, backend_vif, moved_or_same, value_in_clone, cloned_store}

-- each node at or below `from` has a copy at the same place at or below `to`, of the rewritten
-- value
abbrev pub IsCopied : Nodes → Nodes → ℕ → ℕ → List ℕ → List ℕ → Type 0
IsCopied old new parent child from to =
    (path value : List ℕ) → is_within from path ≡ true → get old path ≡ Some value
    → get new (moved_or_same from to path) ≡ Some (value_in_clone parent child path value)

-- so it is at each of the parent's places
pub record AreCopied (old new : Nodes) (parent child : ℕ) : Type 0 where
  pub at_home : IsCopied old new parent child (home parent) (home child)
  pub at_9pfs : IsCopied old new parent child (backend_9pfs parent) (backend_9pfs child)
  pub at_console : IsCopied old new parent child (backend_console parent) (backend_console child)
  pub at_vif : IsCopied old new parent child (backend_vif parent) (backend_vif child)

-- a clone, which is never domain 0, has a copy of every node of its parent, and no copy hides
-- another
abbrev pub CopiesNodeByNode : Type 0
CopiesNodeByNode =
    (nodes : Nodes) → (parent child : ℕ) → 0 < child
    → AreCopied nodes (cloned_store nodes parent child) parent child
