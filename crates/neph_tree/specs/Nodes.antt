-- The nodes of the store: a finite map from path to value, in byte order of the paths.
use Rattle.std.specs.Prelude.{◌∷◌, [], ℕ, not, List, IsTrue, if◌then◌else◌}
use Rattle.std.specs.List.{filter_map}
use Rattle.std.specs.Ordering.{nat_cmp}
use Rattle.std.specs.Cmp.Lexicographic.{slice_cmp}
use Rattle.std.specs.FinMap.{FinMap, contains_key, insert, retain_keys, keys}
use Rattle.neph_base.specs.Path.{is_path}
use Rattle.neph_tree.specs.Places.{is_within, child_name, ancestors}

abbrev pub Nodes : Type 0
Nodes = FinMap (slice_cmp nat_cmp) (List ℕ)

-- with a node of empty value, where there is none
abbrev pub with_missing : Nodes → List ℕ → Nodes
with_missing nodes path = if contains_key nodes path then nodes else insert nodes path []

-- with one at each of these paths
abbrev pub with_each_missing : Nodes → List (List ℕ) → Nodes
with_each_missing nodes [] = nodes
with_each_missing nodes (path ∷ paths) = with_each_missing (with_missing nodes path) paths

-- with this node, and the nodes above it that were missing
abbrev pub with_node : Nodes → List ℕ → List ℕ → Nodes
with_node nodes path value = insert (with_each_missing nodes (ancestors path)) path value

-- with each of these nodes, one after the other
abbrev pub with_nodes : Nodes → List (List ℕ × List ℕ) → Nodes
with_nodes nodes [] = nodes
with_nodes nodes (e ∷ es) = with_nodes (with_node nodes e.0 e.1) es

-- without the node and all below it
abbrev pub without : Nodes → List ℕ → Nodes
without nodes top = retain_keys nodes (λ path. not (is_within top path))

-- the node and all below it
abbrev pub subtree : Nodes → List ℕ → Nodes
subtree nodes top = retain_keys nodes (λ path. is_within top path)

-- the names of its children, in byte order
abbrev pub child_names : Nodes → List ℕ → List (List ℕ)
child_names nodes directory = filter_map (λ path. child_name directory path) (keys nodes)

-- every key is a path, and every path above a node is a node
pub record IsTree (nodes : Nodes) : Type 0 where
  pub paths : (path : List ℕ) → IsTrue (contains_key nodes path) → IsTrue (is_path path)
  pub closed :
      (above path : List ℕ) → IsTrue (is_path above) → IsTrue (is_within above path)
      → IsTrue (contains_key nodes path) → IsTrue (contains_key nodes above)
