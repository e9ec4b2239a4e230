-- The nodes in the slab, and how their keys link them.
use Rattle.std.specs.Prelude.{◌≡◌, ◌⊎◌, ◌&&◌, true, false, nat_eq, ℕ, Bool, List, Option, Some, None, map, Contains, if◌then◌else◌}
use Rattle.std.specs.Ordering.{nat_cmp, eq_by_cmp}
use Rattle.std.specs.Cmp.Lexicographic.{slice_cmp, pointwise}
use Rattle.std.specs.FinMap.{FinMap, from_entries, len}
use Rattle.std.specs.FinMap as map
use Rattle.slab.specs.Slab.{Slab, entries, slab_len}
use Rattle.slab.specs.Slab as slab
use Rattle.neph_base.specs.Path.{is_path}
use Rattle.neph_tree.specs.declared.node.Node.{Node}
use Rattle.neph_tree.specs.declared.node_slab.NodeSlab.{NodeSlab}
use Rattle.neph_tree.specs.Places.{root, is_name, is_within, child_path, IsChild}
use Rattle.neph_tree.specs.Nodes.{Nodes, IsTree}
use Rattle.neph_tree.specs.Node.{child_of}

-- what stands at the path of each node
abbrev pub map_of : {X : Type 0} → (ℕ → Node → X) → Slab Node → FinMap (slice_cmp nat_cmp) X
map_of f nodes = from_entries (map (λ e. (e.1.path.items, f e.0 e.1)) (entries nodes))

-- its value
abbrev pub nodes_of : NodeSlab → Nodes
nodes_of t = map_of (λ key node. node.value.items) t.nodes

-- its key
abbrev pub keys_of : NodeSlab → FinMap (slice_cmp nat_cmp) ℕ
keys_of t = map_of (λ key node. key) t.nodes

-- the node at a key
abbrev pub node_at : NodeSlab → ℕ → Option Node
node_at t key = slab.get t.nodes key

-- it is the node at the path
abbrev pub stands_at : Option Node → List ℕ → Bool
stands_at None path = false
stands_at (Some node) path = pointwise nat_eq node.path.items path

-- nodes with one path have one key, and stand at paths
pub record AreAlone (t : NodeSlab) : Type 0 where
  pub alone : (j k : ℕ) (a b : Node) → node_at t j ≡ Some a → node_at t k ≡ Some b
      → a.path.items ≡ b.path.items → j ≡ k
  pub paths : (key : ℕ) (node : Node) → node_at t key ≡ Some node → is_path node.path.items ≡ true

-- the nodes are a tree, no two have one path, and each knows its children
pub record IsLinked (t : NodeSlab) : Type 0 where
  pub tree : IsTree (nodes_of t)
  pub count : slab_len t.nodes ≡ len (nodes_of t)
  pub root : t.root ≡ map.get (keys_of t) root
  pub alone : (key : ℕ) (node : Node) → node_at t key ≡ Some node
      → map.get (keys_of t) node.path.items ≡ Some key
  pub children : (key : ℕ) (node : Node) → node_at t key ≡ Some node
      → (name : List ℕ) → child_of node name
      ≡ (if is_name name then map.get (keys_of t) (child_path node.path.items name) else None)

-- the key of the node above the path, none of `/`
abbrev pub IsUp : NodeSlab → List ℕ → Option ℕ → Type 0
IsUp t path None = path ≡ root
IsUp t path (Some up) =
    (node : Node) × (name : List ℕ) × (node_at t up ≡ Some node) × IsChild path node.path.items name

-- the same node, but for its child at the path
pub record IsHung (place : List ℕ) (to : Option ℕ) (old new : Node) : Type 0 where
  pub path : new.path ≡ old.path
  pub value : new.value ≡ old.value
  pub children : (name : List ℕ) → child_of new name
      ≡ (if is_name name && eq_by_cmp (slice_cmp nat_cmp) (child_path old.path.items name) place
      then to else child_of old name)

-- the same nodes, but for what leads to the path
pub record IsAttached (path : List ℕ) (to : Option ℕ) (old new : NodeSlab) : Type 0 where
  pub kept : (key : ℕ) (a : Node) → node_at old key ≡ Some a
      → (b : Node) × (node_at new key ≡ Some b) × IsHung path to a b
  pub back : (key : ℕ) → node_at old key ≡ None → node_at new key ≡ None
  pub root : new.root
      ≡ (if eq_by_cmp (slice_cmp nat_cmp) root path then to else old.root)
  pub count : slab_len new.nodes ≡ slab_len old.nodes
  pub vacant_key : new.nodes.vacant_key ≡ old.nodes.vacant_key
  pub capacity : new.nodes.capacity ≡ old.nodes.capacity

-- a node without children
abbrev pub IsLeaf : Node → Type 0
IsLeaf node = (name : List ℕ) → child_of node name ≡ None

-- within the node at one of these keys
abbrev pub IsBelowAny : NodeSlab → List ℕ → List ℕ → Type 0
IsBelowAny t keys q =
    (key : ℕ) × (node : Node) × Contains keys key × (node_at t key ≡ Some node)
    × (is_within node.path.items q ≡ true)

-- some nodes of the tree
abbrev pub IsPart : Nodes → Nodes → Type 0
IsPart part all = (q v : List ℕ) → map.get part q ≡ Some v → map.get all q ≡ Some v

-- these nodes were added: those within `top`, but for those at the keys that are left and below
pub record Gathers (t : NodeSlab) (top : List ℕ) (old new : Nodes) (left : List ℕ) : Type 0 where
  pub sound : (q v : List ℕ) → map.get new q ≡ Some v
      → (map.get (nodes_of t) q ≡ Some v) × ((is_within top q ≡ true) ⊎ (map.get old q ≡ Some v))
  pub kept : (q v : List ℕ) → map.get old q ≡ Some v → map.get new q ≡ Some v
  pub whole : (q v : List ℕ) → map.get (nodes_of t) q ≡ Some v → is_within top q ≡ true
      → (map.get new q ≡ Some v) ⊎ IsBelowAny t left q
