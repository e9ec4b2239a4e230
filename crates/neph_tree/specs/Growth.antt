-- What a growing tree has that it hadn't.
use Rattle.std.specs.Prelude.{◌≡◌, ◌≤◌, [], ◌∷◌, ℕ, true, false, List, Option, Some, None, IsTrue, length, take, if◌then◌else◌}
use Rattle.std.specs.FinMap.{get, contains_key, insert}
use Rattle.neph_base.specs.Path.{is_path}
use Rattle.neph_tree.specs.Places.{is_within}
use Rattle.neph_tree.specs.Nodes.{Nodes, without, with_node}

-- the length of the first node that was made, once this one is there
abbrev pub first_made : Nodes → List ℕ → Option ℕ → Option ℕ
first_made nodes path (Some end) = Some end
first_made nodes path None = if contains_key nodes path then None else Some (length path)

-- the front of this length is a path that wasn't there, later fronts lie within it, and all that
-- doesn't is as it was
pub record GrowsWithin (old new : Nodes) (path : List ℕ) (end : ℕ) : Type 0 where
  pub front : is_path (take end path) ≡ true
  pub missing : contains_key old (take end path) ≡ false
  pub later : (i : ℕ) → end ≤ i → is_within (take end path) (take i path) ≡ true
  pub others : (q : List ℕ) → is_within (take end path) q ≡ false → get new q ≡ get old q

-- nothing was made, or all that was lies within the first
abbrev pub IsGrown : Nodes → Nodes → List ℕ → Option ℕ → ℕ → Type 0
IsGrown old new path None most = new ≡ old
IsGrown old new path (Some end) most = GrowsWithin old new path end × (end ≤ most)

-- without what lies within the front of this length
abbrev pub without_front : Nodes → List ℕ → Option ℕ → Nodes
without_front nodes path None = nodes
without_front nodes path (Some end) = without nodes (take end path)

-- with this node, where there is none
abbrev pub with_added : Nodes → List ℕ → List ℕ → Nodes
with_added nodes path value = if contains_key nodes path then nodes else insert nodes path value

-- with this node and those above it, where there is none
abbrev pub with_made : Nodes → List ℕ → List ℕ → Nodes
with_made nodes path value = if contains_key nodes path then nodes else with_node nodes path value

-- with each of these nodes that is missing, one after the other
abbrev pub with_each_made : Nodes → List (List ℕ × List ℕ) → Nodes
with_each_made nodes [] = nodes
with_each_made nodes (e ∷ es) = with_each_made (with_made nodes e.0 e.1) es

-- with each of these values
abbrev pub with_values : Nodes → List (List ℕ × List ℕ) → Nodes
with_values nodes [] = nodes
with_values nodes (e ∷ es) = with_values (insert nodes e.0 e.1) es

-- they stand at paths
abbrev pub ArePaths : List (List ℕ × List ℕ) → Type 0
ArePaths [] = Unit {0}
ArePaths (e ∷ es) = IsTrue (is_path e.0) × ArePaths es

-- there is a node at each of these paths
abbrev pub HasEach : Nodes → List (List ℕ × List ℕ) → Type 0
HasEach nodes [] = Unit {0}
HasEach nodes (e ∷ es) = IsTrue (contains_key nodes e.0) × HasEach nodes es
