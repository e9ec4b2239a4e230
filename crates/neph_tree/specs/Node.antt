-- What a node knows of its children.
use Rattle.std.specs.Prelude.{◌≡◌, ℕ, List, map, Option, if◌then◌else◌}
use Rattle.std.specs.Ordering.{nat_cmp, eq_by_cmp}
use Rattle.std.specs.Cmp.Lexicographic.{slice_cmp}
use Rattle.std.specs.Map.{lookup}
use Rattle.std.specs.BTreeMap.{is_at}
use Rattle.neph_tree.specs.declared.node.Node.{Node}

-- the names of the children, as they stand
abbrev pub names_of : Node → List (List ℕ)
names_of node = map (λ c. c.0.items) node.children.entries

-- the key of the child of this name
abbrev pub child_of : Node → List ℕ → Option ℕ
child_of node name = lookup (is_at (λ k. slice_cmp nat_cmp name k.items)) node.children.entries

-- the same node, but for the child of this name
pub record IsRelinked (old new : Node) (name : List ℕ) (to : Option ℕ) : Type 0 where
  pub path : new.path ≡ old.path
  pub value : new.value ≡ old.value
  pub children :
      (other : List ℕ) → child_of new other
      ≡ (if eq_by_cmp (slice_cmp nat_cmp) other name then to else child_of old other)
