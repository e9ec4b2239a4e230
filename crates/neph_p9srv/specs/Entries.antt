-- Inner: the entries of each directory, which the tree keeps beside its nodes.
use Rattle.std.specs.Prelude.{◌≡◌, ℕ, suc, Bool, false, List, [], ◌∷◌, length, Option, Some, None, if◌then◌else◌, nat_eq, slice_get, slice_index_or}
use Rattle.std.specs.Cmp.Lexicographic.{pointwise}
use Rattle.neph_p9srv.specs.declared.tree.Node.{Node}
use Rattle.neph_p9srv.specs.State.{lies_in}

-- the numbers, counted from n on, of the nodes in a directory
abbrev pub entries_from : ℕ → List Node → ℕ → List ℕ
entries_from n [] dir = []
entries_from n (node ∷ nodes) dir =
    if lies_in node.parent dir then n ∷ entries_from (suc n) nodes dir
    else entries_from (suc n) nodes dir

-- each directory's list has the numbers of its nodes
pub record AreEntries (nodes : List Node) (lists : List (List ℕ)) : Type 0 where
  pub count : length lists ≡ length nodes
  pub each : (dir : ℕ) → slice_index_or lists dir [] ≡ entries_from 0 nodes dir

-- there is a node, and this is its name
abbrev pub has_name : Option Node → List ℕ → Bool
has_name None name = false
has_name (Some node) name = pointwise nat_eq node.name name

-- the first of these nodes with the name
unfoldable pub first_named : List Node → List ℕ → List ℕ → Option ℕ
first_named nodes [] name = None
first_named nodes (n ∷ ns) name =
    if has_name (slice_get nodes n) name then Some n else first_named nodes ns name
