-- The served nodes and the fids.
use Rattle.std.specs.Prelude.{◌≡◌, ◌≢◌, ◌<◌, ◌≤◌, ◌⊎◌, ℕ, suc, ◌-◌, IfSome, codes, Bool, false, List, [], ◌∷◌, ◌++◌, length, take, Option, Some, None, ◌==◌, ◌&&◌, if◌then◌else◌, not, is_some, nat_eq, slice_get, slice_set, slice_index_or}
use Rattle.std.specs.Cmp.Lexicographic.{pointwise}
use Rattle.std.specs.List.{All}
use Rattle.std.specs.Ordering.{nat_cmp}
use Rattle.std.specs.FinMap as fin
use Rattle.neph_p9srv.specs.declared.tree.Node.{Node}
use Rattle.neph_p9srv.specs.declared.fid_map.Fid.{Fid}
use Rattle.neph_p9srv.specs.declared.served.FileItem.{FileItem}
use Rattle.neph_p9msg.specs.declared.msg.Qid.{Qid}
use Rattle.neph_p9srv.specs.declared.tree.TheConstants.{MAX_NODES}
use Rattle.neph_p9srv.specs.declared.requests.TheConstants.{MAX_FILE}
use Rattle.neph_p9srv.specs.Texts.{up}

-- the fids of one domain, by their numbers
abbrev pub Fids : Type 0
Fids = fin.FinMap nat_cmp Fid

-- the bytes of a node, which only a file has
abbrev pub body_in : Option Node → Option (List ℕ)
body_in None = None
body_in (Some node) = node.body

-- the bytes of the file of this number; nothing where a directory stands
abbrev pub body_of : List Node → ℕ → Option (List ℕ)
body_of nodes n = body_in (slice_get nodes n)

-- the number of a parent, or the node's own where it has none
abbrev pub up_from : ℕ → Option ℕ → ℕ
up_from n None = n
up_from n (Some above) = above

-- the same of a node that may be missing
abbrev pub parent_in : ℕ → Option Node → ℕ
parent_in n None = n
parent_in n (Some node) = up_from n node.parent

-- the directory above a node, the root's being itself
abbrev pub parent_of : List Node → ℕ → ℕ
parent_of nodes n = parent_in n (slice_get nodes n)

-- whether a node lies in this directory
abbrev pub lies_in : Option ℕ → ℕ → Bool
lies_in None dir = false
lies_in (Some above) dir = above == dir

-- whether this is the entry of that name in the directory
abbrev pub is_entry : Node → ℕ → List ℕ → Bool
is_entry node dir name = lies_in node.parent dir && pointwise nat_eq node.name name

-- the number, counted from n on, of the first of these nodes that the directory has under the name
abbrev pub child_from : ℕ → List Node → ℕ → List ℕ → Option ℕ
child_from n [] dir name = None
child_from n (node ∷ nodes) dir name =
    if is_entry node dir name then Some n else child_from (suc n) nodes dir name

-- the number of the node that the directory has under the name
unfoldable pub child : List Node → ℕ → List ℕ → Option ℕ
child nodes dir name = child_from 0 nodes dir name

-- one step of a walk
abbrev pub next : List Node → ℕ → List ℕ → Option ℕ
next nodes at name =
    if pointwise nat_eq name up then Some (parent_of nodes at) else child nodes at name

-- the nodes to which the names lead, one by one, until one leads nowhere
unfoldable pub trail : List Node → ℕ → List (List ℕ) → List ℕ
trail nodes at [] = []
trail nodes at (name ∷ names) = elim (next nodes at name) [
  | None ↦ []
  | Some n ↦ n ∷ trail nodes n names
]

-- where a trail ends
abbrev pub end_of : ℕ → List ℕ → ℕ
end_of at [] = at
end_of at (n ∷ ns) = end_of n ns

-- a node is a directory where no bytes stand
abbrev pub is_dir : List Node → ℕ → Bool
is_dir nodes n = not (is_some (body_of nodes n))

-- a node is told apart by its number
abbrev pub qid_of : List Node → ℕ → Qid
qid_of nodes n = record { dir = is_dir nodes n; path = n }

-- the nodes with other bytes in this one of them, where it is one
abbrev pub put_in : List Node → ℕ → List ℕ → Option Node → List Node
put_in nodes n bytes None = nodes
put_in nodes n bytes (Some node) = slice_set nodes n (record node { body = Some bytes })

-- the nodes with other bytes in one file
abbrev pub with_body : List Node → ℕ → List ℕ → List Node
with_body nodes n bytes = put_in nodes n bytes (slice_get nodes n)

-- where the names lead down from here, or the last node that they reach
unfoldable pub descend : List Node → ℕ → List (List ℕ) → ℕ
descend nodes at [] = at
descend nodes at (name ∷ names) = elim (child nodes at name) [
  | None ↦ at
  | Some n ↦ descend nodes n names
]

-- the root, with nothing below it
abbrev pub root : Node
root = record { parent = None; name = []; body = None }

-- the node of a line, in the directory to which the names before its last lead
abbrev pub node_for : List Node → FileItem → Node
node_for nodes item = record {
  parent = Some (descend nodes 0 (take (length item.path - 1) item.path));
  name = slice_index_or item.path (length item.path - 1) [];
  body = item.body;
}

-- the nodes, and behind them the node of each line in turn
abbrev pub with_items : List Node → List FileItem → List Node
with_items nodes [] = nodes
with_items nodes (item ∷ items) = with_items (nodes ++ node_for nodes item ∷ []) items

-- what these lines serve: the root, and then each line's node in turn
unfoldable pub nodes_of : List FileItem → List Node
nodes_of items = with_items (root ∷ []) items

-- from one byte up to another
abbrev pub IsBetween : ℕ → ℕ → ℕ → Type 0
IsBetween low high b = (low ≤ b) × (b ≤ high)

-- a letter, a digit, or one of '.', '_' and '-'
abbrev pub IsNameByte : ℕ → Type 0
IsNameByte b =
    IsBetween 97 122 b ⊎ (IsBetween 65 90 b ⊎ (IsBetween 48 57 b
    ⊎ ((b ≡ 46) ⊎ ((b ≡ 95) ⊎ (b ≡ 45)))))

-- 1 to 32 such bytes, and neither '.' nor '..'
pub record IsName (name : List ℕ) : Type 0 where
  pub some : 0 < length name
  pub most : length name ≤ 32
  pub bytes : All IsNameByte name
  pub apart : name ≢ codes "."
  pub down : name ≢ up

-- 1 to 8 names, and at most 4,096 bytes
pub record IsItem (item : FileItem) : Type 0 where
  pub some : 0 < length item.path
  pub most : length item.path ≤ 8
  pub names : All IsName item.path
  pub bytes : IfSome item.body (λ bytes. length bytes ≤ MAX_FILE)

-- an item before place k is the directory of this path
abbrev pub HasDirectory : List FileItem → ℕ → List (List ℕ) → Type 0
HasDirectory items k path =
    (j : ℕ) × (j < k) × (slice_get items j ≡ Some (record { path = path; body = None }))

-- the lines of a tree: each has the root or a directory before it as its parent, and paths differ
pub record AreItems (items : List FileItem) : Type 0 where
  pub few : length items ≤ MAX_NODES
  pub each : All IsItem items
  pub parents : (k : ℕ) (item : FileItem) → slice_get items k ≡ Some item
      → (length item.path ≡ 1) ⊎ HasDirectory items k (take (length item.path - 1) item.path)
  pub apart : (j k : ℕ) (a b : FileItem) → slice_get items j ≡ Some a → slice_get items k ≡ Some b
      → a.path ≡ b.path → j ≡ k
