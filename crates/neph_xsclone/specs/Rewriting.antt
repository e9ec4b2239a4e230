-- What the store has of a domain, and how a clone's nodes come of its parent's.
use Rattle.std.specs.Prelude.{◌≡◌, ◌==◌, ◌||◌, ◌∷◌, ◌++◌, [], ℕ, Bool, List, Option, Some, None, map, unwrap_or, nat_eq, codes, if◌then◌else◌}
use Rattle.std.specs.List.{before_first, ends_with}
use Rattle.std.specs.Option.{option_map}
use Rattle.std.specs.Cmp.Lexicographic.{pointwise}
use Rattle.std.specs.FinMap.{entries, len}
use Rattle.neph_base.specs.Path.{slash, is_component}
use Rattle.neph_tree.specs.Places.{behind, decimal, home}
use Rattle.neph_tree.specs.Nodes.{Nodes, subtree, with_nodes, without}

-- ---- where a domain's nodes stand

-- the kinds of its backends
abbrev pub kinds : List (List ℕ)
kinds = codes "9pfs" ∷ codes "console" ∷ codes "vif" ∷ []

-- behind this stand the backends' kinds
abbrev pub backends : List ℕ
backends = codes "/local/domain/0/backend/"

-- `/local/domain/0/backend/K/D`
abbrev pub backend : List ℕ → ℕ → List ℕ
backend kind d = backends ++ kind ++ slash ∷ decimal d

-- a domain's backends, one of each kind
abbrev pub backend_9pfs : ℕ → List ℕ
backend_9pfs d = backend (codes "9pfs") d

abbrev pub backend_console : ℕ → List ℕ
backend_console d = backend (codes "console") d

abbrev pub backend_vif : ℕ → List ℕ
backend_vif d = backend (codes "vif") d

-- a domain's places: its home and its backends. Its nodes are those at or below them
abbrev pub places : ℕ → List (List ℕ)
places d = home d ∷ map (λ kind. backend kind d) kinds

-- without a domain's nodes
abbrev pub without_domain : Nodes → ℕ → Nodes
without_domain nodes d =
    let homeless = without nodes (home d) in
    without (without (without homeless (backend_9pfs d)) (backend_console d)) (backend_vif d)

-- there is no node at or below this path
abbrev pub HasNone : Nodes → List ℕ → Type 0
HasNone nodes top = len (subtree nodes top) ≡ 0

-- there is no node of the domain's
pub record HasNoNodes (nodes : Nodes) (d : ℕ) : Type 0 where
  pub at_home : HasNone nodes (home d)
  pub at_9pfs : HasNone nodes (backend_9pfs d)
  pub at_console : HasNone nodes (backend_console d)
  pub at_vif : HasNone nodes (backend_vif d)

-- ---- the nodes that a domain starts with

-- those of one device, in front and in back
abbrev pub device_nodes : ℕ → List ℕ → List (List ℕ × List ℕ)
device_nodes d kind =
    let front = home d ++ codes "/device/" ++ kind in
    let back = backend kind d in
    (front ++ codes "/backend", back) ∷ (front ++ codes "/state", codes "4")
    ∷ (back ++ codes "/frontend", front) ∷ (back ++ codes "/frontend-id", decimal d)
    ∷ (back ++ codes "/state", codes "4") ∷ []

-- its id, its name, and its devices
abbrev pub start_nodes : ℕ → List ℕ → List (List ℕ × List ℕ)
start_nodes d name =
    (home d ++ codes "/domid", decimal d) ∷ (home d ++ codes "/name", name)
    ∷ device_nodes d (codes "9pfs") ++ device_nodes d (codes "console")
    ++ device_nodes d (codes "vif")

-- ---- a clone

-- a path that is `from` or below it, with `to` in the place of `from`; None of every other text
abbrev pub moved : List ℕ → List ℕ → List ℕ → Option (List ℕ)
moved from to path =
    if pointwise nat_eq path from then Some to
    else option_map (λ rest. to ++ slash ∷ rest) (behind (from ++ slash ∷ []) path)

-- the same, and every other text as it is
abbrev pub moved_or_same : List ℕ → List ℕ → List ℕ → List ℕ
moved_or_same from to path = unwrap_or (moved from to path) path

-- the node has this name: its path ends in a slash and the name
abbrev pub has_name : List ℕ → List ℕ → Bool
has_name name path = ends_with nat_eq path (slash ∷ name)

-- the parent's id becomes the child's
abbrev pub id_in_clone : ℕ → ℕ → List ℕ → List ℕ
id_in_clone parent child value =
    if pointwise nat_eq value (decimal parent) then decimal child else value

-- the component behind a backend's path, if it is one
abbrev pub kind_in : List ℕ → List ℕ
kind_in text = before_first (λ b. b == slash) text

-- in a path at or below a backend of the parent, of whatever kind, its id becomes the child's
abbrev pub backend_in_clone : ℕ → ℕ → Option (List ℕ) → List ℕ → List ℕ
backend_in_clone parent child None value = value
backend_in_clone parent child (Some text) value =
    let kind = kind_in text in
    if is_component kind then moved_or_same (backend kind parent) (backend kind child) value
    else value

-- in a path at or below the parent's home or a backend of it, its id becomes the child's
abbrev pub path_in_clone : ℕ → ℕ → List ℕ → List ℕ
path_in_clone parent child value =
    unwrap_or (moved (home parent) (home child) value)
    (backend_in_clone parent child (behind backends value) value)

-- the value of a node's copy, by the node's name
abbrev pub value_in_clone : ℕ → ℕ → List ℕ → List ℕ → List ℕ
value_in_clone parent child path value =
    if has_name (codes "domid") path || has_name (codes "frontend-id") path
    then id_in_clone parent child value
    else if has_name (codes "frontend") path || has_name (codes "backend") path
    then path_in_clone parent child value
    else if pointwise nat_eq path (home parent ++ codes "/name")
    then value ++ codes "-" ++ decimal child
    else value

-- the copy of a node within `from`, which stands within `to`
abbrev pub copied : ℕ → ℕ → List ℕ → List ℕ → List ℕ × List ℕ → List ℕ × List ℕ
copied parent child from to e = (moved_or_same from to e.0, value_in_clone parent child e.0 e.1)

-- the copies of all nodes within `from`
abbrev pub copies_within : Nodes → ℕ → ℕ → List ℕ → List ℕ → List (List ℕ × List ℕ)
copies_within nodes parent child from to =
    map (λ e. copied parent child from to e) (entries (subtree nodes from))

-- the copies of all nodes of the parent
abbrev pub copies : Nodes → ℕ → ℕ → List (List ℕ × List ℕ)
copies nodes parent child =
    copies_within nodes parent child (home parent) (home child)
    ++ copies_within nodes parent child (backend_9pfs parent) (backend_9pfs child)
    ++ copies_within nodes parent child (backend_console parent) (backend_console child)
    ++ copies_within nodes parent child (backend_vif parent) (backend_vif child)

-- the store with the copies
abbrev pub cloned_store : Nodes → ℕ → ℕ → Nodes
cloned_store nodes parent child = with_nodes nodes (copies nodes parent child)
