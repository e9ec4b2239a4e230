-- What is above a node, below it and within a path.
use Rattle.std.proofs.Common.{◌≡◌, inl, inr, ℕ, ◌+◌, ◌<◌, Bool, true, false, cond, ◌&&◌, List, [], ◌∷◌, length, Option, Some, None, is_some, refl, sym, ap, ◌∙◌, subst, arith, Contains, Vec}
use Rattle.std.specs.Prelude.{not}
use Rattle.std.specs.List.Sorted.{IsStrictlySortedBy}
use Rattle.std.specs.Map.{lookup, values_of}
use Rattle.std.specs.BTreeMap.{is_at}
use Rattle.std.specs.Ordering.{is_eq}
use Rattle.std.specs.FinMap.{insert, get, contains_key, entries, entries_sorted, get-entries, empty, get-empty}
use Rattle.std.specs.FinMap.Entries.{find}
use Rattle.slab.specs.Slab.{Slab, slab_len, Updates}
use Rattle.slab.specs.Slab as slab
use Rattle.slab.proofs.SlabLemmas.{Contains-cons}
use Rattle.neph_base.specs.Path.{is_path}
use Rattle.neph_tree.specs.declared.hints.Hints.{Hints}
use Rattle.neph_tree.specs.declared.node.Node.{Node}
use Rattle.neph_tree.specs.declared.node_slab.NodeSlab.{NodeSlab}
use Rattle.neph_tree.specs.Places.{is_name, is_within, child_path, IsChild}
use Rattle.neph_tree.specs.Growth.{with_added}
use Rattle.neph_tree.specs.Nodes.{Nodes, IsTree, child_names, subtree, without}
use Rattle.neph_tree.specs.Node.{child_of, names_of}
use Rattle.neph_tree.specs.NodeSlab.{nodes_of, keys_of, node_at, AreAlone, IsLinked, IsUp, IsAttached, IsLeaf}
use Rattle.neph_tree.proofs.EntryLemmas.{order, same_nodes, get-where}
use Rattle.neph_tree.proofs.Within.{within_below, within_trans}
use Rattle.neph_tree.proofs.OrderLemmas.{sorted_names}
use Rattle.neph_tree.proofs.NodeLemmas.{has, has_children, has_names, same_names}
use Rattle.neph_tree.proofs.ChildLemmas.{child_longer, path_within}
use Rattle.neph_tree.proofs.LinkLemmas.{key_stands, value_at, same_paths}
use Rattle.neph_tree.proofs.TreeLemmas.{insert_has, insert_is}
use Rattle.neph_tree.proofs.LeafLemmas.{Holds, leaf_added, leaf_removed}
use Rattle.neph_tree.proofs.WriteLemmas.{value_found, path_found}

module _ (t : NodeSlab) (linked : IsLinked t) where
  child_there : (path : List ℕ) (key : ℕ) (node : Node) → Some key ≡ get (keys_of t) path → Some node ≡ node_at t key → (q : List ℕ) → is_some (child_of node q) ≡ (is_name q && is_some (find order (child_path path q) (entries (nodes_of t))))
  child_there path key node found at q =
      let here = path_found t linked path key node found at in
      ap is_some (linked.children key node (sym at) q ∙ ap (λ p. cond (is_name q) (get (keys_of t) (child_path p q)) None) here) ∙ by (is_name q)
    where
      by : (b : Bool) → is_some (cond b (get (keys_of t) (child_path path q)) None) ≡ (b && is_some (find order (child_path path q) (entries (nodes_of t))))
      by true = sym (same_paths t linked (child_path path q)) ∙ ap is_some (get-entries (nodes_of t) (child_path path q))
      by false = refl

  -- the names of the children that the map shows
  pub names_found : (path : List ℕ) (key : ℕ) (node : Node) (names : List (List ℕ)) → Some key ≡ get (keys_of t) path → Some node ≡ node_at t key → names ≡ names_of node → IsStrictlySortedBy order names → Some names ≡ cond (contains_key (nodes_of t) path) (Some (child_names (nodes_of t) path)) None
  names_found path key node names found at is sorted =
      let all = child_names (nodes_of t) path in
      let there : contains_key (nodes_of t) path ≡ true = ap is_some (value_found t linked path key node found at) in
      let same : names ≡ all = same_names names all sorted (sorted_names path (entries (nodes_of t)) (entries_sorted (nodes_of t)))
      (λ q. ap (λ ns. has q ns) is ∙ has_children q node.children.entries ∙ child_there path key node found at q ∙ sym (has_names path q (entries (nodes_of t))))
      in
      ap Some same ∙ ap (λ b. cond b (Some all) None) (sym there)

  pub names_missing : (path : List ℕ) (r : Option ℕ) → r ≡ get (keys_of t) path → r ≡ None → None ≡ cond (contains_key (nodes_of t) path) (Some (child_names (nodes_of t) path)) None
  names_missing path r found none = ap (λ b. cond b (Some (child_names (nodes_of t) path)) None) (sym (same_paths t linked path ∙ ap is_some (sym found ∙ none)))

  -- ---- above
  pub up_found : {path d name : List ℕ} (r : Option ℕ) → IsChild path d name → contains_key (nodes_of t) d ≡ true → r ≡ get (keys_of t) d → IsUp t path r
  up_found {d = d} None child there found = absurd (let bad = sym there ∙ same_paths t linked d ∙ ap is_some (sym found) in cc)
  up_found {path = path} {d = d} {name = name} (Some key) child there found =
      let n = key_stands t linked d key (sym found) in
      let P : List ℕ → Type 0 = λ p. IsChild path p name in
      (n.0, name, n.1, subst P (sym n.2) child)

  pub above_of_node : (key : ℕ) (node : Node) → node_at t key ≡ Some node → (path d name : List ℕ) → path ≡ node.path.items → IsChild path d name → contains_key (nodes_of t) d ≡ true
  above_of_node key node at path d name is child =
      linked.tree.closed d path child.form (ap (λ p. is_within d p) child.whole ∙ within_below d name) (ap (λ p. contains_key (nodes_of t) p) is ∙ ap is_some (value_at t linked key node at))

  -- ---- within
  -- nothing is within a path that isn't there
  none_in : (top place : List ℕ) → ((q : List ℕ) → is_path q ≡ true → is_within place q ≡ is_within top q) → 0 < length place → get (keys_of t) place ≡ None → (q : List ℕ) → is_within top q ≡ true → get (nodes_of t) q ≡ None
  none_in top place same some missing q w = by (get (nodes_of t) q) refl where
    by : (o : Option (List ℕ)) → get (nodes_of t) q ≡ o → get (nodes_of t) q ≡ None
    by None e = e
    by (Some v) e =
        let there : contains_key (nodes_of t) q ≡ true = ap is_some e in
        let form = linked.tree.paths q there in
        let inside = same q form ∙ w in
        absurd (let bad = sym (linked.tree.closed place q (path_within place q some form inside) inside there) ∙ same_paths t linked place ∙ ap is_some missing in cc)

  pub without_none : (top place : List ℕ) → ((q : List ℕ) → is_path q ≡ true → is_within place q ≡ is_within top q) → 0 < length place → get (keys_of t) place ≡ None → without (nodes_of t) top ≡ nodes_of t
  without_none top place same some missing = same_nodes _ _ (λ q. get-where (nodes_of t) (λ p. not (is_within top p)) q ∙ by q (is_within top q) refl) where
    by : (q : List ℕ) (b : Bool) → is_within top q ≡ b → cond (not b) (get (nodes_of t) q) None ≡ get (nodes_of t) q
    by q true e = sym (none_in top place same some missing q e)
    by q false e = refl

  pub subtree_none : (top place : List ℕ) → ((q : List ℕ) → is_path q ≡ true → is_within place q ≡ is_within top q) → 0 < length place → get (keys_of t) place ≡ None → empty {X = List ℕ} {R = order} ≡ subtree (nodes_of t) top
  subtree_none top place same some missing = same_nodes _ _ (λ q. get-empty order q ∙ by q (is_within top q) refl ∙ sym (get-where (nodes_of t) (λ p. is_within top p) q)) where
    by : (q : List ℕ) (b : Bool) → is_within top q ≡ b → None ≡ cond b (get (nodes_of t) q) None
    by q true e = sym (none_in top place same some missing q e)
    by q false e = refl

  pub subtree_same : (top place : List ℕ) → ((q : List ℕ) → is_path q ≡ true → is_within place q ≡ is_within top q) → subtree (nodes_of t) place ≡ subtree (nodes_of t) top
  subtree_same top place same = same_nodes _ _ (λ q. get-where (nodes_of t) (λ p. is_within place p) q ∙ by q (get (nodes_of t) q) refl ∙ sym (get-where (nodes_of t) (λ p. is_within top p) q)) where
    none : (b : Bool) (o : Option (List ℕ)) → o ≡ None → cond b o None ≡ o
    none true o e = refl
    none false o e = sym e

    by : (q : List ℕ) (o : Option (List ℕ)) → get (nodes_of t) q ≡ o → cond (is_within place q) (get (nodes_of t) q) None ≡ cond (is_within top q) (get (nodes_of t) q) None
    by q None e = none (is_within place q) (get (nodes_of t) q) e ∙ sym (none (is_within top q) (get (nodes_of t) q) e)
    by q (Some v) e = ap (λ b. cond b (get (nodes_of t) q) None) (same q (linked.tree.paths q (ap is_some e)))

-- what is within what was taken away is gone with it
pub without_within : (m : Nodes) (top leaf : List ℕ) → is_within top leaf ≡ true → without (without m leaf) top ≡ without m top
without_within m top leaf w = same_nodes _ _ (λ q.
    get-where (without m leaf) (λ p. not (is_within top p)) q ∙ ap (λ o. cond (not (is_within top q)) o None) (get-where m (λ p. not (is_within leaf p)) q) ∙ by q (is_within top q) (is_within leaf q) refl refl ∙ sym (get-where m (λ p. not (is_within top p)) q))
  where
    by : (q : List ℕ) (b d : Bool) → is_within top q ≡ b → is_within leaf q ≡ d → cond (not b) (cond (not d) (get m q) None) None ≡ cond (not b) (get m q) None
    by q true d e f = refl
    by q false false e f = refl
    by q false true e f = absurd (let bad : false ≡ true = sym e ∙ within_trans top leaf q w f in cc)

-- ---- without a leaf
pub alone_removed : (t mid : NodeSlab) (leaf : ℕ) → AreAlone t → Updates t.nodes mid.nodes leaf None → AreAlone mid
alone_removed t mid leaf alone updates = record {
  alone = λ j k a b at bt same. alone.alone j k a b (was j a at) (was k b bt) same;
  paths = λ key node at. alone.paths key node (was key node at);
}
  where
    was : (k : ℕ) (a : Node) → node_at mid k ≡ Some a → node_at t k ≡ Some a
    was k a at = sym (updates.others k (λ same. (let bad = sym at ∙ ap (λ j. node_at mid j) same ∙ updates.changed in absurd cc))) ∙ at

pub up_removed : (t mid : NodeSlab) (leaf : ℕ) (node : Node) (path : List ℕ) (r : Option ℕ) → node_at t leaf ≡ Some node → path ≡ node.path.items → Updates t.nodes mid.nodes leaf None → IsUp t path r → IsUp mid path r
up_removed t mid leaf node path None there is updates up = up
up_removed t mid leaf node path (Some key) there is updates up = (up.0, up.1, updates.others key apart ∙ up.2, up.3) where
  apart : key ≡ leaf → ⊥
  apart same =
      let both : Some up.0 ≡ Some node = sym up.2 ∙ ap (λ k. node_at t k) same ∙ there in
      let one : up.0 ≡ node = cc in
      omega (arith, child_longer up.0.path.items up.1 up.3.one, ap (λ l. length l) up.3.whole, ap (λ l. length l) is, ap (λ (n : Node). length n.path.items) one)

-- a child that is found is listed
pub child_listed : {A : Type 0} (q : List ℕ) (es : List (Vec ℕ A × ℕ)) (key : ℕ) → lookup (is_at (λ k. order q k.items)) es ≡ Some key → Contains (values_of es) key
child_listed q [] key h = absurd (cc)
child_listed q (e ∷ es) key h =
    elim (is_eq (order q e.0.items)) as (λ b. cond b (Some e.1) (lookup (is_at (λ k. order q k.items)) es) ≡ Some key → Contains (e.1 ∷ values_of es) key) [
      | true ↦ λ g. (0, omega arith, (let same : e.1 ≡ key = cc in same))
      | false ↦ λ g. Contains-cons _ _ _ (child_listed q es key g)
    ] h

-- ---- a new leaf
-- hints change nothing
pub linked_hints : (t : NodeSlab) (hints : Hints) → IsLinked t → IsLinked (record t { hints = hints })
linked_hints t hints linked = record { tree = linked.tree; count = linked.count; root = linked.root; alone = linked.alone; children = linked.children }

-- room is made
pub linked_room : (t : NodeSlab) (s : Slab Node) → s ≡ record t.nodes { capacity = s.capacity } → IsLinked t → Holds (record t { nodes = s }) (nodes_of t)
linked_room t s same linked =
    let P : Slab Node → Type 0 = λ n. Holds (record t { nodes = n }) (nodes_of t) in
    subst P (sym same) (record { tree = linked.tree; count = linked.count; root = linked.root; alone = linked.alone; children = linked.children }, refl)

pub up_room : (t : NodeSlab) (s : Slab Node) (path : List ℕ) (r : Option ℕ) → s ≡ record t.nodes { capacity = s.capacity } → IsUp t path r → IsUp (record t { nodes = s }) path r
up_room t s path None same up = up
up_room t s path (Some key) same up = (up.0, up.1, ap (λ n. slab.get n key) same ∙ up.2, up.3)

pub keys_room : (t : NodeSlab) (s : Slab Node) → s ≡ record t.nodes { capacity = s.capacity } → keys_of (record t { nodes = s }) ≡ keys_of t
keys_room t s same = ap (λ n. keys_of (record t { nodes = n })) same

pub above_new : (m : Nodes) (path value d name : List ℕ) → IsTree (insert m path value) → IsChild path d name → contains_key m d ≡ true
above_new m path value d name tree child =
    elim (insert_has m path value d (tree.closed d path child.form (ap (λ p. is_within d p) child.whole ∙ within_below d name) (insert_is m path value))) [
      | inl same ↦ absurd (omega (arith, child_longer d name child.one, ap (λ l. length l) child.whole, ap (λ l. length l) same))
      | inr there ↦ there
    ]

-- what the tree with a node has, which may have been there
pub added_path : (m : Nodes) (path value : List ℕ) → IsTree (with_added m path value) → is_path path ≡ true
added_path m path value tree =
    elim (contains_key m path) as (λ b. contains_key m path ≡ b → IsTree (cond b m (insert m path value)) → is_path path ≡ true) [
      | true ↦ λ e now. now.paths path e
      | false ↦ λ e now. now.paths path (insert_is m path value)
    ] refl tree

pub added_above : (m : Nodes) (path value d name : List ℕ) → IsTree (with_added m path value) → IsChild path d name → contains_key m d ≡ true
added_above m path value d name tree child =
    elim (contains_key m path) as (λ b. contains_key m path ≡ b → IsTree (cond b m (insert m path value)) → contains_key m d ≡ true) [
      | true ↦ λ e now. now.closed d path child.form (ap (λ p. is_within d p) child.whole ∙ within_below d name) e
      | false ↦ λ e now. above_new m path value d name now child
    ] refl tree

pub node_added : (t : NodeSlab) (s last : Slab Node) (mid : NodeSlab) (path value : List ℕ) (key at : ℕ) (node : Node) → IsLinked t → contains_key (nodes_of t) path ≡ false → IsTree (insert (nodes_of t) path value) → s ≡ record t.nodes { capacity = s.capacity }
    → key ≡ s.vacant_key → at ≡ mid.nodes.vacant_key → node.path.items ≡ path → node.value.items ≡ value → IsLeaf node → IsAttached path (Some key) (record t { nodes = s }) mid → node_at mid at ≡ None → Updates mid.nodes last at (Some node) → slab_len last ≡ slab_len mid.nodes + 1
    → Holds (record mid { nodes = last }) (insert (nodes_of t) path value)
node_added t s last mid path value key at node linked missing tree room key_is at_is here holds_value leaf attached vacant updates count =
    let first = record t { nodes = s } in
    let base = linked_room t s room linked in
    let one : at ≡ key = at_is ∙ attached.vacant_key ∙ sym key_is in
    let V : ℕ → Type 0 = λ k. node_at mid k ≡ None in
    let U : ℕ → Type 0 = λ k. Updates mid.nodes last k (Some node) in
    let into : insert (nodes_of first) path node.value.items ≡ insert (nodes_of t) path value = ap (λ m. insert m path node.value.items) base.1 ∙ ap (λ v. insert (nodes_of t) path v) holds_value in
    let Tree : Nodes → Type 0 = λ m. IsTree m in
    let H : Nodes → Type 0 = λ m. Holds (record mid { nodes = last }) m in
    subst H into (leaf_added first mid (record mid { nodes = last }) path key node base.0 (ap (λ m. contains_key m path) base.1 ∙ missing) (subst Tree (sym into) tree) here leaf attached (subst V one vacant) (subst U one updates) refl count)

-- a leaf is gone
pub node_removed : (t : NodeSlab) (s : Slab Node) (new : NodeSlab) (leaf : ℕ) (node other : Node) (path : List ℕ) → IsLinked t → node_at t leaf ≡ Some node → node_at t leaf ≡ Some other → IsLeaf other → path ≡ node.path.items → Updates t.nodes s leaf None → slab_len s + 1 ≡ slab_len t.nodes → IsAttached path None (record t { nodes = s }) new → Holds new (without (nodes_of t) node.path.items)
node_removed t s new leaf node other path linked there same_there is_leaf is updates count attached =
    let both : Some other ≡ Some node = sym same_there ∙ there in
    let one : other ≡ node = cc in
    let L : Node → Type 0 = λ n. IsLeaf n in
    let A : List ℕ → Type 0 = λ p. IsAttached p None (record t { nodes = s }) new in
    leaf_removed t (record t { nodes = s }) new leaf node linked there (subst L one is_leaf) updates (subst A is attached) refl count
