-- A write at one key of the slab.
use Rattle.std.proofs.Common.{◌≡◌, inl, inr, ℕ, zero, suc, ◌+◌, ◌<◌, Bool, true, false, cond, List, [], map, get_or, count_by, Option, Some, None, is_some, refl, sym, ap, ◌∙◌, subst, arith}
use Rattle.std.specs.Prelude.{nat_eq}
use Rattle.std.specs.Cmp.Lexicographic.{nat_list_cmp_total, pointwise}
use Rattle.std.specs.Ordering.{eq_by_cmp}
use Rattle.std.proofs.lemmas.Bool.{cases_eq}
use Rattle.std.proofs.lemmas.List.Sums.{sum_by-set}
use Rattle.std.specs.Map.{lookup}
use Rattle.std.specs.BTreeMap.{is_at}
use Rattle.std.specs.FinMap.{from_entries, get, contains_key, insert, len, empty, empty_of_len, get-empty, len-empty, get-insert, len-insert}
use Rattle.slab.specs.Slab as slab
use Rattle.slab.specs.Slab.{Slab, slab_len, ContainsKey, with_value, Updates, entries_from}
use Rattle.slab.proofs.SlabLemmas.{ContainsKey-within, Updates-with_value}
use Rattle.neph_tree.specs.declared.node.Node.{Node}
use Rattle.neph_tree.specs.declared.node_slab.NodeSlab.{NodeSlab}
use Rattle.neph_tree.specs.Places.{root, is_name, is_within, child_path, IsChild}
use Rattle.neph_tree.specs.Nodes.{Nodes, IsTree, subtree, without}
use Rattle.neph_tree.specs.Node.{child_of, IsRelinked}
use Rattle.neph_tree.specs.NodeSlab.{nodes_of, keys_of, node_at, stands_at, AreAlone, IsLinked, IsUp, IsAttached}
use Rattle.neph_tree.proofs.EntryLemmas.{order, none_there, get-where, tied_same}
use Rattle.neph_tree.proofs.Within.{same_bytes, bytes_same, within_self, within_below}
use Rattle.neph_tree.proofs.HangLemmas.{attached_below}
use Rattle.neph_tree.proofs.LinkLemmas.{key_stands, alone_linked, value_at, same_paths, linked_as}
use Rattle.neph_tree.proofs.LeafLemmas.{Holds, holds, got_here, got_else}
use Rattle.neph_tree.proofs.SearchLemmas.{child_stands}
use Rattle.neph_tree.proofs.ChildLemmas.{not_within_child}
use Rattle.neph_tree.proofs.CountLemmas.{count_cut}
use Rattle.neph_tree.proofs.TreeLemmas.{IsTree-with_node, IsTree-empty, with_node_there, without_keeps}

pub len_with_value : (s : Slab Node) (key : ℕ) (value : Node) → ContainsKey s key → slab_len (with_value s key value) ≡ slab_len s
len_with_value s key value present =
    let one : ◌≡◌ {A = ℕ} (cond (is_some (slab.get s key)) 1 0) 1 = ap (λ b. cond b 1 0) present in
    omega (arith, one, sum_by-set (λ o. cond (is_some o) 1 0) s.slots key (Some value) None (ContainsKey-within s key present))

-- a child is linked or unlinked at the node above
pub hung_below : (path name : List ℕ) (to : Option ℕ) (t : NodeSlab) (up : ℕ) (a b : Node) → AreAlone t → IsUp t path (Some up) → Some a ≡ node_at t up → ((directory n : List ℕ) → IsChild path directory n → name ≡ n) → IsRelinked a b name to → IsAttached path to t (record t { nodes = with_value t.nodes up b })
hung_below path name to t up a b alone u at named linked =
    let both : Some u.0 ≡ Some a = sym u.2 ∙ sym at in
    let one : u.0 ≡ a = cc in
    let P : Node → Type 0 = λ n. IsChild path n.path.items u.1 in
    let R : List ℕ → Type 0 = λ n. IsRelinked a b n to in
    let present : is_some (node_at t up) ≡ true = ap is_some (sym at) in
    attached_below path u.1 to t (record t { nodes = with_value t.nodes up b }) up a b alone (sym at) (subst P one u.3) (subst R (named u.0.path.items u.1 u.3) linked) (Updates-with_value t.nodes up b present) refl (len_with_value t.nodes up b present) refl refl

-- a node gets another value
pub value_replaced : (t : NodeSlab) (key : ℕ) (a b : Node) → IsLinked t → node_at t key ≡ Some a → b.path ≡ a.path → b.children ≡ a.children → Holds (record t { nodes = with_value t.nodes key b }) (insert (nodes_of t) a.path.items b.value.items)
value_replaced t key a b linked at same_path same_children =
    holds new (keys_of t) (insert (nodes_of t) a.path.items b.value.items) (linked_as new (keys_of t) (insert (nodes_of t) a.path.items b.value.items) has back there) tree (len_with_value t.nodes key b present ∙ linked.count ∙ sym more) linked.root (λ k x h. (has k x h).0) children
  where
    new : NodeSlab
    new = record t { nodes = with_value t.nodes key b }

    present : is_some (node_at t key) ≡ true
    present = ap is_some at

    updates : Updates t.nodes (with_value t.nodes key b) key (Some b)
    updates = Updates-with_value t.nodes key b (ap is_some at)

    itself : contains_key (nodes_of t) a.path.items ≡ true
    itself = ap is_some (value_at t linked key a at)

    more : len (insert (nodes_of t) a.path.items b.value.items) ≡ len (nodes_of t)
    more = len-insert nat_list_cmp_total (nodes_of t) a.path.items b.value.items ∙ ap (λ c. cond c (len (nodes_of t)) (len (nodes_of t) + 1)) (ap is_some (value_at t linked key a at))

    tree : IsTree (insert (nodes_of t) a.path.items b.value.items)
    tree =
        let Tree : Nodes → Type 0 = λ m. IsTree m in
        let form = (alone_linked t linked).paths key a at in
        subst Tree (with_node_there (nodes_of t) a.path.items b.value.items linked.tree form (ap is_some (value_at t linked key a at))) (IsTree-with_node (nodes_of t) a.path.items b.value.items linked.tree form)

    -- the node at the key is the new one, and each other stays
    at_key : (k : ℕ) (x : Node) → k ≡ key → slab.get (with_value t.nodes key b) k ≡ Some x → b ≡ x
    at_key k x same h = let both : Some b ≡ Some x = sym (Updates-with_value t.nodes key b (ap is_some at)).changed ∙ ap (λ j. slab.get (with_value t.nodes key b) j) (sym same) ∙ h in let one : b ≡ x = cc in one

    at_other : (k : ℕ) (x : Node) → (k ≡ key → ⊥) → slab.get (with_value t.nodes key b) k ≡ Some x → node_at t k ≡ Some x
    at_other k x apart h = sym ((Updates-with_value t.nodes key b (ap is_some at)).others k apart) ∙ h

    has : (k : ℕ) (x : Node) → slab.get (with_value t.nodes key b) k ≡ Some x → (get (keys_of t) x.path.items ≡ Some k) × (get (insert (nodes_of t) a.path.items b.value.items) x.path.items ≡ Some x.value.items)
    has k x h =
        elim (cases_eq k key) [
          | inl same ↦
              let one = at_key k x same h in
              let is : x.path.items ≡ a.path.items = ap (λ n. n.path.items) (sym one) ∙ ap (λ p. p.items) same_path in
              (ap (λ p. get (keys_of t) p) is ∙ linked.alone key a at ∙ ap Some (sym same), got_here (nodes_of t) a.path.items b.value.items x.path.items is ∙ ap (λ n. Some n.value.items) one)
          | inr differs ↦
              let was = at_other k x differs h in
              (linked.alone k x was, got_else (nodes_of t) a.path.items b.value.items x.path.items (λ same. differs ((alone_linked t linked).alone k key x a was at same)) ∙ value_at t linked k x was)
        ]

    back : (q : List ℕ) (k : ℕ) → get (keys_of t) q ≡ Some k → (x : Node) × (slab.get (with_value t.nodes key b) k ≡ Some x) × (x.path.items ≡ q)
    back q k h =
        let n = key_stands t linked q k h in
        elim (cases_eq k key) [
          | inl same ↦
              let both : Some a ≡ Some n.0 = sym at ∙ ap (λ j. node_at t j) (sym same) ∙ n.1 in
              let one : a ≡ n.0 = cc in
              (b, ap (λ j. slab.get (with_value t.nodes key b) j) same ∙ (Updates-with_value t.nodes key b (ap is_some at)).changed, ap (λ p. p.items) same_path ∙ ap (λ (m : Node). m.path.items) one ∙ n.2)
          | inr differs ↦ (n.0, (Updates-with_value t.nodes key b (ap is_some at)).others k differs ∙ n.1, n.2)
        ]

    there : (q v : List ℕ) → get (insert (nodes_of t) a.path.items b.value.items) q ≡ Some v → is_some (get (keys_of t) q) ≡ true
    there q v h = by (eq_by_cmp order q a.path.items) refl where
      by : (c : Bool) → eq_by_cmp order q a.path.items ≡ c → is_some (get (keys_of t) q) ≡ true
      by true e = ap (λ p. is_some (get (keys_of t) p)) (tied_same q a.path.items e) ∙ ap is_some (linked.alone key a at)
      by false e = sym (same_paths t linked q) ∙ ap is_some (sym (get-insert nat_list_cmp_total (nodes_of t) a.path.items b.value.items q ∙ ap (λ c. cond c (Some b.value.items) (get (nodes_of t) q)) e) ∙ h)

    children : (k : ℕ) (x : Node) → slab.get (with_value t.nodes key b) k ≡ Some x → (name : List ℕ) → child_of x name ≡ cond (is_name name) (get (keys_of t) (child_path x.path.items name)) None
    children k x h name =
        elim (cases_eq k key) [
          | inl same ↦
              let one = at_key k x same h in
              ap (λ n. child_of n name) (sym one) ∙ ap (λ m. lookup (is_at (λ k. order name k.items)) m.entries) same_children ∙ linked.children key a at name ∙ ap (λ p. cond (is_name name) (get (keys_of t) (child_path p.items name)) None) (sym same_path) ∙ ap (λ n. cond (is_name name) (get (keys_of t) (child_path n.path.items name)) None) one
          | inr differs ↦ linked.children k x (at_other k x differs h) name
        ]

-- no node at all
pub linked_empty : (t : NodeSlab) → t.nodes.slots ≡ [] → t.root ≡ None → IsLinked t
linked_empty t none no_root =
    let nodes : nodes_of t ≡ empty = ap (λ sl. from_entries (map (λ e. (e.1.path.items, e.1.value.items)) (entries_from 0 sl))) none in
    let keys : keys_of t ≡ empty = ap (λ sl. from_entries (map (λ e. (e.1.path.items, e.0)) (entries_from 0 sl))) none in
    let nothing : (key : ℕ) → node_at t key ≡ None = λ key. ap (λ sl. get_or sl key None) none in
    let Tree : Nodes → Type 0 = λ m. IsTree m in
    record {
      tree = subst Tree (sym nodes) IsTree-empty;
      count = ap (λ sl. count_by is_some sl) none ∙ sym (ap (λ n. len n) nodes ∙ len-empty order (List ℕ));
      root = no_root ∙ sym (ap (λ k. get k root) keys ∙ get-empty order root);
      alone = λ key node at. absurd (let bad = sym at ∙ nothing key in cc);
      children = λ key node at name. absurd (let bad = sym at ∙ nothing key in cc);
    }

-- the path of the node at a key
abbrev pub path_in : Option Node → List ℕ
path_in None = []
path_in (Some node) = node.path.items

abbrev pub path_at : NodeSlab → ℕ → List ℕ
path_at t key = path_in (node_at t key)

-- ---- what a search has found
module _ (t : NodeSlab) (linked : IsLinked t) where
  pub found_none : (path : List ℕ) (r : Option ℕ) → ((key : ℕ) → get (keys_of t) path ≡ Some key → r ≡ Some key) → r ≡ None → None ≡ get (keys_of t) path
  found_none path r found none = by (get (keys_of t) path) refl where
    by : (o : Option ℕ) → get (keys_of t) path ≡ o → None ≡ get (keys_of t) path
    by None e = sym e
    by (Some key) e = absurd (let bad = sym none ∙ found key e in cc)

  pub found_there : (path : List ℕ) (key : ℕ) → stands_at (node_at t key) path ≡ true → Some key ≡ get (keys_of t) path
  found_there path key h = by (node_at t key) refl h where
    by : (o : Option Node) → node_at t key ≡ o → stands_at o path ≡ true → Some key ≡ get (keys_of t) path
    by None e g = absurd (cc)
    by (Some node) e g = sym (linked.alone key node e) ∙ ap (λ p. get (keys_of t) p) (bytes_same node.path.items path g)

  pub found_other : (path : List ℕ) (key : ℕ) → ((k : ℕ) → get (keys_of t) path ≡ Some k → Some key ≡ Some k) → stands_at (node_at t key) path ≡ false → None ≡ get (keys_of t) path
  found_other path key found h = by (get (keys_of t) path) refl where
    by : (o : Option ℕ) → get (keys_of t) path ≡ o → None ≡ get (keys_of t) path
    by None e = sym e
    by (Some k) e =
        let both = found k e in
        let one : key ≡ k = cc in
        let n = key_stands t linked path k e in
        let is : stands_at (node_at t key) path ≡ true = ap (λ j. stands_at (node_at t j) path) one ∙ ap (λ o. stands_at o path) n.1 ∙ ap (λ p. pointwise nat_eq p path) n.2 ∙ same_bytes path in
        absurd (let bad : true ≡ false = sym is ∙ h in cc)

  -- the value of the node that was found
  pub value_found : (path : List ℕ) (key : ℕ) (node : Node) → Some key ≡ get (keys_of t) path → Some node ≡ node_at t key → get (nodes_of t) path ≡ Some node.value.items
  value_found path key node found at =
      let n = key_stands t linked path key (sym found) in
      let both : Some n.0 ≡ Some node = sym n.1 ∙ sym at in
      let one : n.0 ≡ node = cc in
      ap (λ p. get (nodes_of t) p) (sym n.2) ∙ value_at t linked key n.0 n.1 ∙ ap (λ m. Some m.value.items) one

  pub path_found : (path : List ℕ) (key : ℕ) (node : Node) → Some key ≡ get (keys_of t) path → Some node ≡ node_at t key → node.path.items ≡ path
  path_found path key node found at =
      let n = key_stands t linked path key (sym found) in
      let both : Some n.0 ≡ Some node = sym n.1 ∙ sym at in
      let one : n.0 ≡ node = cc in
      ap (λ (m : Node). m.path.items) (sym one) ∙ n.2

  pub always_found : (path : List ℕ) (key : ℕ) → Some key ≡ get (keys_of t) path → is_some (node_at t key) ≡ true
  always_found path key found = ap is_some (key_stands t linked path key (sym found)).1

  pub value_missing : (path : List ℕ) → get (keys_of t) path ≡ None → get (nodes_of t) path ≡ None
  value_missing path none = none_there _ (same_paths t linked path ∙ ap is_some none)

  -- ---- the way down ends
  some_len : (m : Nodes) (q : List ℕ) → contains_key m q ≡ true → 0 < len m
  some_len m q h = by (len m) refl where
    by : (n : ℕ) → len m ≡ n → 0 < len m
    by zero e = absurd (let bad = sym h ∙ ap (λ x. contains_key x q) (empty_of_len m e) ∙ ap is_some (get-empty order q) in cc)
    by (suc n) e = omega (arith, e)

  -- fewer nodes are within a child
  pub child_fewer : (key : ℕ) (node : Node) (name : List ℕ) (child : ℕ) → node_at t key ≡ Some node → child_of node name ≡ Some child → len (subtree (nodes_of t) (path_at t child)) < len (subtree (nodes_of t) (path_at t key))
  child_fewer key node name child at found =
      let b = child_stands t linked key node name child at found in
      let m = nodes_of t in
      let q = node.path.items in
      let z = child_path q name in
      let here : path_at t key ≡ q = ap (λ o. path_in o) at in
      let below : path_at t child ≡ z = ap (λ o. path_in o) b.1 ∙ b.3 in
      let left : get (subtree (without m z) q) q ≡ get m q = get-where (without m z) (λ p. is_within q p) q ∙ ap (λ c. cond c (get (without m z) q) None) (within_self q) ∙ without_keeps m z q (not_within_child q name b.2) in
      let some = some_len (subtree (without m z) q) q (ap is_some (left ∙ value_at t linked key node at)) in
      omega (arith, some, count_cut m q z (within_below q name), ap (λ p. len (subtree m p)) here, ap (λ p. len (subtree m p)) below)
