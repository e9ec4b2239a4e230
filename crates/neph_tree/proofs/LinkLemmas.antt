-- The nodes in the slab, and the map of paths that they stand for.
use Rattle.std.proofs.Common.{◌≡◌, inl, inr, ℕ, true, false, cond, List, [], ◌∷◌, map, Option, Some, None, is_some, refl, sym, ap, ◌∙◌, arith, Contains}
use Rattle.std.specs.Ordering.{is_eq}
use Rattle.std.specs.Cmp.Lexicographic.{nat_list_cmp_total}
use Rattle.std.specs.FinMap.{FinMap, get, contains_key, get-from_entries}
use Rattle.std.specs.FinMap.Entries.{find}
use Rattle.slab.specs.Slab.{Slab, entries, slab_len}
use Rattle.slab.specs.Slab as slab
use Rattle.slab.proofs.SlabLemmas.{Contains-cons, Contains-cons_cases, Contains-entries}
use Rattle.neph_tree.specs.declared.node.Node.{Node}
use Rattle.neph_tree.specs.declared.node_slab.NodeSlab.{NodeSlab}
use Rattle.neph_tree.specs.Nodes.{Nodes}
use Rattle.neph_tree.specs.NodeSlab.{map_of, nodes_of, keys_of, node_at, AreAlone, IsLinked}
use Rattle.neph_tree.proofs.EntryLemmas.{order, same_nodes, tied_same}
use Rattle.neph_tree.proofs.NodeLemmas.{self_tied}

abbrev shown_by : {X : Type 0} → (ℕ → Node → X) → List (ℕ × Node) → List (List ℕ × X)
shown_by f es = map (λ e. (e.1.path.items, f e.0 e.1)) es

-- an entry of this path and value
record Listed {X : Type 0} (f : ℕ → Node → X) (es : List (ℕ × Node)) (q : List ℕ) (x : X) : Type 0 where
  key : ℕ
  node : Node
  inside : Contains es (key, node)
  path : node.path.items ≡ q
  value : f key node ≡ x

find_listed : {X : Type 0} (f : ℕ → Node → X) (es : List (ℕ × Node)) (q : List ℕ) (x : X) → find order q (shown_by f es) ≡ Some x → Listed f es q x
find_listed f [] q x h = absurd (cc)
find_listed f (e ∷ es) q x h =
    elim (is_eq (order q e.1.path.items)) as (λ b. is_eq (order q e.1.path.items) ≡ b → cond b (Some (f e.0 e.1)) (find order q (shown_by f es)) ≡ Some x → Listed f (e ∷ es) q x) [
      | true ↦ λ t g. record { key = e.0; node = e.1; inside = (0, omega arith, refl); path = sym (tied_same q e.1.path.items t); value = (let same : f e.0 e.1 ≡ x = cc in same) }
      | false ↦ λ t g. let r = find_listed f es q x g in record { key = r.key; node = r.node; inside = Contains-cons _ _ _ r.inside; path = r.path; value = r.value }
    ] refl h

listed_found : {X : Type 0} (f : ℕ → Node → X) (es : List (ℕ × Node)) (key : ℕ) (node : Node) → Contains es (key, node) → is_some (find order node.path.items (shown_by f es)) ≡ true
listed_found f [] key node c = absurd (omega (arith, c.1))
listed_found f (e ∷ es) key node c =
    elim (is_eq (order node.path.items e.1.path.items)) as (λ b. is_eq (order node.path.items e.1.path.items) ≡ b → is_some (cond b (Some (f e.0 e.1)) (find order node.path.items (shown_by f es))) ≡ true) [
      | true ↦ λ t. refl
      | false ↦ λ t. elim (Contains-cons_cases _ _ _ c) [
        | inl here ↦ absurd (let bad : false ≡ true = sym t ∙ ap (λ d. is_eq (order node.path.items d.1.path.items)) here ∙ self_tied node.path.items in cc)
        | inr there ↦ listed_found f es key node there
      ]
    ] refl

-- a node at this path
pub record Stands (s : Slab Node) (q : List ℕ) : Type 0 where
  pub key : ℕ
  pub node : Node
  pub at : slab.get s key ≡ Some node
  pub path : node.path.items ≡ q

module _ {X : Type 0} (f : ℕ → Node → X) (s : Slab Node) where
  -- what is found is a node's
  pub map_stands : (q : List ℕ) (x : X) → get (map_of f s) q ≡ Some x → (n : Stands s q) × (f n.key n.node ≡ x)
  map_stands q x h =
      let r = find_listed f (entries s) q x (sym (get-from_entries nat_list_cmp_total (shown_by f (entries s)) q) ∙ h) in
      (record { key = r.key; node = r.node; at = (Contains-entries s r.key r.node).0 r.inside; path = r.path }, r.value)

  -- a node's path is found
  pub map_finds : (key : ℕ) (node : Node) → slab.get s key ≡ Some node → is_some (get (map_of f s) node.path.items) ≡ true
  map_finds key node at =
      ap is_some (get-from_entries nat_list_cmp_total (shown_by f (entries s)) node.path.items) ∙ listed_found f (entries s) key node ((Contains-entries s key node).1 at)

  -- a map with what each node has, and with nothing else
  pub map_made : (m : FinMap order X) → ((key : ℕ) (node : Node) → slab.get s key ≡ Some node → get m node.path.items ≡ Some (f key node)) → ((q : List ℕ) (x : X) → get m q ≡ Some x → Stands s q) → map_of f s ≡ m
  map_made m has back = same_nodes _ _ (λ q. by q (get (map_of f s) q) (get m q) refl refl) where
    by : (q : List ℕ) (o p : Option X) → get (map_of f s) q ≡ o → get m q ≡ p → get (map_of f s) q ≡ get m q
    by q (Some x) p e g =
        let r = map_stands q x e in
        let n = r.0 in
        e ∙ sym (ap (λ k. get m k) (sym n.path) ∙ has n.key n.node n.at ∙ ap Some r.1)
    by q None None e g = e ∙ sym g
    by q None (Some x) e g =
        let n = back q x g in
        absurd (let bad = sym (map_finds n.key n.node n.at) ∙ ap (λ k. is_some (get (map_of f s) k)) n.path ∙ ap is_some e in cc)

module _ (t : NodeSlab) (linked : IsLinked t) where
  -- a node that the tree finds
  pub key_stands : (q : List ℕ) (key : ℕ) → get (keys_of t) q ≡ Some key → (node : Node) × (node_at t key ≡ Some node) × (node.path.items ≡ q)
  key_stands q key h =
      let r = map_stands (λ k n. k) t.nodes q key h in
      (r.0.node, ap (λ k. node_at t k) (sym r.1) ∙ r.0.at, r.0.path)

  pub alone_linked : AreAlone t
  alone_linked = record {
    alone = λ j k a b at bt same. (let one : Some j ≡ Some k = sym (linked.alone j a at) ∙ ap (λ q. get (keys_of t) q) same ∙ linked.alone k b bt in let is : j ≡ k = cc in is);
    paths = λ key node at. linked.tree.paths node.path.items (map_finds (λ k n. n.value.items) t.nodes key node at);
  }

  -- each node stands at its path with its value
  pub value_at : (key : ℕ) (node : Node) → node_at t key ≡ Some node → get (nodes_of t) node.path.items ≡ Some node.value.items
  value_at key node at = by (get (nodes_of t) node.path.items) refl where
    by : (o : Option (List ℕ)) → get (nodes_of t) node.path.items ≡ o → get (nodes_of t) node.path.items ≡ Some node.value.items
    by None e = absurd (let bad = sym (map_finds (λ k n. n.value.items) t.nodes key node at) ∙ ap is_some e in cc)
    by (Some x) e =
        let r = map_stands (λ k n. n.value.items) t.nodes node.path.items x e in
        let same = alone_linked.alone r.0.key key r.0.node node r.0.at at r.0.path in
        let one : Some r.0.node ≡ Some node = sym r.0.at ∙ ap (λ k. node_at t k) same ∙ at in
        let is : r.0.node ≡ node = cc in
        e ∙ ap Some (sym r.1 ∙ ap (λ n. n.value.items) is)

  pub key_of_value : (q v : List ℕ) → get (nodes_of t) q ≡ Some v → (key : ℕ) × (get (keys_of t) q ≡ Some key)
  key_of_value q v h =
      let n = (map_stands (λ k n. n.value.items) t.nodes q v h).0 in
      (n.key, ap (λ p. get (keys_of t) p) (sym n.path) ∙ linked.alone n.key n.node n.at)

  -- a path is there where it has a key
  pub same_paths : (q : List ℕ) → contains_key (nodes_of t) q ≡ is_some (get (keys_of t) q)
  same_paths q = by (get (nodes_of t) q) (get (keys_of t) q) refl refl where
    by : (o : Option (List ℕ)) (p : Option ℕ) → get (nodes_of t) q ≡ o → get (keys_of t) q ≡ p → is_some o ≡ is_some p
    by (Some v) (Some k) e g = refl
    by None None e g = refl
    by (Some v) None e g = absurd (let k = key_of_value q v e in let bad = sym k.1 ∙ g in cc)
    by None (Some k) e g =
        let n = key_stands q k g in
        absurd (let bad = sym (value_at k n.0 n.1) ∙ ap (λ p. get (nodes_of t) p) n.2 ∙ e in cc)

-- a tree of which the keys and the values are known
pub record LinkedAs (t : NodeSlab) (keys : FinMap order ℕ) (nodes : Nodes) : Type 0 where
  pub by_key : keys_of t ≡ keys
  pub by_path : nodes_of t ≡ nodes

pub linked_as : (t : NodeSlab) (keys : FinMap order ℕ) (nodes : Nodes) → ((key : ℕ) (node : Node) → node_at t key ≡ Some node → (get keys node.path.items ≡ Some key) × (get nodes node.path.items ≡ Some node.value.items))
    → ((q : List ℕ) (key : ℕ) → get keys q ≡ Some key → (node : Node) × (node_at t key ≡ Some node) × (node.path.items ≡ q)) → ((q v : List ℕ) → get nodes q ≡ Some v → is_some (get keys q) ≡ true) → LinkedAs t keys nodes
linked_as t keys nodes has back there = record {
  by_key = map_made (λ k n. k) t.nodes keys (λ key node at. (has key node at).0) stands;
  by_path = map_made (λ k n. n.value.items) t.nodes nodes (λ key node at. (has key node at).1) (λ q v h. by q (get keys q) refl (there q v h));
}
  where
    stands : (q : List ℕ) (key : ℕ) → get keys q ≡ Some key → Stands t.nodes q
    stands q key h = let n = back q key h in record { key = key; node = n.0; at = n.1; path = n.2 }

    by : (q : List ℕ) (o : Option ℕ) → get keys q ≡ o → is_some o ≡ true → Stands t.nodes q
    by q (Some key) e h = stands q key e
    by q None e h = absurd (cc)
