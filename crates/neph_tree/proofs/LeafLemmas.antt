-- A leaf is added or taken away.
use Rattle.std.proofs.Common.{◌≡◌, inl, inr, ℕ, ◌+◌, Bool, true, false, cond, ◌&&◌, List, length, Option, Some, None, is_some, refl, sym, ap, ◌∙◌, subst, arith}
use Rattle.std.specs.Prelude.{not}
use Rattle.std.specs.Ordering.{eq_by_cmp}
use Rattle.std.proofs.lemmas.Bool.{cases_eq}
use Rattle.std.specs.Cmp.Lexicographic.{nat_list_cmp_total}
use Rattle.std.specs.FinMap.{FinMap, get, contains_key, insert, retain_keys, len, get-insert, len-insert}
use Rattle.slab.specs.Slab.{slab_len, Updates}
use Rattle.neph_base.specs.Path.{is_path}
use Rattle.neph_tree.specs.declared.node.Node.{Node}
use Rattle.neph_tree.specs.declared.node_slab.NodeSlab.{NodeSlab}
use Rattle.neph_tree.specs.Places.{root, is_name, is_within, child_path}
use Rattle.neph_tree.specs.Nodes.{Nodes, IsTree, without}
use Rattle.neph_tree.specs.Node.{child_of}
use Rattle.neph_tree.specs.NodeSlab.{nodes_of, keys_of, node_at, IsLinked, IsHung, IsAttached, IsLeaf}
use Rattle.neph_tree.proofs.EntryLemmas.{order, same_nodes, get-where, tied_same, none_there}
use Rattle.neph_tree.proofs.Within.{within_same, within_below}
use Rattle.neph_tree.proofs.ChildLemmas.{child_longer, child_above}
use Rattle.neph_tree.proofs.HangLemmas.{apart_test, same_test}
use Rattle.neph_tree.proofs.LinkLemmas.{key_stands, alone_linked, value_at, same_paths, LinkedAs, linked_as}
use Rattle.neph_tree.proofs.TreeLemmas.{IsTree-without, insert_is}

-- ---- an insert
pub got_here : {X : Type 0} (m : FinMap order X) (k : List ℕ) (v : X) (q : List ℕ) → q ≡ k → get (insert m k v) q ≡ Some v
got_here m k v q same = get-insert nat_list_cmp_total m k v q ∙ ap (λ b. cond b (Some v) (get m q)) (same_test q k same)

pub got_else : {X : Type 0} (m : FinMap order X) (k : List ℕ) (v : X) (q : List ℕ) → (q ≡ k → ⊥) → get (insert m k v) q ≡ get m q
got_else m k v q apart = get-insert nat_list_cmp_total m k v q ∙ ap (λ b. cond b (Some v) (get m q)) (apart_test q k apart)

pub some_of : {X : Type 0} (o : Option X) → is_some o ≡ true → (x : X) × (o ≡ Some x)
some_of (Some x) e = (x, refl)
some_of None e = absurd (cc)

-- it is a tree of these keys and values
abbrev pub Holds : NodeSlab → Nodes → Type 0
Holds t nodes = IsLinked t × (nodes_of t ≡ nodes)

pub holds : (t : NodeSlab) (keys : FinMap order ℕ) (nodes : Nodes) → LinkedAs t keys nodes → IsTree nodes → slab_len t.nodes ≡ len nodes → t.root ≡ get keys root → ((key : ℕ) (node : Node) → node_at t key ≡ Some node → get keys node.path.items ≡ Some key)
    → ((key : ℕ) (node : Node) → node_at t key ≡ Some node → (name : List ℕ) → child_of node name ≡ cond (is_name name) (get keys (child_path node.path.items name)) None) → Holds t nodes
holds t keys nodes known tree count at_root alone children =
    let Tree : Nodes → Type 0 = λ n. IsTree n in (
      record {
        tree = subst Tree (sym known.by_path) tree;
        count = count ∙ ap (λ n. len n) (sym known.by_path);
        root = at_root ∙ ap (λ k. get k root) (sym known.by_key);
        alone = λ key node at. ap (λ k. get k node.path.items) known.by_key ∙ alone key node at;
        children = λ key node at name. children key node at name ∙ ap (λ k. cond (is_name name) (get k (child_path node.path.items name)) None) (sym known.by_key);
      },
      known.by_path,
    )

-- a node that was there before, and what it was
record Was (t : NodeSlab) (path : List ℕ) (to : Option ℕ) (key : ℕ) (now : Node) : Type 0 where
  before : Node
  at : node_at t key ≡ Some before
  hung : IsHung path to before now

was_there : (t mid : NodeSlab) (path : List ℕ) (to : Option ℕ) (key : ℕ) (now : Node) → IsAttached path to t mid → node_at mid key ≡ Some now → Was t path to key now
was_there t mid path to key now attached at = by (node_at t key) refl where
  by : (o : Option Node) → node_at t key ≡ o → Was t path to key now
  by None none = absurd (let bad = sym at ∙ attached.back key none in cc)
  by (Some a) there =
      let b = attached.kept key a there in
      let both : Some b.0 ≡ Some now = sym b.1 ∙ at in
      let one : b.0 ≡ now = cc in
      let P : Node → Type 0 = λ n. IsHung path to a n in
      record { before = a; at = there; hung = subst P one b.2 }

module _ (t mid new : NodeSlab) (path : List ℕ) (key : ℕ) (node : Node) (linked : IsLinked t) (missing : contains_key (nodes_of t) path ≡ false) (tree : IsTree (insert (nodes_of t) path node.value.items)) (here : node.path.items ≡ path) (leaf : IsLeaf node)
    (attached : IsAttached path (Some key) t mid) (vacant : node_at mid key ≡ None) (updates : Updates mid.nodes new.nodes key (Some node)) where
  added_keys : FinMap order ℕ
  added_keys = insert (keys_of t) path key

  added_nodes : Nodes
  added_nodes = insert (nodes_of t) path node.value.items

  key_missing : get (keys_of t) path ≡ None
  key_missing = none_there _ (sym (same_paths t linked path) ∙ missing)

  vacant_before : (a : Node) → node_at t key ≡ Some a → ⊥
  vacant_before a at = let b = attached.kept key a at in absurd (let bad = sym vacant ∙ b.1 in cc)

  before : (k : ℕ) (x : Node) → (k ≡ key → ⊥) → node_at new k ≡ Some x → Was t path (Some key) k x
  before k x apart at = was_there t mid path (Some key) k x attached (sym (updates.others k apart) ∙ at)

  not_path : (k : ℕ) (a : Node) → node_at t k ≡ Some a → a.path.items ≡ path → ⊥
  not_path k a at same = absurd (let bad = sym (ap is_some (value_at t linked k a at)) ∙ ap (λ p. contains_key (nodes_of t) p) same ∙ missing in cc)

  new_node : (x : Node) (k : ℕ) → k ≡ key → node_at new k ≡ Some x → node ≡ x
  new_node x k same at = let both : Some node ≡ Some x = sym updates.changed ∙ ap (λ j. node_at new j) (sym same) ∙ at in let one : node ≡ x = cc in one

  added_has : (k : ℕ) (x : Node) → node_at new k ≡ Some x → (get (insert (keys_of t) path key) x.path.items ≡ Some k) × (get (insert (nodes_of t) path node.value.items) x.path.items ≡ Some x.value.items)
  added_has k x at =
      elim (cases_eq k key) [
        | inl same ↦
            let one = new_node x k same at in
            let is : x.path.items ≡ path = ap (λ n. n.path.items) (sym one) ∙ here in
            (got_here (keys_of t) path key x.path.items is ∙ ap Some (sym same), got_here (nodes_of t) path node.value.items x.path.items is ∙ ap (λ n. Some n.value.items) one)
        | inr differs ↦
            let w = before k x differs at in
            let is : x.path.items ≡ w.before.path.items = ap (λ p. p.items) w.hung.path in
            let out : x.path.items ≡ path → ⊥ = λ e. not_path k w.before w.at (sym is ∙ e) in (
              got_else (keys_of t) path key x.path.items out ∙ ap (λ p. get (keys_of t) p) is ∙ linked.alone k w.before w.at,
              got_else (nodes_of t) path node.value.items x.path.items out ∙ ap (λ p. get (nodes_of t) p) is ∙ value_at t linked k w.before w.at ∙ ap (λ v. Some v.items) (sym w.hung.value),
            )
      ]

  added_back : (q : List ℕ) (k : ℕ) → get (insert (keys_of t) path key) q ≡ Some k → (x : Node) × (node_at new k ≡ Some x) × (x.path.items ≡ q)
  added_back q k h = by (eq_by_cmp order q path) refl where
    by : (b : Bool) → eq_by_cmp order q path ≡ b → (x : Node) × (node_at new k ≡ Some x) × (x.path.items ≡ q)
    by true e =
        let both : Some key ≡ Some k = sym (got_here (keys_of t) path key q (tied_same q path e)) ∙ h in
        let one : key ≡ k = cc in
        (node, ap (λ j. node_at new j) (sym one) ∙ updates.changed, here ∙ sym (tied_same q path e))
    by false e =
        let old : get (keys_of t) q ≡ Some k = sym (got_else (keys_of t) path key q (λ same. (let bad : true ≡ false = sym (same_test q path same) ∙ e in absurd cc))) ∙ h in
        let a = key_stands t linked q k old in
        let b = attached.kept k a.0 a.1 in
        (b.0, updates.others k (λ same. vacant_before a.0 (ap (λ j. node_at t j) (sym same) ∙ a.1)) ∙ b.1, ap (λ p. p.items) b.2.path ∙ a.2)

  added_there : (q v : List ℕ) → get (insert (nodes_of t) path node.value.items) q ≡ Some v → is_some (get (insert (keys_of t) path key) q) ≡ true
  added_there q v h = by (eq_by_cmp order q path) refl where
    by : (b : Bool) → eq_by_cmp order q path ≡ b → is_some (get (insert (keys_of t) path key) q) ≡ true
    by true e = ap is_some (got_here (keys_of t) path key q (tied_same q path e))
    by false e =
        let out : q ≡ path → ⊥ = λ same. (let bad : true ≡ false = sym (same_test q path same) ∙ e in absurd cc) in
        ap is_some (got_else (keys_of t) path key q out) ∙ sym (same_paths t linked q) ∙ ap is_some (sym (got_else (nodes_of t) path node.value.items q out) ∙ h)

  is_path_there : is_path path ≡ true
  is_path_there = tree.paths path (insert_is (nodes_of t) path node.value.items)

  -- nothing stood below the new node
  no_children : (name : List ℕ) → is_name name ≡ true → get (insert (keys_of t) path key) (child_path path name) ≡ None
  no_children name h =
      got_else (keys_of t) path key (child_path path name) (λ same. omega (arith, child_longer path name h, ap (λ l. length l) same)) ∙ by (get (keys_of t) (child_path path name)) refl
    where
      by : (o : Option ℕ) → get (keys_of t) (child_path path name) ≡ o → get (keys_of t) (child_path path name) ≡ None
      by None e = e
      by (Some k) e =
          let there : contains_key (nodes_of t) (child_path path name) ≡ true = same_paths t linked (child_path path name) ∙ ap is_some e in
          absurd (let bad = sym missing ∙ linked.tree.closed path (child_path path name) is_path_there (within_below path name) there in cc)

  added_children : (k : ℕ) (x : Node) → node_at new k ≡ Some x → (name : List ℕ) → child_of x name ≡ cond (is_name name) (get (insert (keys_of t) path key) (child_path x.path.items name)) None
  added_children k x at name =
      elim (cases_eq k key) [
        | inl same ↦
            let one = new_node x k same at in
            let is : x.path.items ≡ path = ap (λ n. n.path.items) (sym one) ∙ here in
            ap (λ n. child_of n name) (sym one) ∙ leaf name ∙ fresh (is_name name) refl ∙ ap (λ p. cond (is_name name) (get (insert (keys_of t) path key) (child_path p name)) None) (sym is)
        | inr differs ↦
            let w = before k x differs at in
            let z = child_path w.before.path.items name in
            w.hung.children name ∙ ap (λ o. cond (is_name name && eq_by_cmp order z path) (Some key) o) (linked.children k w.before w.at name) ∙ old z (is_name name) (eq_by_cmp order z path)
            ∙ ap (λ o. cond (is_name name) o None) (sym (get-insert nat_list_cmp_total (keys_of t) path key z)) ∙ ap (λ p. cond (is_name name) (get (insert (keys_of t) path key) (child_path p name)) None) (sym (ap (λ p. p.items) w.hung.path))
      ]
    where
      fresh : (b : Bool) → is_name name ≡ b → None ≡ cond b (get (insert (keys_of t) path key) (child_path path name)) None
      fresh true e = sym (no_children name e)
      fresh false e = refl

      old : (z : List ℕ) (a b : Bool) → cond (a && b) (Some key) (cond a (get (keys_of t) z) None) ≡ cond a (cond b (Some key) (get (keys_of t) z)) None
      old z true true = refl
      old z true false = refl
      old z false b = refl

  pub leaf_added : new.root ≡ mid.root → slab_len new.nodes ≡ slab_len mid.nodes + 1 → Holds new (insert (nodes_of t) path node.value.items)
  leaf_added same_root count =
      holds new (insert (keys_of t) path key) (insert (nodes_of t) path node.value.items) (linked_as new _ _ added_has added_back added_there) tree
      (
      let more : len (insert (nodes_of t) path node.value.items) ≡ len (nodes_of t) + 1 = len-insert nat_list_cmp_total (nodes_of t) path node.value.items ∙ ap (λ b. cond b (len (nodes_of t)) (len (nodes_of t) + 1)) missing in
      omega (arith, count, attached.count, linked.count, more)
      ) (same_root ∙ attached.root ∙ ap (λ o. cond (eq_by_cmp order root path) (Some key) o) linked.root ∙ sym (get-insert nat_list_cmp_total (keys_of t) path key root)) (λ k x at. (added_has k x at).0) added_children

module _ (t mid new : NodeSlab) (leaf : ℕ) (node : Node) (linked : IsLinked t) (there : node_at t leaf ≡ Some node) (is_leaf : IsLeaf node) (updates : Updates t.nodes mid.nodes leaf None) (attached : IsAttached node.path.items None mid new) where
  -- nothing stands below the leaf
  none_below : (q : List ℕ) → is_within node.path.items q ≡ true → (q ≡ node.path.items → ⊥) → contains_key (nodes_of t) q ≡ false
  none_below q w apart = by (contains_key (nodes_of t) q) refl where
    by : (b : Bool) → contains_key (nodes_of t) q ≡ b → b ≡ false
    by false e = refl
    by true e =
        let path = node.path.items in
        absurd (elim (child_above path q ((alone_linked t linked).paths leaf node there) (linked.tree.paths q e) w) [
          | inl same ↦ apart same
          | inr c ↦
              let z = child_path path c.child in
              let key = some_of (get (keys_of t) z) (sym (same_paths t linked z) ∙ linked.tree.closed z q c.path c.within e) in
              (let bad : None ≡ Some key.0 = sym (is_leaf c.child) ∙ linked.children leaf node there c.child ∙ ap (λ b. cond b (get (keys_of t) z) None) c.named ∙ key.1 in absurd cc)
        ])

  none_key : (q : List ℕ) → is_within node.path.items q ≡ true → (q ≡ node.path.items → ⊥) → get (keys_of t) q ≡ None
  none_key q w apart = none_there _ (sym (same_paths t linked q) ∙ none_below q w apart)

  left_keys : FinMap order ℕ
  left_keys = retain_keys (keys_of t) (λ q. not (is_within node.path.items q))

  left_at : (q : List ℕ) → get (retain_keys (keys_of t) (λ p. not (is_within node.path.items p))) q ≡ cond (not (is_within node.path.items q)) (get (keys_of t) q) None
  left_at q = get-where (keys_of t) (λ p. not (is_within node.path.items p)) q

  -- another path keeps its key
  left_other : (q : List ℕ) → (q ≡ node.path.items → ⊥) → get (retain_keys (keys_of t) (λ p. not (is_within node.path.items p))) q ≡ get (keys_of t) q
  left_other q apart = left_at q ∙ by (is_within node.path.items q) refl where
    by : (b : Bool) → is_within node.path.items q ≡ b → cond (not b) (get (keys_of t) q) None ≡ get (keys_of t) q
    by true e = sym (none_key q e apart)
    by false e = refl

  value_other : (q : List ℕ) → (q ≡ node.path.items → ⊥) → get (without (nodes_of t) node.path.items) q ≡ get (nodes_of t) q
  value_other q apart = get-where (nodes_of t) (λ p. not (is_within node.path.items p)) q ∙ by (is_within node.path.items q) refl where
    by : (b : Bool) → is_within node.path.items q ≡ b → cond (not b) (get (nodes_of t) q) None ≡ get (nodes_of t) q
    by true e = sym (none_there _ (none_below q e apart))
    by false e = refl

  gone_key : (q : List ℕ) → q ≡ node.path.items → get (retain_keys (keys_of t) (λ p. not (is_within node.path.items p))) q ≡ None
  gone_key q same = left_at q ∙ ap (λ b. cond (not b) (get (keys_of t) q) None) (within_same node.path.items q same)

  gone_value : (q : List ℕ) → q ≡ node.path.items → get (without (nodes_of t) node.path.items) q ≡ None
  gone_value q same = get-where (nodes_of t) (λ p. not (is_within node.path.items p)) q ∙ ap (λ b. cond (not b) (get (nodes_of t) q) None) (within_same node.path.items q same)

  not_leaf : (k : ℕ) (x : Node) → node_at new k ≡ Some x → k ≡ leaf → ⊥
  not_leaf k x at same = absurd (let bad = sym at ∙ ap (λ j. node_at new j) same ∙ attached.back leaf updates.changed in cc)

  left_before : (k : ℕ) (x : Node) → node_at new k ≡ Some x → Was t node.path.items None k x
  left_before k x at =
      let w = was_there mid new node.path.items None k x attached at in
      record { before = w.before; at = sym (updates.others k (not_leaf k x at)) ∙ w.at; hung = w.hung }

  other_path : (k : ℕ) (a : Node) → node_at t k ≡ Some a → (k ≡ leaf → ⊥) → a.path.items ≡ node.path.items → ⊥
  other_path k a at apart same = apart ((alone_linked t linked).alone k leaf a node at there same)

  left_has : (k : ℕ) (x : Node) → node_at new k ≡ Some x → (get (retain_keys (keys_of t) (λ p. not (is_within node.path.items p))) x.path.items ≡ Some k) × (get (without (nodes_of t) node.path.items) x.path.items ≡ Some x.value.items)
  left_has k x at =
      let w = left_before k x at in
      let is : x.path.items ≡ w.before.path.items = ap (λ p. p.items) w.hung.path in
      let out : x.path.items ≡ node.path.items → ⊥ = λ e. other_path k w.before w.at (not_leaf k x at) (sym is ∙ e) in (
        left_other x.path.items out ∙ ap (λ p. get (keys_of t) p) is ∙ linked.alone k w.before w.at,
        value_other x.path.items out ∙ ap (λ p. get (nodes_of t) p) is ∙ value_at t linked k w.before w.at ∙ ap (λ v. Some v.items) (sym w.hung.value),
      )

  -- a node of another path has another key
  other_key : (k : ℕ) (a : Node) → node_at t k ≡ Some a → (a.path.items ≡ node.path.items → ⊥) → k ≡ leaf → ⊥
  other_key k a at out same =
      let both : Some a ≡ Some node = sym at ∙ ap (λ j. node_at t j) same ∙ there in
      let one : a ≡ node = cc in
      out (ap (λ (n : Node). n.path.items) one)

  left_back : (q : List ℕ) (k : ℕ) → get (retain_keys (keys_of t) (λ p. not (is_within node.path.items p))) q ≡ Some k → (x : Node) × (node_at new k ≡ Some x) × (x.path.items ≡ q)
  left_back q k h =
      let out : q ≡ node.path.items → ⊥ = λ same. (let bad = sym h ∙ gone_key q same in absurd cc) in
      let a = key_stands t linked q k (sym (left_other q out) ∙ h) in
      let b = attached.kept k a.0 (updates.others k (other_key k a.0 a.1 (λ same. out (sym a.2 ∙ same))) ∙ a.1) in
      (b.0, b.1, ap (λ p. p.items) b.2.path ∙ a.2)

  left_there : (q v : List ℕ) → get (without (nodes_of t) node.path.items) q ≡ Some v → is_some (get (retain_keys (keys_of t) (λ p. not (is_within node.path.items p))) q) ≡ true
  left_there q v h =
      let out : q ≡ node.path.items → ⊥ = λ same. (let bad = sym h ∙ gone_value q same in absurd cc) in
      ap is_some (left_other q out) ∙ sym (same_paths t linked q) ∙ ap is_some (sym (value_other q out) ∙ h)

  left_children : (k : ℕ) (x : Node) → node_at new k ≡ Some x → (name : List ℕ) → child_of x name ≡ cond (is_name name) (get (retain_keys (keys_of t) (λ p. not (is_within node.path.items p))) (child_path x.path.items name)) None
  left_children k x at name =
      let w = left_before k x at in
      let z = child_path w.before.path.items name in
      w.hung.children name ∙ ap (λ o. cond (is_name name && eq_by_cmp order z node.path.items) None o) (linked.children k w.before w.at name) ∙ old z (is_name name) (eq_by_cmp order z node.path.items) refl
      ∙ ap (λ p. cond (is_name name) (get (retain_keys (keys_of t) (λ p. not (is_within node.path.items p))) (child_path p name)) None) (sym (ap (λ p. p.items) w.hung.path))
    where
      old : (z : List ℕ) (a b : Bool) → eq_by_cmp order z node.path.items ≡ b → cond (a && b) None (cond a (get (keys_of t) z) None) ≡ cond a (get (retain_keys (keys_of t) (λ p. not (is_within node.path.items p))) z) None
      old z true true e = sym (gone_key z (tied_same z node.path.items e))
      old z true false e = sym (left_other z (λ same. (let bad : true ≡ false = sym (same_test z node.path.items same) ∙ e in absurd cc)))
      old z false b e = refl

  left_root : mid.root ≡ t.root → new.root ≡ get (retain_keys (keys_of t) (λ p. not (is_within node.path.items p))) root
  left_root same_root = attached.root ∙ by (eq_by_cmp order root node.path.items) refl where
    by : (b : Bool) → eq_by_cmp order root node.path.items ≡ b → cond b None mid.root ≡ get (retain_keys (keys_of t) (λ p. not (is_within node.path.items p))) root
    by true e = sym (gone_key root (tied_same root node.path.items e))
    by false e = same_root ∙ linked.root ∙ sym (left_other root (λ same. (let bad : true ≡ false = sym (same_test root node.path.items same) ∙ e in absurd cc)))

  -- the leaf goes back where it stood
  left_len : len (nodes_of t) ≡ len (without (nodes_of t) node.path.items) + 1
  left_len =
      let rest = without (nodes_of t) node.path.items in
      let whole : nodes_of t ≡ insert rest node.path.items node.value.items = same_nodes _ _ (λ q. by q (eq_by_cmp order q node.path.items) refl ∙ sym (get-insert nat_list_cmp_total rest node.path.items node.value.items q)) in
      ap (λ n. len n) whole ∙ len-insert nat_list_cmp_total rest node.path.items node.value.items ∙ ap (λ o. cond (is_some o) (len rest) (len rest + 1)) (gone_value node.path.items refl)
    where
      by : (q : List ℕ) (b : Bool) → eq_by_cmp order q node.path.items ≡ b → get (nodes_of t) q ≡ cond b (Some node.value.items) (get (without (nodes_of t) node.path.items) q)
      by q true e = ap (λ p. get (nodes_of t) p) (tied_same q node.path.items e) ∙ value_at t linked leaf node there
      by q false e = sym (value_other q (λ same. (let bad : true ≡ false = sym (same_test q node.path.items same) ∙ e in absurd cc)))

  pub leaf_removed : mid.root ≡ t.root → slab_len mid.nodes + 1 ≡ slab_len t.nodes → Holds new (without (nodes_of t) node.path.items)
  leaf_removed same_root count =
      holds new (retain_keys (keys_of t) (λ p. not (is_within node.path.items p))) (without (nodes_of t) node.path.items) (linked_as new _ _ left_has left_back left_there) (IsTree-without (nodes_of t) node.path.items linked.tree) (omega (arith, count, attached.count, linked.count, left_len)) (left_root same_root) (λ k x at. (left_has k x at).0) left_children

-- ---- a leaf that could not be added
module _ (t new : NodeSlab) (path : List ℕ) (linked : IsLinked t) (missing : get (keys_of t) path ≡ None) (attached : IsAttached path None t new) where
  still_has : (k : ℕ) (x : Node) → node_at new k ≡ Some x → (get (keys_of t) x.path.items ≡ Some k) × (get (nodes_of t) x.path.items ≡ Some x.value.items)
  still_has k x at =
      let w = was_there t new path None k x attached at in
      let is : x.path.items ≡ w.before.path.items = ap (λ p. p.items) w.hung.path in
      (ap (λ p. get (keys_of t) p) is ∙ linked.alone k w.before w.at, ap (λ p. get (nodes_of t) p) is ∙ value_at t linked k w.before w.at ∙ ap (λ v. Some v.items) (sym w.hung.value))

  still_back : (q : List ℕ) (k : ℕ) → get (keys_of t) q ≡ Some k → (x : Node) × (node_at new k ≡ Some x) × (x.path.items ≡ q)
  still_back q k h =
      let a = key_stands t linked q k h in
      let b = attached.kept k a.0 a.1 in
      (b.0, b.1, ap (λ p. p.items) b.2.path ∙ a.2)

  still_children : (k : ℕ) (x : Node) → node_at new k ≡ Some x → (name : List ℕ) → child_of x name ≡ cond (is_name name) (get (keys_of t) (child_path x.path.items name)) None
  still_children k x at name =
      let w = was_there t new path None k x attached at in
      let z = child_path w.before.path.items name in
      w.hung.children name ∙ ap (λ o. cond (is_name name && eq_by_cmp order z path) None o) (linked.children k w.before w.at name) ∙ old z (is_name name) (eq_by_cmp order z path) refl
      ∙ ap (λ p. cond (is_name name) (get (keys_of t) (child_path p name)) None) (sym (ap (λ p. p.items) w.hung.path))
    where
      old : (z : List ℕ) (a b : Bool) → eq_by_cmp order z path ≡ b → cond (a && b) None (cond a (get (keys_of t) z) None) ≡ cond a (get (keys_of t) z) None
      old z true true e = sym (ap (λ p. get (keys_of t) p) (tied_same z path e) ∙ missing)
      old z true false e = refl
      old z false b e = refl

  still_root : new.root ≡ get (keys_of t) root
  still_root = attached.root ∙ by (eq_by_cmp order root path) refl where
    by : (b : Bool) → eq_by_cmp order root path ≡ b → cond b None t.root ≡ get (keys_of t) root
    by true e = sym (ap (λ p. get (keys_of t) p) (tied_same root path e) ∙ missing)
    by false e = linked.root

  pub still_linked : Holds new (nodes_of t)
  still_linked =
      holds new (keys_of t) (nodes_of t) (linked_as new (keys_of t) (nodes_of t) still_has still_back (λ q v h. sym (same_paths t linked q) ∙ ap is_some h)) linked.tree (attached.count ∙ linked.count) still_root (λ k x at. (still_has k x at).0) still_children
