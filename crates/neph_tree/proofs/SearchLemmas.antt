-- The way down to a node.
use Rattle.std.proofs.Common.{◌≡◌, ℕ, Bool, true, false, cond, List, Some, None, is_some, refl, sym, ap, ◌∙◌}
use Rattle.std.specs.FinMap.{get, contains_key}
use Rattle.neph_base.specs.Path.{is_path}
use Rattle.neph_tree.specs.declared.node.Node.{Node}
use Rattle.neph_tree.specs.declared.node_slab.NodeSlab.{NodeSlab}
use Rattle.neph_tree.specs.Places.{is_within, is_name, child_path, IsChild}
use Rattle.neph_tree.specs.Node.{child_of}
use Rattle.neph_tree.specs.NodeSlab.{nodes_of, keys_of, node_at, IsLinked}
use Rattle.neph_tree.proofs.Within.{within_below}
use Rattle.neph_tree.proofs.LinkLemmas.{key_stands, same_paths}
use Rattle.neph_tree.proofs.LeafLemmas.{some_of}

module _ (t : NodeSlab) (linked : IsLinked t) where
  pub form_of_key : (q : List ℕ) (key : ℕ) → get (keys_of t) q ≡ Some key → is_path q ≡ true
  form_of_key q key h = linked.tree.paths q (same_paths t linked q ∙ ap is_some h)

  -- the node above one that is there, and what it finds
  pub way_down : (path d name : List ℕ) (key : ℕ) → IsChild path d name → get (keys_of t) path ≡ Some key → (up : ℕ) × (node : Node) × (get (keys_of t) d ≡ Some up) × (node_at t up ≡ Some node) × (child_of node name ≡ Some key)
  way_down path d name key c h =
      let there : contains_key (nodes_of t) path ≡ true = same_paths t linked path ∙ ap is_some h in
      let within : is_within d path ≡ true = ap (λ p. is_within d p) c.whole ∙ within_below d name in
      let up = some_of (get (keys_of t) d) (sym (same_paths t linked d) ∙ linked.tree.closed d path c.form within there) in
      let n = key_stands t linked d up.0 up.1 in (
        up.0,
        n.0,
        up.1,
        n.1,
        linked.children up.0 n.0 n.1 name ∙ ap (λ b. cond b (get (keys_of t) (child_path n.0.path.items name)) None) c.one ∙ ap (λ p. get (keys_of t) (child_path p name)) n.2 ∙ ap (λ p. get (keys_of t) p) (sym c.whole) ∙ h,
      )

  -- a node's child stands below it
  pub child_stands : (key : ℕ) (node : Node) (name : List ℕ) (child : ℕ) → node_at t key ≡ Some node → child_of node name ≡ Some child → (b : Node) × (node_at t child ≡ Some b) × (is_name name ≡ true) × (b.path.items ≡ child_path node.path.items name)
  child_stands key node name child at found = by (is_name name) refl where
    by : (b : Bool) → is_name name ≡ b → (n : Node) × (node_at t child ≡ Some n) × (is_name name ≡ true) × (n.path.items ≡ child_path node.path.items name)
    by true e =
        let h : get (keys_of t) (child_path node.path.items name) ≡ Some child = sym (ap (λ b. cond b (get (keys_of t) (child_path node.path.items name)) None) e) ∙ sym (linked.children key node at name) ∙ found in
        let n = key_stands t linked (child_path node.path.items name) child h in
        (n.0, n.1, e, n.2)
    by false e = absurd (let bad = sym found ∙ linked.children key node at name ∙ ap (λ b. cond b (get (keys_of t) (child_path node.path.items name)) None) e in cc)
