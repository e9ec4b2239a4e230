-- The nodes within a path are gathered, each with all below it.
use Rattle.std.proofs.Common.{◌≡◌, ◌⊎◌, inl, inr, ℕ, Bool, true, false, cond, List, [], ◌∷◌, Option, Some, None, is_some, refl, sym, ap, ◌∙◌, subst, arith, Contains, Bor}
use Rattle.std.specs.FinMap.{get, insert, empty, get-empty}
use Rattle.std.specs.Ordering.{eq_by_cmp}
use Rattle.std.specs.Map.{values_of}
use Rattle.std.specs.FinMap.Entries.{put}
use Rattle.slab.proofs.SlabLemmas.{Contains-cons_cases}
use Rattle.neph_tree.specs.declared.node.Node.{Node}
use Rattle.neph_tree.specs.declared.node_slab.NodeSlab.{NodeSlab}
use Rattle.neph_tree.specs.Places.{is_within, child_path}
use Rattle.neph_tree.specs.Nodes.{Nodes, subtree}
use Rattle.neph_tree.specs.Entries.{lent, nodes_in}
use Rattle.neph_tree.specs.Node.{child_of}
use Rattle.neph_tree.specs.NodeSlab.{nodes_of, keys_of, node_at, IsLinked, IsPart, IsBelowAny, Gathers}
use Rattle.neph_tree.proofs.EntryLemmas.{order, same_nodes, get-where, tied_same, insert-lent}
use Rattle.neph_tree.proofs.WalkLemmas.{child_listed}
use Rattle.neph_tree.proofs.Within.{within_same, within_trans}
use Rattle.neph_tree.proofs.ChildLemmas.{child_above}
use Rattle.neph_tree.proofs.HangLemmas.{same_test}
use Rattle.neph_tree.proofs.LinkLemmas.{key_stands, alone_linked, value_at, same_paths}
use Rattle.neph_tree.proofs.LeafLemmas.{got_here, got_else, some_of}

pub gathered_part : (t : NodeSlab) (top : List ℕ) (old new : Nodes) (left : List ℕ) → Gathers t top old new left → IsPart new (nodes_of t)
gathered_part t top old new left g = λ q v h. (g.sound q v h).0

-- the node itself; its children are left
pub gathered_first : (t : NodeSlab) (key : ℕ) (node : Node) (old : Nodes) (left : List ℕ) → IsLinked t → node_at t key ≡ Some node → IsPart old (nodes_of t) → ((name : List ℕ) (k : ℕ) → child_of node name ≡ Some k → Contains left k)
    → Gathers t node.path.items old (insert old node.path.items node.value.items) left
gathered_first t key node old left linked at part all = record { sound = sound; kept = kept; whole = whole } where
  itself : get (nodes_of t) node.path.items ≡ Some node.value.items
  itself = value_at t linked key node at

  apart : (q : List ℕ) → eq_by_cmp order q node.path.items ≡ false → q ≡ node.path.items → ⊥
  apart q e same = absurd (let bad : true ≡ false = sym (same_test q node.path.items same) ∙ e in cc)

  sound : (q v : List ℕ) → get (insert old node.path.items node.value.items) q ≡ Some v → (get (nodes_of t) q ≡ Some v) × ((is_within node.path.items q ≡ true) ⊎ (get old q ≡ Some v))
  sound q v h = by (eq_by_cmp order q node.path.items) refl where
    by : (b : Bool) → eq_by_cmp order q node.path.items ≡ b → (get (nodes_of t) q ≡ Some v) × ((is_within node.path.items q ≡ true) ⊎ (get old q ≡ Some v))
    by true e =
        let same = tied_same q node.path.items e in
        (ap (λ p. get (nodes_of t) p) same ∙ itself ∙ sym (got_here old node.path.items node.value.items q same) ∙ h, inl (within_same node.path.items q same))
    by false e =
        let was = sym (got_else old node.path.items node.value.items q (apart q e)) ∙ h in
        (part q v was, inr was)

  kept : (q v : List ℕ) → get old q ≡ Some v → get (insert old node.path.items node.value.items) q ≡ Some v
  kept q v h = by (eq_by_cmp order q node.path.items) refl where
    by : (b : Bool) → eq_by_cmp order q node.path.items ≡ b → get (insert old node.path.items node.value.items) q ≡ Some v
    by true e =
        let same = tied_same q node.path.items e in
        got_here old node.path.items node.value.items q same ∙ sym itself ∙ ap (λ p. get (nodes_of t) p) (sym same) ∙ part q v h
    by false e = got_else old node.path.items node.value.items q (apart q e) ∙ h

  whole : (q v : List ℕ) → get (nodes_of t) q ≡ Some v → is_within node.path.items q ≡ true → (get (insert old node.path.items node.value.items) q ≡ Some v) ⊎ IsBelowAny t left q
  whole q v h w =
      elim (child_above node.path.items q ((alone_linked t linked).paths key node at) (linked.tree.paths q (ap is_some h)) w) [
        | inl same ↦ inl (got_here old node.path.items node.value.items q same ∙ sym itself ∙ ap (λ p. get (nodes_of t) p) (sym same) ∙ h)
        | inr c ↦
            let z = child_path node.path.items c.child in
            let there = some_of (get (keys_of t) z) (sym (same_paths t linked z) ∙ linked.tree.closed z q c.path c.within (ap is_some h)) in
            let n = key_stands t linked z there.0 there.1 in
            let found : child_of node c.child ≡ Some there.0 = linked.children key node at c.child ∙ ap (λ b. cond b (get (keys_of t) z) None) c.named ∙ there.1 in
            inr (there.0, n.0, all c.child there.0 found, n.1, ap (λ p. is_within p q) n.2 ∙ c.within)
      ]

-- a child was gathered
pub gathered_next : (t : NodeSlab) (top : List ℕ) (child : ℕ) (node : Node) (old now new : Nodes) (left : List ℕ) → node_at t child ≡ Some node → is_within top node.path.items ≡ true → Gathers t top old now (child ∷ left) → Gathers t node.path.items now new [] → Gathers t top old new left
gathered_next t top child node old now new left at below first then_ = record {
  sound = λ q v h.
      let s = then_.sound q v h in
      (s.0, elim s.1 [ inl w ↦ inl (within_trans top node.path.items q below w) | inr was ↦ (first.sound q v was).1 ]);
  kept = λ q v h. then_.kept q v (first.kept q v h);
  whole = λ q v h w. elim (first.whole q v h w) [
    | inl found ↦ inl (then_.kept q v found)
    | inr b ↦ later q v h b
  ];
}
  where
    none : (q : List ℕ) → IsBelowAny t [] q → ⊥
    none q b = absurd (omega (arith, b.2.1))

    later : (q v : List ℕ) → get (nodes_of t) q ≡ Some v → IsBelowAny t (child ∷ left) q → (get new q ≡ Some v) ⊎ IsBelowAny t left q
    later q v h b =
        elim (Contains-cons_cases _ _ _ b.2) [
          | inl here ↦
              let both : Some node ≡ Some b.1 = sym at ∙ ap (λ k. node_at t k) here ∙ b.3 in
              let one : node ≡ b.1 = cc in
              elim (then_.whole q v h (ap (λ n. is_within n.path.items q) one ∙ b.4)) [ inl found ↦ inl found | inr more ↦ absurd (none q more) ]
          | inr there ↦ inr (b.0, b.1, there, b.3, b.4)
        ]

-- all are there
pub gathered_all : (t : NodeSlab) (top : List ℕ) (new : Nodes) → Gathers t top (empty {X = List ℕ} {R = order}) new [] → new ≡ subtree (nodes_of t) top
gathered_all t top new g = same_nodes _ _ (λ q. by q (get new q) refl ∙ sym (get-where (nodes_of t) (λ p. is_within top p) q)) where
  none : (q : List ℕ) → IsBelowAny t [] q → ⊥
  none q b = absurd (omega (arith, b.2.1))

  within : (q v : List ℕ) → (is_within top q ≡ true) ⊎ (get (empty {X = List ℕ} {R = order}) q ≡ Some v) → is_within top q ≡ true
  within q v s = elim s [ inl w ↦ w | inr bad ↦ absurd (let no = sym bad ∙ get-empty order q in cc) ]

  missing : (q : List ℕ) (b : Bool) (o : Option (List ℕ)) → get new q ≡ None → is_within top q ≡ b → get (nodes_of t) q ≡ o → None ≡ cond b o None
  missing q false o e w h = refl
  missing q true None e w h = refl
  missing q true (Some v) e w h = elim (g.whole q v h w) [ inl found ↦ absurd (let bad = sym e ∙ found in cc) | inr b ↦ absurd (none q b) ]

  by : (q : List ℕ) (o : Option (List ℕ)) → get new q ≡ o → get new q ≡ cond (is_within top q) (get (nodes_of t) q) None
  by q (Some v) e =
      let s = g.sound q v e in
      e ∙ sym s.0 ∙ ap (λ b. cond b (get (nodes_of t) q) None) (sym (within q v s.1))
  by q None e = e ∙ missing q (is_within top q) (get (nodes_of t) q) e refl refl

-- the same of the list that gathers
pub gather_begun : (t : NodeSlab) (key : ℕ) (node : Node) (old new : List (Bor (List ℕ) × Bor (List ℕ))) (k v : List ℕ) → IsLinked t → node_at t key ≡ Some node → IsPart (nodes_in old) (nodes_of t) → k ≡ node.path.items → v ≡ node.value.items → lent new ≡ put order k v (lent old)
    → Gathers t node.path.items (nodes_in old) (nodes_in new) (values_of node.children.entries)
gather_begun t key node old new k v linked at part path value is =
    let into : insert (nodes_in old) node.path.items node.value.items ≡ nodes_in new = sym (insert-lent old new k v is ∙ ap (λ p. insert (nodes_in old) p v) path ∙ ap (λ w. insert (nodes_in old) node.path.items w) value) in
    let G : Nodes → Type 0 = λ m. Gathers t node.path.items (nodes_in old) m (values_of node.children.entries) in
    subst G into (gathered_first t key node (nodes_in old) (values_of node.children.entries) linked at part (λ name child found. child_listed name node.children.entries child found))
