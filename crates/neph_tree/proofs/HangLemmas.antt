-- What leads to a path in the slab.
use Rattle.std.proofs.Common.{◌≡◌, inl, inr, ℕ, ◌<◌, Bool, true, false, cond, ◌&&◌, List, [], ◌∷◌, length, Option, Some, None, refl, sym, ap, ◌∙◌, subst, arith}
use Rattle.std.specs.Ordering.{eq_by_cmp}
use Rattle.std.proofs.lemmas.Bool.{cases_eq}
use Rattle.std.specs.FinMap.{get}
use Rattle.slab.specs.Slab.{slab_len, Updates}
use Rattle.slab.specs.Slab as slab
use Rattle.neph_base.specs.Path.{is_path}
use Rattle.neph_tree.specs.declared.node.Node.{Node}
use Rattle.neph_tree.specs.declared.node_slab.NodeSlab.{NodeSlab}
use Rattle.neph_tree.specs.Places.{root, is_name, child_path, IsChild}
use Rattle.neph_tree.specs.Node.{child_of, IsRelinked}
use Rattle.neph_tree.specs.NodeSlab.{keys_of, node_at, AreAlone, IsLinked, IsHung, IsAttached}
use Rattle.neph_tree.proofs.EntryLemmas.{order, tied_same}
use Rattle.neph_tree.proofs.NodeLemmas.{self_tied}
use Rattle.neph_tree.proofs.ChildLemmas.{child_same, child_longer}

pub apart_test : (q k : List ℕ) → (q ≡ k → ⊥) → eq_by_cmp order q k ≡ false
apart_test q k apart =
    elim (eq_by_cmp order q k) as (λ b. eq_by_cmp order q k ≡ b → b ≡ false) [ true ↦ λ t. absurd (apart (tied_same q k t)) | false ↦ λ t. refl ] refl

pub same_test : (q k : List ℕ) → q ≡ k → eq_by_cmp order q k ≡ true
same_test q k same = ap (λ p. eq_by_cmp order p k) same ∙ self_tied k

-- a child is no root
pub child_no_root : (path d name : List ℕ) → IsChild path d name → root ≡ path → ⊥
child_no_root path d name c same = by d c.form where
  by : (e : List ℕ) → is_path e ≡ true → ⊥
  by e is = omega (arith, child_longer d name c.one, ap (λ l. length l) (same ∙ c.whole), some d c.form)
    where
      some : (f : List ℕ) → is_path f ≡ true → 0 < length f
      some [] g = absurd (cc)
      some (b ∷ f) g = omega arith

-- the test of a child's name is that of its path
child_by_path : (path d name other : List ℕ) → IsChild path d name → eq_by_cmp order other name ≡ (is_name other && eq_by_cmp order (child_path d other) path)
child_by_path path d name other c = by (eq_by_cmp order other name) refl where
  no : (a b : Bool) → is_name other ≡ a → eq_by_cmp order (child_path d other) path ≡ b → eq_by_cmp order other name ≡ false → false ≡ (a && b)
  no false b s t e = refl
  no true false s t e = refl
  no true true s t e =
      let one = child_same d d other name c.form c.form s c.one (tied_same (child_path d other) path t ∙ c.whole) in
      absurd (let bad : false ≡ true = sym e ∙ same_test other name one.1 in cc)

  by : (b : Bool) → eq_by_cmp order other name ≡ b → b ≡ (is_name other && eq_by_cmp order (child_path d other) path)
  by true e =
      let same : other ≡ name = tied_same other name e in
      sym (ap (λ a. a && eq_by_cmp order (child_path d other) path) (ap (λ n. is_name n) same ∙ c.one) ∙ same_test (child_path d other) path (ap (λ n. child_path d n) same ∙ sym c.whole))
  by false e = no (is_name other) (eq_by_cmp order (child_path d other) path) refl refl e

-- no child of another node stands there
other_child : (path d name : List ℕ) → IsChild path d name → (e other : List ℕ) → is_path e ≡ true → (e ≡ d → ⊥) → (is_name other && eq_by_cmp order (child_path e other) path) ≡ false
other_child path d name c e other is apart = by (is_name other) (eq_by_cmp order (child_path e other) path) refl refl where
  by : (a b : Bool) → is_name other ≡ a → eq_by_cmp order (child_path e other) path ≡ b → (a && b) ≡ false
  by false b s t = refl
  by true false s t = refl
  by true true s t = absurd (apart (child_same e d other name is c.form s c.one (tied_same (child_path e other) path t ∙ c.whole)).0)

-- a change at the node above
pub attached_below : (path name : List ℕ) (to : Option ℕ) (t new : NodeSlab) (up : ℕ) (a b : Node) → AreAlone t → node_at t up ≡ Some a → IsChild path a.path.items name → IsRelinked a b name to → Updates t.nodes new.nodes up (Some b)
    → new.root ≡ t.root → slab_len new.nodes ≡ slab_len t.nodes → new.nodes.vacant_key ≡ t.nodes.vacant_key → new.nodes.capacity ≡ t.nodes.capacity → IsAttached path to t new
attached_below path name to t new up a b alone there c linked updates same_root count next room = record {
  kept = kept;
  back = λ key none. elim (cases_eq key up) [
    | inl same ↦ absurd (let bad = sym none ∙ ap (λ k. node_at t k) same ∙ there in cc)
    | inr differs ↦ updates.others key differs ∙ none
  ];
  root = same_root ∙ ap (λ b. cond b to t.root) (sym (apart_test root path (child_no_root path a.path.items name c)));
  count = count;
  vacant_key = next;
  capacity = room;
}
  where
    hung : IsHung path to a b
    hung = record {
      path = linked.path;
      value = linked.value;
      children = λ other. linked.children other ∙ ap (λ t. cond t to (child_of a other)) (child_by_path path a.path.items name other c);
    }

    kept : (key : ℕ) (x : Node) → node_at t key ≡ Some x → (y : Node) × (node_at new key ≡ Some y) × IsHung path to x y
    kept key x at =
        elim (cases_eq key up) [
          | inl same ↦
              let both : Some a ≡ Some x = sym there ∙ ap (λ k. node_at t k) (sym same) ∙ at in
              let one : a ≡ x = cc in
              let P : Node → Type 0 = λ n. (y : Node) × (node_at new key ≡ Some y) × IsHung path to n y in
              subst P one (b, ap (λ k. node_at new k) same ∙ updates.changed, hung)
          | inr differs ↦ (
            x,
            updates.others key differs ∙ at,
            record {
              path = refl;
              value = refl;
              children = λ other. ap (λ t. cond t to (child_of x other)) (sym (other_child path a.path.items name c x.path.items other (alone.paths key x at) (λ same. differs (alone.alone key up x a at there same))));
            },
          )
        ]

-- a change of the root
pub attached_root : (path : List ℕ) (to : Option ℕ) (t new : NodeSlab) → AreAlone t → path ≡ root → new.nodes ≡ t.nodes → new.root ≡ to → IsAttached path to t new
attached_root path to t new alone is same set = record {
  kept = λ key x at. (x, ap (λ s. slab.get s key) same ∙ at, record { path = refl; value = refl; children = λ other. ap (λ t. cond t to (child_of x other)) (sym (none x.path.items other (alone.paths key x at))) });
  back = λ key none. ap (λ s. slab.get s key) same ∙ none;
  root = set ∙ ap (λ b. cond b to t.root) (sym (same_test root path (sym is)));
  count = ap (λ s. slab_len s) same;
  vacant_key = ap (λ s. s.vacant_key) same;
  capacity = ap (λ s. s.capacity) same;
}
  where
    none : (e other : List ℕ) → is_path e ≡ true → (is_name other && eq_by_cmp order (child_path e other) path) ≡ false
    none e other form = by (is_name other) (eq_by_cmp order (child_path e other) path) refl refl where
      by : (a b : Bool) → is_name other ≡ a → eq_by_cmp order (child_path e other) path ≡ b → (a && b) ≡ false
      by false b s t = refl
      by true false s t = refl
      by true true s t = absurd (child_no_root path e other (record { form = form; one = s; whole = sym (tied_same (child_path e other) path t) }) (sym is))

-- nothing leads to a path that isn't there
pub attached_missing : (path : List ℕ) (t : NodeSlab) → IsLinked t → get (keys_of t) path ≡ None → IsAttached path None t t
attached_missing path t linked missing = record {
  kept = λ key x at. (x, at, record { path = refl; value = refl; children = λ other. none x other (linked.children key x at other) });
  back = λ key none. none;
  root = by (eq_by_cmp order root path) refl;
  count = refl;
  vacant_key = refl;
  capacity = refl;
}
  where
    by : (b : Bool) → eq_by_cmp order root path ≡ b → t.root ≡ cond b None t.root
    by true e = linked.root ∙ ap (λ p. get (keys_of t) p) (tied_same root path e) ∙ missing
    by false e = refl

    none : (x : Node) (other : List ℕ) → child_of x other ≡ cond (is_name other) (get (keys_of t) (child_path x.path.items other)) None → child_of x other ≡ cond (is_name other && eq_by_cmp order (child_path x.path.items other) path) None (child_of x other)
    none x other is = at (is_name other) (eq_by_cmp order (child_path x.path.items other) path) refl is where
      at : (a b : Bool) → eq_by_cmp order (child_path x.path.items other) path ≡ b → child_of x other ≡ cond a (get (keys_of t) (child_path x.path.items other)) None → child_of x other ≡ cond (a && b) None (child_of x other)
      at false b e g = refl
      at true false e g = refl
      at true true e g = g ∙ ap (λ p. get (keys_of t) p) (tied_same _ _ e) ∙ missing
