-- What keeps the store a tree.
use Rattle.std.proofs.Common.{◌≡◌, ◌⊎◌, inl, inr, ℕ, ◌+◌, Bool, true, false, cond, List, [], ◌∷◌, length, Option, Some, None, is_some, refl, sym, ap, ◌∙◌, subst, arith, length-append}
use Rattle.std.specs.Prelude.{not, nat_lt, Result, Ok, Err, OnOk, OnErr, IfNone}
use Rattle.neph_tree.specs.Refusals.{is_over}
use Rattle.neph_tree.specs.declared.refusals.TheConstants.{DOMAIN_NODES}
use Rattle.std.specs.Ordering.{eq_by_cmp}
use Rattle.std.specs.Cmp.Lexicographic.{nat_list_cmp_total}
use Rattle.std.specs.FinMap.{get, contains_key, insert, empty, len, get-insert, get-empty, len-insert}
use Rattle.neph_base.specs.Path.{slash, is_path}
use Rattle.neph_tree.specs.Places.{is_within, ancestors, cuts}
use Rattle.neph_tree.specs.Nodes.{Nodes, IsTree, with_missing, with_each_missing, with_node, with_nodes, without, subtree}
use Rattle.neph_tree.specs.Growth.{with_added, with_made, with_each_made, with_values, ArePaths, HasEach}
use Rattle.neph_tree.proofs.EntryLemmas.{order, same_nodes, get-where, tied_same}
use Rattle.neph_tree.proofs.Within.{IsIn, IsIn-back, cuts-back, within_trans, ancestor_has, ancestor_within}
use Rattle.neph_tree.proofs.GrowthLemmas.{insert_there}

pub insert_has : (m : Nodes) (k v q : List ℕ) → contains_key (insert m k v) q ≡ true → (q ≡ k) ⊎ (contains_key m q ≡ true)
insert_has m k v q h = by (eq_by_cmp order q k) refl where
  by : (b : Bool) → eq_by_cmp order q k ≡ b → (q ≡ k) ⊎ (contains_key m q ≡ true)
  by true e = inl (tied_same q k e)
  by false e = inr (ap is_some (sym (get-insert nat_list_cmp_total m k v q ∙ ap (λ b. cond b (Some v) (get m q)) e)) ∙ h)

pub insert_keeps : (m : Nodes) (k v q : List ℕ) → contains_key m q ≡ true → contains_key (insert m k v) q ≡ true
insert_keeps m k v q h = ap is_some (get-insert nat_list_cmp_total m k v q) ∙ by (eq_by_cmp order q k) where
  by : (b : Bool) → is_some (cond b (Some v) (get m q)) ≡ true
  by true = refl
  by false = h

pub insert_is : (m : Nodes) (k v : List ℕ) → contains_key (insert m k v) k ≡ true
insert_is m k v = ap is_some (insert_there m k v)

missing_has : (m : Nodes) (k q : List ℕ) → contains_key (with_missing m k) q ≡ true → (q ≡ k) ⊎ (contains_key m q ≡ true)
missing_has m k q =
    elim (contains_key m k) as (λ b. contains_key (cond b m (insert m k [])) q ≡ true → (q ≡ k) ⊎ (contains_key m q ≡ true)) [
      | true ↦ λ h. inr h
      | false ↦ λ h. insert_has m k [] q h
    ]

missing_keeps : (m : Nodes) (k q : List ℕ) → contains_key m q ≡ true → contains_key (with_missing m k) q ≡ true
missing_keeps m k q h =
    elim (contains_key m k) as (λ b. contains_key (cond b m (insert m k [])) q ≡ true) [ true ↦ h | false ↦ insert_keeps m k [] q h ]

pub missing_is : (m : Nodes) (k : List ℕ) → contains_key (with_missing m k) k ≡ true
missing_is m k =
    elim (contains_key m k) as (λ b. contains_key m k ≡ b → contains_key (cond b m (insert m k [])) k ≡ true) [ true ↦ λ e. e | false ↦ λ e. insert_is m k [] ] refl

pub each_has : (m : Nodes) (ks : List (List ℕ)) (q : List ℕ) → contains_key (with_each_missing m ks) q ≡ true → IsIn q ks ⊎ (contains_key m q ≡ true)
each_has m [] q h = inr h
each_has m (k ∷ ks) q h =
    elim (each_has (with_missing m k) ks q h) [
      | inl more ↦ inl (inr more)
      | inr now ↦ elim (missing_has m k q now) [ inl is ↦ inl (inl (sym is)) | inr old ↦ inr old ]
    ]

pub each_keeps : (m : Nodes) (ks : List (List ℕ)) (q : List ℕ) → contains_key m q ≡ true → contains_key (with_each_missing m ks) q ≡ true
each_keeps m [] q h = h
each_keeps m (k ∷ ks) q h = each_keeps (with_missing m k) ks q (missing_keeps m k q h)

pub each_is : (m : Nodes) (ks : List (List ℕ)) (q : List ℕ) → IsIn q ks → contains_key (with_each_missing m ks) q ≡ true
each_is m [] q h = absurd h
each_is m (k ∷ ks) q h =
    elim h [
      | inl is ↦ each_keeps (with_missing m k) ks q (ap (λ p. contains_key (with_missing m k) p) (sym is) ∙ missing_is m k)
      | inr more ↦ each_is (with_missing m k) ks q more
    ]

pub IsTree-with_node : (m : Nodes) (path value : List ℕ) → IsTree m → is_path path ≡ true → IsTree (with_node m path value)
IsTree-with_node m path value tree is = record {
  paths = λ q h. elim (insert_has grown path value q h) [
    | inl same ↦ ap (λ p. is_path p) same ∙ is
    | inr there ↦ elim (each_has m above q there) [
      | inl one ↦ (ancestor_within path q is one).0
      | inr old ↦ tree.paths q old
    ]
  ];
  closed = λ a q pa within h. elim (insert_has grown path value q h) [
    | inl same ↦ up a pa (ap (λ p. is_within a p) (sym same) ∙ within)
    | inr there ↦ elim (each_has m above q there) [
      | inl one ↦ up a pa (within_trans a q path within (ancestor_within path q is one).1)
      | inr old ↦ insert_keeps grown path value a (each_keeps m above a (tree.closed a q pa within old))
    ]
  ];
}
  where
    above : List (List ℕ)
    above = ancestors path

    grown : Nodes
    grown = with_each_missing m (ancestors path)

    up : (a : List ℕ) → is_path a ≡ true → is_within a path ≡ true → contains_key (insert (with_each_missing m (ancestors path)) path value) a ≡ true
    up a pa within =
        elim (ancestor_has path a pa within) [
          | inl same ↦ ap (λ p. contains_key (insert (with_each_missing m (ancestors path)) path value) p) (sym same) ∙ insert_is _ path value
          | inr one ↦ insert_keeps _ path value a (each_is m (ancestors path) a one)
        ]

pub without_has : (m : Nodes) (top q : List ℕ) → contains_key (without m top) q ≡ true → (is_within top q ≡ false) × (contains_key m q ≡ true)
without_has m top q h = by (is_within top q) refl where
  by : (b : Bool) → is_within top q ≡ b → (is_within top q ≡ false) × (contains_key m q ≡ true)
  by true e = absurd (let none = sym h ∙ ap is_some (get-where m (λ p. not (is_within top p)) q ∙ ap (λ b. cond (not b) (get m q) None) e) in cc)
  by false e = (e, ap is_some (sym (get-where m (λ p. not (is_within top p)) q ∙ ap (λ b. cond (not b) (get m q) None) e)) ∙ h)

pub without_keeps : (m : Nodes) (top q : List ℕ) → is_within top q ≡ false → get (without m top) q ≡ get m q
without_keeps m top q e = get-where m (λ p. not (is_within top p)) q ∙ ap (λ b. cond (not b) (get m q) None) e

pub IsTree-without : (m : Nodes) (top : List ℕ) → IsTree m → IsTree (without m top)
IsTree-without m top tree = record {
  paths = λ q h. tree.paths q (without_has m top q h).1;
  closed = λ a q pa within h.
      let old = without_has m top q h in
      let out : is_within top a ≡ false = apart a q within old.0 in
      ap is_some (without_keeps m top a out) ∙ tree.closed a q pa within old.1;
}
  where
    apart : (a q : List ℕ) → is_within a q ≡ true → is_within top q ≡ false → is_within top a ≡ false
    apart a q within out =
        elim (is_within top a) as (λ b. is_within top a ≡ b → b ≡ false) [
          | true ↦ λ e. absurd (let deep = within_trans top a q e within in cc)
          | false ↦ λ e. refl
        ] refl

pub IsTree-empty : IsTree (empty {X = List ℕ} {R = order})
IsTree-empty = record {
  paths = λ q h. absurd (let none = sym h ∙ ap is_some (get-empty order q) in cc);
  closed = λ a q pa within h. absurd (let none = sym h ∙ ap is_some (get-empty order q) in cc);
}

-- a node that is there has all above it, so a write of it makes none
pub each_none : (m : Nodes) (ks : List (List ℕ)) → ((q : List ℕ) → IsIn q ks → contains_key m q ≡ true) → with_each_missing m ks ≡ m
each_none m [] h = refl
each_none m (k ∷ ks) h =
    let same : with_missing m k ≡ m = ap (λ b. cond b m (insert m k [])) (h k (inl refl)) in
    ap (λ n. with_each_missing n ks) same ∙ each_none m ks (λ q one. h q (inr one))

pub with_node_there : (m : Nodes) (path value : List ℕ) → IsTree m → is_path path ≡ true → contains_key m path ≡ true → with_node m path value ≡ insert m path value
with_node_there m path value tree is there =
    ap (λ n. insert n path value) (each_none m (ancestors path) (λ q one. let up = ancestor_within path q is one in tree.closed q path up.0 up.1 there))

pub not_false : (b : Bool) → false ≡ not b → b ≡ true
not_false true e = refl
not_false false e = absurd cc

-- the answer of a replacement tells that the node is there
pub replaced_there : {X : Type 0} (m : Nodes) (path : List ℕ) (back : Option X) → back ≡ None → is_some back ≡ not (contains_key m path) → contains_key m path ≡ true
replaced_there m path back none tells = not_false _ (ap is_some (sym none) ∙ tells)

pub replaced_is : {X : Type 0} (m n : Nodes) (path value : List ℕ) (back : Option X) → contains_key m path ≡ true → is_some back ≡ not (contains_key m path) → IfNone back (n ≡ insert m path value) → n ≡ insert m path value
replaced_is m n path value None there tells set = set
replaced_is m n path value (Some x) there tells set = absurd (let bad : true ≡ false = tells ∙ ap not there in cc)

-- and the count stays
pub count_there : (m : Nodes) (path value top : List ℕ) → contains_key m path ≡ true → len (subtree (insert m path value) top) ≡ len (subtree m top)
count_there m path value top there = by (is_within top path) refl where
  at : (q : List ℕ) → get (subtree (insert m path value) top) q ≡ cond (is_within top q) (cond (eq_by_cmp order q path) (Some value) (get m q)) None
  at q = get-where (insert m path value) (λ p. is_within top p) q ∙ ap (λ o. cond (is_within top q) o None) (get-insert nat_list_cmp_total m path value q)

  by : (b : Bool) → is_within top path ≡ b → len (subtree (insert m path value) top) ≡ len (subtree m top)
  by true e =
      let same : subtree (insert m path value) top ≡ insert (subtree m top) path value = same_nodes _ _ (λ q.
      at q ∙ both q (eq_by_cmp order q path) refl e ∙ sym (get-insert nat_list_cmp_total (subtree m top) path value q ∙ ap (cond (eq_by_cmp order q path) (Some value)) (get-where m (λ p. is_within top p) q)))
      in
      let kept : contains_key (subtree m top) path ≡ true = ap is_some (get-where m (λ p. is_within top p) path ∙ ap (λ b. cond b (get m path) None) e) ∙ there in
      ap (λ n. len n) same ∙ len-insert nat_list_cmp_total (subtree m top) path value ∙ ap (λ b. cond b (len (subtree m top)) (len (subtree m top) + 1)) kept
    where
      both : (q : List ℕ) (t : Bool) → eq_by_cmp order q path ≡ t → is_within top path ≡ true → cond (is_within top q) (cond t (Some value) (get m q)) None ≡ cond t (Some value) (cond (is_within top q) (get m q) None)
      both q true t within = ap (λ b. cond b (Some value) None) (ap (λ p. is_within top p) (tied_same q path t) ∙ within)
      both q false t within = refl
  by false e = ap (λ n. len n) (same_nodes _ _ (λ q. at q ∙ none q (eq_by_cmp order q path) refl e ∙ sym (get-where m (λ p. is_within top p) q)))
    where
      none : (q : List ℕ) (t : Bool) → eq_by_cmp order q path ≡ t → is_within top path ≡ false → cond (is_within top q) (cond t (Some value) (get m q)) None ≡ cond (is_within top q) (get m q) None
      none q true t out = ap (λ b. cond b (Some value) None) (ap (λ p. is_within top p) (tied_same q path t) ∙ out) ∙ sym (ap (λ b. cond b (get m q) None) (ap (λ p. is_within top p) (tied_same q path t) ∙ out))
      none q false t out = refl

pub over_there : (m : Nodes) (path value home : List ℕ) → IsTree m → is_path path ≡ true → contains_key m path ≡ true → is_over (with_node m path value) home ≡ is_over m home
over_there m path value home tree is there =
    ap (λ n. is_over n home) (with_node_there m path value tree is there) ∙ ap (λ n. nat_lt DOMAIN_NODES n) (count_there m path value home there)

-- a tree that is written or as it was
pub IsTree-after : {E : Type 0} (r : Result (Unit {0}) E) (old new : Nodes) (path value : List ℕ) → IsTree old → is_path path ≡ true → OnOk r (new ≡ with_node old path value) → OnErr r (new ≡ old) → IsTree new
IsTree-after (Ok x) old new path value tree is ok err = let Keeps : Nodes → Type 0 = λ m. IsTree m in subst Keeps (sym ok) (IsTree-with_node old path value tree is)
IsTree-after (Err e) old new path value tree is ok err = let Keeps : Nodes → Type 0 = λ m. IsTree m in subst Keeps (sym err) tree

-- ---- many nodes
pub made_is : (m : Nodes) (k v : List ℕ) → contains_key (with_made m k v) k ≡ true
made_is m k v =
    elim (contains_key m k) as (λ b. contains_key m k ≡ b → contains_key (cond b m (with_node m k v)) k ≡ true) [ true ↦ λ e. e | false ↦ λ e. insert_is _ k v ] refl

pub made_keeps : (m : Nodes) (k v q : List ℕ) → contains_key m q ≡ true → contains_key (with_made m k v) q ≡ true
made_keeps m k v q h =
    elim (contains_key m k) as (λ b. contains_key (cond b m (with_node m k v)) q ≡ true) [ true ↦ h | false ↦ insert_keeps _ k v q (each_keeps m (ancestors k) q h) ]

each_made_keeps : (m : Nodes) (es : List (List ℕ × List ℕ)) (q : List ℕ) → contains_key m q ≡ true → contains_key (with_each_made m es) q ≡ true
each_made_keeps m [] q h = h
each_made_keeps m (e ∷ es) q h = each_made_keeps (with_made m e.0 e.1) es q (made_keeps m e.0 e.1 q h)

pub HasEach-with_each_made : (m : Nodes) (es : List (List ℕ × List ℕ)) → HasEach (with_each_made m es) es
HasEach-with_each_made m [] = tt
HasEach-with_each_made m (e ∷ es) = (each_made_keeps (with_made m e.0 e.1) es e.0 (made_is m e.0 e.1), HasEach-with_each_made (with_made m e.0 e.1) es)

pub IsTree-with_made : (m : Nodes) (k v : List ℕ) → IsTree m → is_path k ≡ true → IsTree (with_made m k v)
IsTree-with_made m k v tree is = elim (contains_key m k) as (λ b. IsTree (cond b m (with_node m k v))) [ true ↦ tree | false ↦ IsTree-with_node m k v tree is ]

-- a path is none of those above it
apart_above : (path : List ℕ) → IsIn path (ancestors path) → ⊥
apart_above [] h = h
apart_above (b ∷ []) h = h
apart_above (b ∷ c ∷ text) h =
    elim h [
      | inl one ↦ omega (arith, ap (λ p. length p) one)
      | inr more ↦
          let r = IsIn-back b (b ∷ c ∷ text) (cuts (c ∷ text)) more in
          let cut = cuts-back (c ∷ text) r.0 r.2 in
          omega (arith, ap (λ p. length p) r.1, ap (λ p. length p) cut.1, length-append r.0 (slash ∷ cut.0))
    ]

pub key_grown : (m : Nodes) (path : List ℕ) → contains_key (with_each_missing m (ancestors path)) path ≡ contains_key m path
key_grown m path = by (contains_key m path) (contains_key (with_each_missing m (ancestors path)) path) refl refl where
  by : (b d : Bool) → contains_key m path ≡ b → contains_key (with_each_missing m (ancestors path)) path ≡ d → d ≡ b
  by true d e f = sym f ∙ each_keeps m (ancestors path) path e
  by false true e f = absurd (elim (each_has m (ancestors path) path f) [ inl above ↦ apart_above path above | inr there ↦ (let bad : true ≡ false = sym there ∙ e in cc) ])
  by false false e f = refl

pub made_of_added : (m : Nodes) (path value : List ℕ) → IsTree m → is_path path ≡ true → with_added (with_each_missing m (ancestors path)) path value ≡ with_made m path value
made_of_added m path value tree is =
    ap (λ b. cond b (with_each_missing m (ancestors path)) (with_node m path value)) (key_grown m path)
    ∙ elim (contains_key m path) as (λ b. contains_key m path ≡ b → cond b (with_each_missing m (ancestors path)) (with_node m path value) ≡ cond b m (with_node m path value)) [
      | true ↦ λ e. each_none m (ancestors path) (λ q one. let up = ancestor_within path q is one in tree.closed q path up.0 up.1 e)
      | false ↦ λ e. refl
    ] refl

-- a missing node is set by being made
pub made_new : (m : Nodes) (k v : List ℕ) → contains_key m k ≡ false → with_made m k v ≡ with_node m k v
made_new m k v missing = ap (λ b. cond b m (with_node m k v)) missing

pub HasEach-insert : (m : Nodes) (k v : List ℕ) (es : List (List ℕ × List ℕ)) → HasEach m es → HasEach (insert m k v) es
HasEach-insert m k v [] h = tt
HasEach-insert m k v (e ∷ es) h = (insert_keeps m k v e.0 h.0, HasEach-insert m k v es h.1)

insert_over : (m : Nodes) (k x v : List ℕ) → insert (insert m k x) k v ≡ insert m k v
insert_over m k x v = same_nodes _ _ (λ q. get-insert nat_list_cmp_total (insert m k x) k v q ∙ ap (cond (eq_by_cmp order q k) (Some v)) (get-insert nat_list_cmp_total m k x q) ∙ by (eq_by_cmp order q k) (get m q) ∙ sym (get-insert nat_list_cmp_total m k v q))
  where
    by : (b : Bool) (o : Option (List ℕ)) → cond b (Some v) (cond b (Some x) o) ≡ cond b (Some v) o
    by true o = refl
    by false o = refl

insert_swap : (m : Nodes) (p k x v : List ℕ) → (p ≡ k → ⊥) → insert (insert m p x) k v ≡ insert (insert m k v) p x
insert_swap m p k x v apart = same_nodes _ _ (λ q.
    get-insert nat_list_cmp_total (insert m p x) k v q ∙ ap (cond (eq_by_cmp order q k) (Some v)) (get-insert nat_list_cmp_total m p x q) ∙ by q (eq_by_cmp order q k) (eq_by_cmp order q p) refl refl
    ∙ sym (get-insert nat_list_cmp_total (insert m k v) p x q ∙ ap (cond (eq_by_cmp order q p) (Some x)) (get-insert nat_list_cmp_total m k v q)))
  where
    by : (q : List ℕ) (b d : Bool) → eq_by_cmp order q k ≡ b → eq_by_cmp order q p ≡ d → cond b (Some v) (cond d (Some x) (get m q)) ≡ cond d (Some x) (cond b (Some v) (get m q))
    by q true true e f = absurd (apart (sym (tied_same q p f) ∙ tied_same q k e))
    by q true false e f = refl
    by q false d e f = refl

same_keys : (m : Nodes) (k v q : List ℕ) → contains_key m k ≡ true → contains_key (insert m k v) q ≡ contains_key m q
same_keys m k v q there = ap is_some (get-insert nat_list_cmp_total m k v q) ∙ by (eq_by_cmp order q k) refl where
  by : (b : Bool) → eq_by_cmp order q k ≡ b → is_some (cond b (Some v) (get m q)) ≡ is_some (get m q)
  by true e = sym (ap (λ p. contains_key m p) (tied_same q k e) ∙ there)
  by false e = refl

missing_swap : (m : Nodes) (p k v : List ℕ) → contains_key m k ≡ true → insert (with_missing m p) k v ≡ with_missing (insert m k v) p
missing_swap m p k v there =
    elim (contains_key m p) as (λ b. contains_key m p ≡ b → insert (cond b m (insert m p [])) k v ≡ with_missing (insert m k v) p) [
      | true ↦ λ e. sym (ap (λ b. cond b (insert m k v) (insert (insert m k v) p [])) (same_keys m k v p there ∙ e))
      | false ↦ λ e. insert_swap m p k [] v (λ same. let bad = sym e ∙ ap (λ q. contains_key m q) same ∙ there in cc) ∙ sym (ap (λ b. cond b (insert m k v) (insert (insert m k v) p [])) (same_keys m k v p there ∙ e))
    ] refl

each_swap : (m : Nodes) (ps : List (List ℕ)) (k v : List ℕ) → contains_key m k ≡ true → insert (with_each_missing m ps) k v ≡ with_each_missing (insert m k v) ps
each_swap m [] k v there = refl
each_swap m (p ∷ ps) k v there = each_swap (with_missing m p) ps k v (missing_keeps m p k there) ∙ ap (λ n. with_each_missing n ps) (missing_swap m p k v there)

made_swap : (m : Nodes) (p x k v : List ℕ) → contains_key m k ≡ true → insert (with_made m p x) k v ≡ with_made (insert m k v) p x
made_swap m p x k v there =
    elim (contains_key m p) as (λ b. contains_key m p ≡ b → insert (cond b m (with_node m p x)) k v ≡ with_made (insert m k v) p x) [
      | true ↦ λ e. sym (ap (λ b. cond b (insert m k v) (with_node (insert m k v) p x)) (same_keys m k v p there ∙ e))
      | false ↦ λ e.
          insert_swap (with_each_missing m (ancestors p)) p k x v (λ same. let bad = sym e ∙ ap (λ q. contains_key m q) same ∙ there in cc) ∙ ap (λ n. insert n p x) (each_swap m (ancestors p) k v there)
          ∙ sym (ap (λ b. cond b (insert m k v) (with_node (insert m k v) p x)) (same_keys m k v p there ∙ e))
    ] refl

each_made_swap : (m : Nodes) (es : List (List ℕ × List ℕ)) (k v : List ℕ) → contains_key m k ≡ true → insert (with_each_made m es) k v ≡ with_each_made (insert m k v) es
each_made_swap m [] k v there = refl
each_made_swap m (e ∷ es) k v there = each_made_swap (with_made m e.0 e.1) es k v (made_keeps m e.0 e.1 k there) ∙ ap (λ n. with_each_made n es) (made_swap m e.0 e.1 k v there)

node_of_made : (m : Nodes) (k v : List ℕ) → IsTree m → is_path k ≡ true → insert (with_made m k v) k v ≡ with_node m k v
node_of_made m k v tree is =
    elim (contains_key m k) as (λ b. contains_key m k ≡ b → insert (cond b m (with_node m k v)) k v ≡ with_node m k v) [
      | true ↦ λ e. sym (with_node_there m k v tree is e)
      | false ↦ λ e. insert_over (with_each_missing m (ancestors k)) k v v
    ] refl

-- to make all the nodes and then set their values is to set them one after the other
pub nodes_of_made : (m : Nodes) (es : List (List ℕ × List ℕ)) → IsTree m → ArePaths es → with_values (with_each_made m es) es ≡ with_nodes m es
nodes_of_made m [] tree are = refl
nodes_of_made m (e ∷ es) tree are =
    ap (λ n. with_values n es) (each_made_swap (with_made m e.0 e.1) es e.0 e.1 (made_is m e.0 e.1) ∙ ap (λ n. with_each_made n es) (node_of_made m e.0 e.1 tree are.0))
    ∙ nodes_of_made (with_node m e.0 e.1) es (IsTree-with_node m e.0 e.1 tree are.0) are.1

pub IsTree-with_nodes : (m : Nodes) (es : List (List ℕ × List ℕ)) → IsTree m → ArePaths es → IsTree (with_nodes m es)
IsTree-with_nodes m [] tree are = tree
IsTree-with_nodes m (e ∷ es) tree are = IsTree-with_nodes (with_node m e.0 e.1) es (IsTree-with_node m e.0 e.1 tree are.0) are.1
