-- The lists of entries, and what is found in them.
use Rattle.std.proofs.Common.{◌≡◌, ℕ, zero, suc, ◌+◌, ◌<◌, ◌≤◌, ◌≢◌, Bool, true, false, cond, eqb, List, [], ◌∷◌, ◌++◌, length, get_or, set, map, drop, drop-cons, get_or-set_other, get_or-set_same, Vec, Global, Option, Some, None, refl, sym, ap, ◌∙◌, append_assoc, arith}
use Rattle.std.specs.Prelude.{slice_get, nat_eq, ◌&&◌}
use Rattle.std.specs.Cmp.Lexicographic.{pointwise}
use Rattle.std.proofs.lemmas.List.{length-append, append-nil, map-set, map-append, nil_from_length, length-drop}
use Rattle.std.proofs.lemmas.Bool.{eqb-true, eqb-false}
use Rattle.std.proofs.Math.ListN.{length-set}
use Rattle.neph_p9srv.specs.declared.tree.Node.{Node}
use Rattle.neph_p9srv.specs.declared.served.FileItem.{FileItem}
use Rattle.neph_p9srv.specs.State.{root, node_for, with_items, nodes_of, lies_in, is_entry, child_from, child, put_in, with_body, descend}
use Rattle.neph_p9srv.specs.Entries.{entries_from, AreEntries, has_name, first_named}

abbrev nil_of : (A : Type 0) → List A
nil_of A = []

get_at_front : (before : List Node) (node : Node) (nodes : List Node) → slice_get (before ++ node ∷ nodes) (length before) ≡ Some node
get_at_front [] node nodes = refl
get_at_front (b ∷ before) node nodes = get_at_front before node nodes

-- among the entries of a directory the first with the name is the one that the directory has under it
found_from : (all before nodes : List Node) (dir : ℕ) (name : List ℕ) (n : ℕ) → all ≡ before ++ nodes → n ≡ length before
    → first_named all (entries_from n nodes dir) name ≡ child_from n nodes dir name
unfolding first_named
found_from all before [] dir name n split at = refl
found_from all before (node ∷ nodes) dir name n split at =
    let later : first_named all (entries_from (suc n) nodes dir) name ≡ child_from (suc n) nodes dir name =
    found_from all (before ++ node ∷ []) nodes dir name (suc n) (split ∙ sym (append_assoc before (node ∷ []) nodes)) (omega (arith, length-append before (node ∷ []))) in
    let here : slice_get all n ≡ Some node = ap (λ (xs : List Node). slice_get xs n) split ∙ ap (λ (k : ℕ). slice_get (before ++ node ∷ nodes) k) at ∙ get_at_front before node nodes in
    elim (lies_in node.parent dir) as (λ b. first_named all (cond b (n ∷ entries_from (suc n) nodes dir) (entries_from (suc n) nodes dir)) name ≡ cond (b && pointwise nat_eq node.name name) (Some n) (child_from (suc n) nodes dir name)) [
      | true ↦ ap (λ (o : Option Node). cond (has_name o name) (Some n) (first_named all (entries_from (suc n) nodes dir) name)) here ∙ ap (λ (o : Option ℕ). cond (pointwise nat_eq node.name name) (Some n) o) later
      | false ↦ later
    ]

pub found : (nodes : List Node) (dir : ℕ) (name : List ℕ) → first_named nodes (entries_from 0 nodes dir) name ≡ child nodes dir name
unfolding child
found nodes dir name = found_from nodes [] nodes dir name 0 refl refl

-- a child's number is that of a node
child_from_range : (n : ℕ) (nodes : List Node) (dir : ℕ) (name : List ℕ) (k : ℕ) → child_from n nodes dir name ≡ Some k → k < n + length nodes
child_from_range n [] dir name k e = absurd cc
child_from_range n (node ∷ nodes) dir name k e =
    elim (is_entry node dir name) as (λ b. cond b (Some n) (child_from (suc n) nodes dir name) ≡ Some k → k < n + suc (length nodes)) [
      | true ↦ λ h. let is : n ≡ k = cc h in omega arith
      | false ↦ λ h. let r = child_from_range (suc n) nodes dir name k h in omega arith
    ] e

pub child_range : (nodes : List Node) (dir : ℕ) (name : List ℕ) (k : ℕ) → child nodes dir name ≡ Some k → k < length nodes
unfolding child
child_range nodes dir name k e = let r = child_from_range 0 nodes dir name k e in omega arith

-- one more node
pub entries_more : (n : ℕ) (nodes : List Node) (node : Node) (dir : ℕ) → entries_from n (nodes ++ node ∷ []) dir ≡ entries_from n nodes dir ++ cond (lies_in node.parent dir) ((n + length nodes) ∷ []) []
entries_more n [] node dir = elim (lies_in node.parent dir) as (λ b. cond b (n ∷ []) [] ≡ cond b ((n + 0) ∷ []) []) [ true ↦ ap (λ (k : ℕ). k ∷ []) (omega arith) | false ↦ refl ]
entries_more n (x ∷ nodes) node dir =
    let later = entries_more (suc n) nodes node dir in
    let at : suc n + length nodes ≡ n + suc (length nodes) = omega arith in
    let later2 : entries_from (suc n) (nodes ++ node ∷ []) dir ≡ entries_from (suc n) nodes dir ++ cond (lies_in node.parent dir) ((n + suc (length nodes)) ∷ []) [] =
    later ∙ ap (λ (k : ℕ). entries_from (suc n) nodes dir ++ cond (lies_in node.parent dir) (k ∷ []) []) at in
    elim (lies_in x.parent dir) as (λ b. cond b (n ∷ entries_from (suc n) (nodes ++ node ∷ []) dir) (entries_from (suc n) (nodes ++ node ∷ []) dir) ≡ cond b (n ∷ entries_from (suc n) nodes dir) (entries_from (suc n) nodes dir) ++ cond (lies_in node.parent dir) ((n + suc (length nodes)) ∷ []) []) [
      | true ↦ ap (λ (t : List ℕ). n ∷ t) later2
      | false ↦ later2
    ]

nothing_at : (d : ℕ) → get_or ([] ∷ []) d (nil_of ℕ) ≡ []
nothing_at zero = refl
nothing_at (suc d) = refl

-- ---- going through a list

pub front_is : {A : Type 0} (xs : List A) (i : ℕ) (x : A) → i < length xs → x ≡ get_or xs i x → drop i xs ≡ x ∷ drop (suc i) xs
front_is {A} xs i x lt e = drop-cons xs i x lt ∙ ap (λ (y : A). y ∷ drop (suc i) xs) (sym e)

pub at_end : {A : Type 0} (xs : List A) (i : ℕ) → length xs ≤ i → drop i xs ≡ []
at_end xs i le = nil_from_length (drop i xs) (omega (arith, length-drop i xs))

pub named_here : (nodes : List Node) (among name : List ℕ) (i : ℕ) → i < length among → has_name (slice_get nodes (get_or among i 0)) name ≡ true
    → first_named nodes (drop i among) name ≡ Some (get_or among i 0)
unfolding first_named
named_here nodes among name i lt h =
    ap (λ (ns : List ℕ). first_named nodes ns name) (drop-cons among i 0 lt) ∙ ap (λ (b : Bool). cond b (Some (get_or among i 0)) (first_named nodes (drop (suc i) among) name)) h

pub named_later : (nodes : List Node) (among name : List ℕ) (i : ℕ) → i < length among → has_name (slice_get nodes (get_or among i 0)) name ≡ false
    → first_named nodes (drop i among) name ≡ first_named nodes (drop (i + 1) among) name
unfolding first_named
named_later nodes among name i lt h =
    let e : suc i ≡ i + 1 = omega arith in
    ap (λ (ns : List ℕ). first_named nodes ns name) (drop-cons among i 0 lt) ∙ ap (λ (b : Bool). cond b (Some (get_or among i 0)) (first_named nodes (drop (suc i) among) name)) h
    ∙ ap (λ (k : ℕ). first_named nodes (drop k among) name) e

pub named_none : (nodes : List Node) (among name : List ℕ) (i : ℕ) → length among ≤ i → first_named nodes (drop i among) name ≡ None
unfolding first_named
named_none nodes among name i le = ap (λ (ns : List ℕ). first_named nodes ns name) (at_end among i le)

pub descend_none : (nodes : List Node) (at : ℕ) (names : List (List ℕ)) (i : ℕ) (x : List ℕ) → i < length names → x ≡ get_or names i x → child nodes at x ≡ None
    → descend nodes at (drop i names) ≡ at
unfolding descend
descend_none nodes at names i x lt e none =
    ap (descend nodes at) (front_is names i x lt e) ∙ ap (λ (o : Option ℕ). elim o [ None ↦ at | Some n ↦ descend nodes n (drop (suc i) names) ]) none

pub descend_some : (nodes : List Node) (at : ℕ) (names : List (List ℕ)) (i : ℕ) (x : List ℕ) (n : ℕ) → i < length names → x ≡ get_or names i x → child nodes at x ≡ Some n
    → descend nodes at (drop i names) ≡ descend nodes n (drop (i + 1) names)
unfolding descend
descend_some nodes at names i x n lt e found =
    let k : suc i ≡ i + 1 = omega arith in
    ap (descend nodes at) (front_is names i x lt e) ∙ ap (λ (o : Option ℕ). elim o [ None ↦ at | Some n ↦ descend nodes n (drop (suc i) names) ]) found
    ∙ ap (λ (j : ℕ). descend nodes n (drop j names)) k

pub descend_end : (nodes : List Node) (at : ℕ) (names : List (List ℕ)) (i : ℕ) → length names ≤ i → descend nodes at (drop i names) ≡ at
unfolding descend
descend_end nodes at names i le = ap (descend nodes at) (at_end names i le)

pub with_next : (nodes : List Node) (items : List FileItem) (i : ℕ) (x : FileItem) → i < length items → x ≡ get_or items i x
    → with_items nodes (drop i items) ≡ with_items (nodes ++ node_for nodes x ∷ []) (drop (i + 1) items)
with_next nodes items i x lt e =
    let k : suc i ≡ i + 1 = omega arith in
    ap (with_items nodes) (front_is items i x lt e) ∙ ap (λ (j : ℕ). with_items (nodes ++ node_for nodes x ∷ []) (drop j items)) k

pub with_all : (nodes : List Node) (items : List FileItem) (i : ℕ) → length items ≤ i → with_items nodes (drop i items) ≡ nodes
with_all nodes items i le = ap (with_items nodes) (at_end items i le)

pub starts : (items : List FileItem) → with_items (root ∷ []) items ≡ nodes_of items
unfolding nodes_of
starts items = refl

-- ---- the lists as they lie in memory

abbrev pub Row : Type 0
Row = Vec ℕ Global

abbrev pub items_of : Row → List ℕ
items_of v = v.items

abbrev pub lists : List Row → List (List ℕ)
lists rows = map items_of rows

pub row_at : (rows : List Row) (p : ℕ) (x : Row) → p < length rows → x ≡ get_or rows p x → get_or (lists rows) p [] ≡ x.items
row_at [] p x lt e = absurd (omega arith)
row_at (row ∷ rows) zero x lt e = ap items_of (sym e)
row_at (row ∷ rows) (suc p) x lt e = row_at rows p x (omega arith) e

length_lists : (rows : List Row) → length (lists rows) ≡ length rows
length_lists [] = refl
length_lists (r ∷ rows) = ap suc (length_lists rows)

pub row_past : (rows : List Row) (p : ℕ) → length rows ≤ p → get_or (lists rows) p [] ≡ []
row_past [] p le = refl
row_past (row ∷ rows) zero le = absurd (omega arith)
row_past (row ∷ rows) (suc p) le = row_past rows p (omega arith)

-- what a directory has under a name, by its list
pub found_in : (nodes : List Node) (ls : List (List ℕ)) (dir : ℕ) (xs name : List ℕ) → AreEntries nodes ls → get_or ls dir [] ≡ xs → first_named nodes xs name ≡ child nodes dir name
found_in nodes ls dir xs name are e = ap (λ (ns : List ℕ). first_named nodes ns name) (sym e ∙ are.each dir) ∙ found nodes dir name

snoc_nil : (ls : List (List ℕ)) (d : ℕ) → get_or (ls ++ [] ∷ []) d [] ≡ get_or ls d []
snoc_nil [] zero = refl
snoc_nil [] (suc d) = refl
snoc_nil (x ∷ ls) zero = refl
snoc_nil (x ∷ ls) (suc d) = snoc_nil ls d

-- one more node, and its number in the list of its directory
each_more : (nodes : List Node) (ls : List (List ℕ)) (node : Node) (dir : ℕ) (new : List ℕ) → AreEntries nodes ls → dir < length ls → node.parent ≡ Some dir
    → new ≡ get_or ls dir [] ++ length nodes ∷ [] → (d : ℕ) → get_or (set ls dir new ++ [] ∷ []) d [] ≡ entries_from 0 (nodes ++ node ∷ []) d
each_more nodes ls node dir new are lt lies is d =
    let more : entries_from 0 (nodes ++ node ∷ []) d ≡ entries_from 0 nodes d ++ cond (eqb dir d) (length nodes ∷ []) [] =
    entries_more 0 nodes node d ∙ ap (λ (o : Option ℕ). entries_from 0 nodes d ++ cond (lies_in o d) ((0 + length nodes) ∷ []) []) lies
    ∙ ap (λ (k : ℕ). entries_from 0 nodes d ++ cond (eqb dir d) (k ∷ []) []) (omega arith) in
    snoc_nil (set ls dir new) d ∙ elim (eqb dir d) as (λ b. eqb dir d ≡ b → get_or (set ls dir new) d [] ≡ entries_from 0 nodes d ++ cond b (length nodes ∷ []) []) [
      | true ↦ λ h. let same : dir ≡ d = eqb-true dir d h in
          ap (λ (k : ℕ). get_or (set ls dir new) k []) (sym same) ∙ (rw get_or-set_same refl) ∙ is ∙ ap (λ (xs : List ℕ). xs ++ length nodes ∷ []) (are.each dir) ∙ ap (λ (k : ℕ). entries_from 0 nodes k ++ length nodes ∷ []) same
      | false ↦ λ h. let apart : d ≢ dir = λ e. eqb-false dir d h (sym e) in
          (rw get_or-set_other (are.each d)) ∙ sym (append-nil (entries_from 0 nodes d))
    ] refl ∙ sym more

pub more_entries : (nodes : List Node) (rows : List Row) (node : Node) (dir : ℕ) (was new nothing : Row) → AreEntries nodes (lists rows) → dir < length nodes → was ≡ get_or rows dir was
    → node.parent ≡ Some dir → new.items ≡ was.items ++ length nodes ∷ [] → nothing.items ≡ [] → AreEntries (nodes ++ node ∷ []) (lists (set rows dir new ++ nothing ∷ []))
more_entries nodes rows node dir was new nothing are lt at lies is empty =
    let within : dir < length (lists rows) = omega (arith, are.count) in
    let row : get_or (lists rows) dir [] ≡ was.items = row_at rows dir was (omega (arith, length_lists rows, are.count)) at in
    let shape : lists (set rows dir new ++ nothing ∷ []) ≡ set (lists rows) dir new.items ++ [] ∷ [] =
    map-append items_of (set rows dir new) (nothing ∷ []) ∙ ap (λ (xs : List (List ℕ)). xs ++ nothing.items ∷ []) (map-set items_of rows dir new) ∙ ap (λ (x : List ℕ). set (lists rows) dir new.items ++ x ∷ []) empty in
    record {
      count = ap length shape ∙ omega (arith, length-append (set (lists rows) dir new.items) ([] ∷ []), length-set (lists rows) dir new.items, length-append nodes (node ∷ []), are.count);
      each = λ d. ap (λ (ls : List (List ℕ)). get_or ls d []) shape ∙ each_more nodes (lists rows) node dir new.items are within lies (is ∙ ap (λ (xs : List ℕ). xs ++ length nodes ∷ []) (sym row)) d;
    }

-- ---- other bytes in a file

pub got : {A : Type 0} (xs : List A) (i : ℕ) (x : A) → i < length xs → x ≡ get_or xs i x → slice_get xs i ≡ Some x
got [] i x lt e = absurd (omega arith)
got {A} (y ∷ xs) zero x lt e = ap (λ (z : A). Some z) (sym e)
got (y ∷ xs) (suc i) x lt e = got xs i x (omega arith) e

pub got_past : {A : Type 0} (xs : List A) (i : ℕ) → length xs ≤ i → slice_get xs i ≡ None
got_past [] i le = refl
got_past (y ∷ xs) zero le = absurd (omega arith)
got_past (y ∷ xs) (suc i) le = got_past xs i (omega arith)

entries_kept_from : (k : ℕ) (nodes : List Node) (n : ℕ) (node : Node) (b : List ℕ) (dir : ℕ) → slice_get nodes n ≡ Some node
    → entries_from k (set nodes n (record node { body = Some b })) dir ≡ entries_from k nodes dir
entries_kept_from k [] n node b dir e = absurd cc
entries_kept_from k (x ∷ nodes) zero node b dir e =
    let same : x ≡ node = cc e in
    ap (λ (y : Node). cond (lies_in y.parent dir) (k ∷ entries_from (suc k) nodes dir) (entries_from (suc k) nodes dir)) (sym same)
entries_kept_from k (x ∷ nodes) (suc n) node b dir e =
    ap (λ (xs : List ℕ). cond (lies_in x.parent dir) (k ∷ xs) xs) (entries_kept_from (suc k) nodes n node b dir e)

kept_in : (nodes : List Node) (ls : List (List ℕ)) (n : ℕ) (b : List ℕ) (o : Option Node) → slice_get nodes n ≡ o → AreEntries nodes ls → AreEntries (put_in nodes n b o) ls
kept_in nodes ls n b None e are = are
kept_in nodes ls n b (Some node) e are = record {
  count = are.count ∙ sym (length-set nodes n (record node { body = Some b }));
  each = λ dir. are.each dir ∙ sym (entries_kept_from 0 nodes n node b dir e);
}

pub entries_kept : (nodes : List Node) (ls : List (List ℕ)) (n : ℕ) (b : List ℕ) → AreEntries nodes ls → AreEntries (with_body nodes n b) ls
entries_kept nodes ls n b are = kept_in nodes ls n b (slice_get nodes n) refl are

-- the root alone, with an empty list
pub first_entries : (nodes : List Node) (rows : List Row) (row : Row) → nodes ≡ root ∷ [] → rows ≡ row ∷ [] → row.items ≡ [] → AreEntries nodes (lists rows)
first_entries nodes rows row e1 e2 e3 =
    let ls : lists rows ≡ [] ∷ [] = ap lists e2 ∙ ap (λ (x : List ℕ). x ∷ []) e3 in
    record {
      count = ap length ls ∙ sym (ap length e1);
      each = λ d. ap (λ (x : List (List ℕ)). get_or x d []) ls ∙ nothing_at d ∙ sym (ap (λ (ns : List Node). entries_from 0 ns d) e1);
    }
