-- Each node of a parent has its copy.
use Rattle.std.proofs.Common.{◌≡◌, ◌⊎◌, inl, inr, ℕ, ◌+◌, ◌/◌, ◌%◌, ◌<◌, Bool, true, false, cond, ◌||◌, List, [], ◌∷◌, ◌++◌, map, length, drop, get_or, Option, Some, None, is_some, refl, sym, ap, ◌∙◌, subst, arith, append_assoc, Ordering, Less, Equal, Greater}
use Rattle.std.specs.Prelude.{T, nat_eq, nat_lt, ◌==◌, codes, unwrap_or}
use Rattle.std.specs.Option.{option_map}
use Rattle.std.specs.Ordering.{is_eq, is_lt, eq_by_cmp}
use Rattle.std.specs.Cmp.{eq_by_cmp_equiv}
use Rattle.std.specs.Cmp.Lexicographic.{pointwise, nat_list_cmp_total}
use Rattle.std.specs.FinMap.{get, contains_key, insert, entries, find, is_sorted, get-entries, entries_sorted}
use Rattle.std.specs.FinMap.Entries.{below_all, where_key}
use Rattle.std.proofs.lemmas.Bool.{eqb-true, ltb-false}
use Rattle.neph_base.specs.Path.{slash}
use Rattle.neph_tree.specs.Places.{behind, front_of_children, decimal, home, is_within, ancestors}
use Rattle.neph_tree.specs.Nodes.{Nodes, subtree, with_missing, with_each_missing, with_node, with_nodes}
use Rattle.neph_tree.proofs.EntryLemmas.{order, get-where, entries-retain_keys, first_of, second_of, tied_same}
use Rattle.neph_tree.proofs.GrowthLemmas.{insert_there, insert_elsewhere}
use Rattle.neph_tree.proofs.Within.{bytes_same}
use Rattle.neph_xsclone.specs.Rewriting.{moved_or_same, value_in_clone, copied, copies_within, backend}
use Rattle.neph_xsclone.specs.Copying.{CopiesNodeByNode}
use Rattle.neph_xsclone.proofs.Paths.{behind_some}

-- ---- entries of a list
abbrev IsEntry : List ℕ → List ℕ → List (List ℕ × List ℕ) → Type 0
IsEntry k v [] = ⊥
IsEntry k v (e ∷ es) = ((e.0 ≡ k) × (e.1 ≡ v)) ⊎ IsEntry k v es

abbrev Avoids : List ℕ → List (List ℕ × List ℕ) → Type 0
Avoids k [] = Unit {0}
Avoids k (e ∷ es) = (e.0 ≡ k → ⊥) × Avoids k es

abbrev Distinct : List (List ℕ × List ℕ) → Type 0
Distinct [] = Unit {0}
Distinct (e ∷ es) = Avoids e.0 es × Distinct es

-- they all begin with this text
abbrev AllBegin : List ℕ → List (List ℕ × List ℕ) → Type 0
AllBegin top [] = Unit {0}
AllBegin top (e ∷ es) = ((tail : List ℕ) × (e.0 ≡ top ++ tail)) × AllBegin top es

abbrev AllAvoid : List (List ℕ × List ℕ) → List (List ℕ × List ℕ) → Type 0
AllAvoid [] ys = Unit {0}
AllAvoid (x ∷ xs) ys = Avoids x.0 ys × AllAvoid xs ys

abbrev IsApart : List ℕ → List ℕ → Type 0
IsApart a b = (s t : List ℕ) → a ++ s ≡ b ++ t → ⊥

IsEntry-left : (k v : List ℕ) (xs ys : List (List ℕ × List ℕ)) → IsEntry k v xs → IsEntry k v (xs ++ ys)
IsEntry-left k v [] ys h = absurd h
IsEntry-left k v (x ∷ xs) ys h = elim h [ inl e ↦ inl e | inr more ↦ inr (IsEntry-left k v xs ys more) ]

IsEntry-right : (k v : List ℕ) (xs ys : List (List ℕ × List ℕ)) → IsEntry k v ys → IsEntry k v (xs ++ ys)
IsEntry-right k v [] ys h = h
IsEntry-right k v (x ∷ xs) ys h = inr (IsEntry-right k v xs ys h)

Avoids-append : (k : List ℕ) (xs ys : List (List ℕ × List ℕ)) → Avoids k xs → Avoids k ys → Avoids k (xs ++ ys)
Avoids-append k [] ys a b = b
Avoids-append k (x ∷ xs) ys a b = (a.0, Avoids-append k xs ys a.1 b)

Distinct-append : (xs ys : List (List ℕ × List ℕ)) → Distinct xs → Distinct ys → AllAvoid xs ys → Distinct (xs ++ ys)
Distinct-append [] ys a b c = b
Distinct-append (x ∷ xs) ys a b c = (Avoids-append x.0 xs ys a.0 c.0, Distinct-append xs ys a.1 b c.1)

AllAvoid-append : (xs ys zs : List (List ℕ × List ℕ)) → AllAvoid xs zs → AllAvoid ys zs → AllAvoid (xs ++ ys) zs
AllAvoid-append [] ys zs a b = b
AllAvoid-append (x ∷ xs) ys zs a b = (a.0, AllAvoid-append xs ys zs a.1 b)

begins_apart : (a b k s : List ℕ) → IsApart a b → k ≡ a ++ s → (ys : List (List ℕ × List ℕ)) → AllBegin b ys → Avoids k ys
begins_apart a b k s apart is [] h = tt
begins_apart a b k s apart is (y ∷ ys) h = (λ same. apart s h.0.0 (sym is ∙ sym same ∙ h.0.1), begins_apart a b k s apart is ys h.1)

all_apart : (a b : List ℕ) → IsApart a b → (xs ys : List (List ℕ × List ℕ)) → AllBegin a xs → AllBegin b ys → AllAvoid xs ys
all_apart a b apart [] ys h k = tt
all_apart a b apart (x ∷ xs) ys h k = (begins_apart a b x.0 h.0.0 apart h.0.1 ys k, all_apart a b apart xs ys h.1 k)

-- ---- what the store has after many writes
missing_kept : (m : Nodes) (p k v : List ℕ) → get m k ≡ Some v → get (with_missing m p) k ≡ Some v
missing_kept m p k v h =
    elim (contains_key m p) as (λ b. contains_key m p ≡ b → get (cond b m (insert m p [])) k ≡ Some v) [
      | true ↦ λ e. h
      | false ↦ λ e. insert_elsewhere m p [] k (λ same. let bad = sym e ∙ ap (λ q. contains_key m q) (sym same) ∙ ap is_some h in absurd cc) ∙ h
    ] refl

each_kept : (m : Nodes) (ps : List (List ℕ)) (k v : List ℕ) → get m k ≡ Some v → get (with_each_missing m ps) k ≡ Some v
each_kept m [] k v h = h
each_kept m (p ∷ ps) k v h = each_kept (with_missing m p) ps k v (missing_kept m p k v h)

kept : (m : Nodes) (es : List (List ℕ × List ℕ)) (k v : List ℕ) → get m k ≡ Some v → Avoids k es → get (with_nodes m es) k ≡ Some v
kept m [] k v h a = h
kept m (e ∷ es) k v h a =
    kept (with_node m e.0 e.1) es k v (insert_elsewhere (with_each_missing m (ancestors e.0)) e.0 e.1 k (λ same. a.0 (sym same)) ∙ each_kept m (ancestors e.0) k v h) a.1

has_each : (m : Nodes) (es : List (List ℕ × List ℕ)) (k v : List ℕ) → IsEntry k v es → Distinct es → get (with_nodes m es) k ≡ Some v
has_each m [] k v h d = absurd h
has_each m (e ∷ es) k v h d =
    elim h [
      | inl is ↦
          let now = with_each_missing m (ancestors e.0) in
          let here : get (insert now e.0 e.1) k ≡ Some v = ap (λ q. get (insert now e.0 e.1) q) (sym is.0) ∙ insert_there now e.0 e.1 ∙ ap Some is.1 in
          let Away : List ℕ → Type 0 = λ q. Avoids q es in
          kept (with_node m e.0 e.1) es k v here (subst Away is.0 d.0)
      | inr more ↦ has_each (with_node m e.0 e.1) es k v more d.1
    ]

-- ---- a moved path
some_one : (x y : List ℕ) → Some x ≡ Some y → x ≡ y
some_one x y e = cc

nothing_more : (xs : List ℕ) → xs ++ [] ≡ xs
nothing_more [] = refl
nothing_more (x ∷ xs) = ap (λ l. x ∷ l) (nothing_more xs)

cancel : (xs ys zs : List ℕ) → xs ++ ys ≡ xs ++ zs → ys ≡ zs
cancel [] ys zs e = e
cancel (x ∷ xs) ys zs e = cancel xs ys zs (ap (λ l. drop 1 l) e)

abbrev IsMoved : List ℕ → List ℕ → List ℕ → Type 0
IsMoved from to path = (tail : List ℕ) × (path ≡ from ++ tail) × (moved_or_same from to path ≡ to ++ tail)

moved_tail : (from to path : List ℕ) → (length from == 1) ≡ false → is_within from path ≡ true → IsMoved from to path
moved_tail from to path long w = by (pointwise nat_eq path from) refl where
  by : (b : Bool) → pointwise nat_eq path from ≡ b → IsMoved from to path
  by true e = (
    [],
    bytes_same path from e ∙ sym (nothing_more from),
    ap (λ b. unwrap_or (cond b (Some to) (option_map (λ r. to ++ slash ∷ r) (behind (from ++ slash ∷ []) path))) path) e ∙ sym (nothing_more to),
  )
  by false e = below (behind (from ++ slash ∷ []) path) refl where
    found : is_some (behind (from ++ slash ∷ []) path) ≡ true
    found = sym (ap (λ b. b || is_some (behind (front_of_children from) path)) e ∙ ap (λ b. is_some (behind (cond b from (from ++ slash ∷ [])) path)) long) ∙ w

    below : (o : Option (List ℕ)) → behind (from ++ slash ∷ []) path ≡ o → IsMoved from to path
    below None h = absurd (let bad = sym (ap is_some h) ∙ found in cc)
    below (Some r) h = (
      slash ∷ r,
      behind_some (from ++ slash ∷ []) path r h ∙ append_assoc from (slash ∷ []) r,
      ap (λ b. unwrap_or (cond b (Some to) (option_map (λ s. to ++ slash ∷ s) (behind (from ++ slash ∷ []) path))) path) e ∙ ap (λ o. unwrap_or (option_map (λ s. to ++ slash ∷ s) o) path) h,
    )

moved_once : (from to p q : List ℕ) → IsMoved from to p → IsMoved from to q → moved_or_same from to p ≡ moved_or_same from to q → p ≡ q
moved_once from to p q a b e = a.1 ∙ ap (λ t. from ++ t) (cancel to a.0 b.0 (sym a.2 ∙ e ∙ b.2)) ∙ sym b.1

-- ---- the copies of the nodes within a place
abbrev AllWithin : List ℕ → List (List ℕ × List ℕ) → Type 0
AllWithin from [] = Unit {0}
AllWithin from (e ∷ es) = (is_within from e.0 ≡ true) × AllWithin from es

where_within : (from : List ℕ) (es : List (List ℕ × List ℕ)) → AllWithin from (where_key order (λ p. is_within from p) es)
where_within from [] = tt
where_within from (e ∷ es) =
    let rest = where_within from es in
    elim (is_within from e.0) as (λ b. is_within from e.0 ≡ b → AllWithin from (cond b (e ∷ where_key order (λ p. is_within from p) es) (where_key order (λ p. is_within from p) es))) [
      | true ↦ λ w. (w, rest)
      | false ↦ λ w. rest
    ] refl

all_within : (m : Nodes) (from : List ℕ) → AllWithin from (entries (subtree m from))
all_within m from =
    let All : List (List ℕ × List ℕ) → Type 0 = λ es. AllWithin from es in
    subst All (sym (entries-retain_keys m (λ p. is_within from p))) (where_within from (entries m))

not_less : (o : Ordering) → is_eq o ≡ true → T (is_lt o) → ⊥
not_less Less e h = absurd cc
not_less Equal e h = h
not_less Greater e h = h

not_below : (k q : List ℕ) → T (is_lt (order k q)) → q ≡ k → ⊥
not_below k q h e =
    let Lt : List ℕ → Type 0 = λ x. T (is_lt (order k x)) in
    not_less (order k k) ((eq_by_cmp_equiv nat_list_cmp_total).refl k) (subst Lt e h)

module _ (parent child : ℕ) (from to : List ℕ) (long : (length from == 1) ≡ false) where
  copies_avoid : (e : List ℕ × List ℕ) → is_within from e.0 ≡ true → (es : List (List ℕ × List ℕ)) → AllWithin from es → T (below_all order e.0 es) → Avoids (moved_or_same from to e.0) (map (λ x. copied parent child from to x) es)
  copies_avoid e w [] h s = tt
  copies_avoid e w (d ∷ es) h s = (
    λ same. not_below e.0 d.0 (first_of _ _ s) (moved_once from to d.0 e.0 (moved_tail from to d.0 long h.0) (moved_tail from to e.0 long w) same),
    copies_avoid e w es h.1 (second_of _ _ s),
  )

  copies_distinct : (es : List (List ℕ × List ℕ)) → AllWithin from es → T (is_sorted order es) → Distinct (map (λ x. copied parent child from to x) es)
  copies_distinct [] h s = tt
  copies_distinct (e ∷ es) h s = (copies_avoid e h.0 es h.1 (first_of _ _ s), copies_distinct es h.1 (second_of _ _ s))

  copies_begin : (es : List (List ℕ × List ℕ)) → AllWithin from es → AllBegin to (map (λ x. copied parent child from to x) es)
  copies_begin [] h = tt
  copies_begin (e ∷ es) h = let m = moved_tail from to e.0 long h.0 in ((m.0, m.2), copies_begin es h.1)

  copies_entry : (k v : List ℕ) (es : List (List ℕ × List ℕ)) → IsEntry k v es → IsEntry (moved_or_same from to k) (value_in_clone parent child k v) (map (λ x. copied parent child from to x) es)
  copies_entry k v [] h = absurd h
  copies_entry k v (e ∷ es) h =
      elim h [
        | inl is ↦ inl (ap (λ p. moved_or_same from to p) is.0, ap (λ p. value_in_clone parent child p e.1) is.0 ∙ ap (λ x. value_in_clone parent child k x) is.1)
        | inr more ↦ inr (copies_entry k v es more)
      ]

find_entry : (k v : List ℕ) (es : List (List ℕ × List ℕ)) → find order k es ≡ Some v → IsEntry k v es
find_entry k v [] h = absurd cc
find_entry k v (e ∷ es) h =
    elim (eq_by_cmp order k e.0) as (λ b. eq_by_cmp order k e.0 ≡ b → cond b (Some e.1) (find order k es) ≡ Some v → IsEntry k v (e ∷ es)) [
      | true ↦ λ t s. inl (sym (tied_same k e.0 t), some_one e.1 v s)
      | false ↦ λ t s. inr (find_entry k v es s)
    ] refl h

within_entry : (m : Nodes) (from k v : List ℕ) → is_within from k ≡ true → get m k ≡ Some v → IsEntry k v (entries (subtree m from))
within_entry m from k v w h =
    find_entry k v (entries (subtree m from)) (sym (get-entries (subtree m from) k) ∙ get-where m (λ p. is_within from p) k ∙ ap (λ b. cond b (get m k) None) w ∙ h)

-- ---- the places lie apart
home_apart : (kind : List ℕ) (d : ℕ) → 0 < d → IsApart (home d) (backend kind d)
home_apart kind d some s t e = by (nat_lt d 10) refl (ap (λ l. get_or l 14 0) e) where
  by : (b : Bool) → nat_lt d 10 ≡ b → get_or ((codes "/local/domain/" ++ cond b ((48 + d) ∷ []) ((48 + d / 10) ∷ (48 + d % 10) ∷ [])) ++ s) 14 0 ≡ 48 → ⊥
  by true l h = omega (arith, some, h)
  by false l h = omega (arith, ltb-false d 10 l, h)

nine_c : ◌≡◌ {A = ℕ} 57 99 → ⊥
nine_c e = omega (arith, e)

nine_v : ◌≡◌ {A = ℕ} 57 118 → ⊥
nine_v e = omega (arith, e)

c_v : ◌≡◌ {A = ℕ} 99 118 → ⊥
c_v e = omega (arith, e)

first_apart : (d : ℕ) → IsApart (backend (codes "9pfs") d) (backend (codes "console") d)
first_apart d s t e = nine_c (ap (λ l. get_or l 24 0) e)

second_apart : (d : ℕ) → IsApart (backend (codes "9pfs") d) (backend (codes "vif") d)
second_apart d s t e = nine_v (ap (λ l. get_or l 24 0) e)

third_apart : (d : ℕ) → IsApart (backend (codes "console") d) (backend (codes "vif") d)
third_apart d s t e = c_v (ap (λ l. get_or l 24 0) e)

two_more : (a b : ℕ) (xs : List ℕ) → (length (a ∷ b ∷ xs) == 1) ≡ false
two_more a b xs =
    elim (length (a ∷ b ∷ xs) == 1) as (λ t. (length (a ∷ b ∷ xs) == 1) ≡ t → t ≡ false) [
      | true ↦ λ e. absurd (omega (arith, eqb-true (length (a ∷ b ∷ xs)) 1 e))
      | false ↦ λ e. refl
    ] refl

home_long : (d : ℕ) → (length (home d) == 1) ≡ false
home_long d = two_more 47 108 (codes "ocal/domain/" ++ decimal d)

backend_long : (kind : List ℕ) (d : ℕ) → (length (backend kind d) == 1) ≡ false
backend_long kind d = two_more 47 108 (codes "ocal/domain/0/backend/" ++ kind ++ slash ∷ decimal d)

pub copies_node_by_node : CopiesNodeByNode
copies_node_by_node m parent child some = record {
  at_home = λ k v w h. has_each m all _ _ (IsEntry-left _ _ (one ++ two ++ three) four (IsEntry-left _ _ (one ++ two) three (IsEntry-left _ _ one two (copies_entry parent child (home parent) (home child) (home_long parent) k v _ (within_entry m (home parent) k v w h))))) distinct;
  at_9pfs = λ k v w h. has_each m all _ _ (IsEntry-left _ _ (one ++ two ++ three) four (IsEntry-left _ _ (one ++ two) three (IsEntry-right _ _ one two (copies_entry parent child (backend (codes "9pfs") parent) (backend (codes "9pfs") child) (backend_long (codes "9pfs") parent) k v _ (within_entry m (backend (codes "9pfs") parent) k v w h))))) distinct;
  at_console = λ k v w h. has_each m all _ _ (IsEntry-left _ _ (one ++ two ++ three) four (IsEntry-right _ _ (one ++ two) three (copies_entry parent child (backend (codes "console") parent) (backend (codes "console") child) (backend_long (codes "console") parent) k v _ (within_entry m (backend (codes "console") parent) k v w h)))) distinct;
  at_vif = λ k v w h. has_each m all _ _ (IsEntry-right _ _ (one ++ two ++ three) four (copies_entry parent child (backend (codes "vif") parent) (backend (codes "vif") child) (backend_long (codes "vif") parent) k v _ (within_entry m (backend (codes "vif") parent) k v w h))) distinct;
}
  where
    one : List (List ℕ × List ℕ)
    one = copies_within m parent child (home parent) (home child)

    two : List (List ℕ × List ℕ)
    two = copies_within m parent child (backend (codes "9pfs") parent) (backend (codes "9pfs") child)

    three : List (List ℕ × List ℕ)
    three = copies_within m parent child (backend (codes "console") parent) (backend (codes "console") child)

    four : List (List ℕ × List ℕ)
    four = copies_within m parent child (backend (codes "vif") parent) (backend (codes "vif") child)

    all : List (List ℕ × List ℕ)
    all = one ++ two ++ three ++ four

    begin : (from to : List ℕ) → (length from == 1) ≡ false → AllBegin to (copies_within m parent child from to)
    begin from to long = copies_begin parent child from to long (entries (subtree m from)) (all_within m from)

    differ : (from to : List ℕ) → (length from == 1) ≡ false → Distinct (copies_within m parent child from to)
    differ from to long = copies_distinct parent child from to long (entries (subtree m from)) (all_within m from) (entries_sorted (subtree m from))

    distinct : Distinct (one ++ two ++ three ++ four)
    distinct =
        let b1 = begin (home parent) (home child) (home_long parent) in
        let b2 = begin (backend (codes "9pfs") parent) (backend (codes "9pfs") child) (backend_long (codes "9pfs") parent) in
        let b3 = begin (backend (codes "console") parent) (backend (codes "console") child) (backend_long (codes "console") parent) in
        let b4 = begin (backend (codes "vif") parent) (backend (codes "vif") child) (backend_long (codes "vif") parent) in
        let d12 : Distinct (one ++ two) = Distinct-append one two (differ (home parent) (home child) (home_long parent)) (differ (backend (codes "9pfs") parent) (backend (codes "9pfs") child) (backend_long (codes "9pfs") parent)) (all_apart (home child) (backend (codes "9pfs") child) (home_apart (codes "9pfs") child some) one two b1 b2) in
        let a13 = all_apart (home child) (backend (codes "console") child) (home_apart (codes "console") child some) one three b1 b3 in
        let a23 = all_apart (backend (codes "9pfs") child) (backend (codes "console") child) (first_apart child) two three b2 b3 in
        let d123 : Distinct ((one ++ two) ++ three) = Distinct-append (one ++ two) three d12 (differ (backend (codes "console") parent) (backend (codes "console") child) (backend_long (codes "console") parent)) (AllAvoid-append one two three a13 a23) in
        let a14 = all_apart (home child) (backend (codes "vif") child) (home_apart (codes "vif") child some) one four b1 b4 in
        let a24 = all_apart (backend (codes "9pfs") child) (backend (codes "vif") child) (second_apart child) two four b2 b4 in
        let a34 = all_apart (backend (codes "console") child) (backend (codes "vif") child) (third_apart child) three four b3 b4 in
        Distinct-append ((one ++ two) ++ three) four d123 (differ (backend (codes "vif") parent) (backend (codes "vif") child) (backend_long (codes "vif") parent)) (AllAvoid-append (one ++ two) three four (AllAvoid-append one two four a14 a24) a34)
