-- What a node finds under a name.
use Rattle.std.proofs.Common.{◌≡◌, ℕ, Bool, true, false, cond, ◌&&◌, ◌||◌, List, [], ◌∷◌, map, Option, Some, None, is_some, refl, sym, ap, ◌∙◌, subst, Vec, Less}
use Rattle.std.specs.Prelude.{T}
use Rattle.std.specs.Ordering.{is_eq, is_lt, eq_by_cmp}
use Rattle.std.specs.Cmp.Lexicographic.{nat_list_cmp_total}
use Rattle.std.specs.List.{filter_map, cons_option, AllByRecursion}
use Rattle.std.specs.List.Sorted.{IsStrictlySortedBy}
use Rattle.std.specs.Map.{lookup, keys_of, KeepsOthers}
use Rattle.std.specs.BTreeMap.{is_at}
use Rattle.std.specs.FinMap.{slice_cmp-IsAntisymmetric, nat_cmp-IsAntisymmetric}
use Rattle.std.specs.FinMap.Entries.{find, is_sorted, below_all, same_entries}
use Rattle.std.specs.Cmp.{eq_by_cmp_equiv}
use Rattle.neph_tree.specs.Places.{front_of_children, is_name, as_name, child_name, child_path, rest_below}
use Rattle.neph_tree.proofs.EntryLemmas.{order, tied_same}
use Rattle.neph_tree.proofs.OrderLemmas.{front_cmp, child_front}
use Rattle.neph_tree.proofs.Within.{behind-front}

pub self_tied : (q : List ℕ) → is_eq (order q q) ≡ true
self_tied q = (eq_by_cmp_equiv nat_list_cmp_total).refl q

-- after a change at one name
pub child_updated : {A : Type 0} (name : List ℕ) (m n : List (Vec ℕ A × ℕ)) (w : Option ℕ) → lookup (is_at (λ k. order name k.items)) n ≡ w → KeepsOthers (eq_by_cmp (λ x y. order x.items y.items)) (is_at (λ k. order name k.items)) m n
    → (other : List ℕ) → lookup (is_at (λ k. order other k.items)) n ≡ cond (eq_by_cmp order other name) w (lookup (is_at (λ k. order other k.items)) m)
unfolding KeepsOthers
child_updated name m n w at others other = by (eq_by_cmp order other name) refl where
  by : (b : Bool) → eq_by_cmp order other name ≡ b → lookup (is_at (λ k. order other k.items)) n ≡ cond b w (lookup (is_at (λ k. order other k.items)) m)
  by true t = ap (λ q. lookup (is_at (λ k. order q k.items)) n) (tied_same other name t) ∙ at
  by false t =
      others (is_at (λ k. order other k.items)) (λ x y h. ap (λ q. is_eq (order q y.items)) (tied_same other x.items h)) (λ k h. ap (λ q. is_eq (order other q)) (sym (tied_same name k.items h)) ∙ t)

-- after a failed insert at a name that it hasn't
pub child_kept : {A : Type 0} (name : List ℕ) (m n : List (Vec ℕ A × ℕ)) → lookup (is_at (λ k. order name k.items)) m ≡ None → n ≡ m → (other : List ℕ) → lookup (is_at (λ k. order other k.items)) n ≡ cond (eq_by_cmp order other name) None (lookup (is_at (λ k. order other k.items)) m)
child_kept name m n none same other = ap (λ es. lookup (is_at (λ k. order other k.items)) es) same ∙ by (eq_by_cmp order other name) refl where
  by : (b : Bool) → eq_by_cmp order other name ≡ b → lookup (is_at (λ k. order other k.items)) m ≡ cond b None (lookup (is_at (λ k. order other k.items)) m)
  by true t = ap (λ q. lookup (is_at (λ k. order q k.items)) m) (tied_same other name t) ∙ none
  by false t = refl

-- ---- lists of names
later_read : {A : Type 0} (k : Vec ℕ A) (es : List (Vec ℕ A × ℕ)) → AllByRecursion (λ y. order k.items y.items ≡ Less) (keys_of es) → AllByRecursion (λ y. order k.items y ≡ Less) (map (λ e. e.0.items) es)
later_read k [] h = tt
later_read k (e ∷ es) h = (h.0, later_read k es h.1)

pub sorted_read : {A : Type 0} (es : List (Vec ℕ A × ℕ)) → IsStrictlySortedBy (λ x y. order x.items y.items) (keys_of es) → IsStrictlySortedBy order (map (λ e. e.0.items) es)
unfolding IsStrictlySortedBy
sorted_read [] h = tt
sorted_read (e ∷ es) h = (later_read e.0 es h.0, sorted_read es h.1)

pub keys_apart : {A : Type 0} (es : List (Vec ℕ A × ℕ)) → map (λ k. k.items) (keys_of es) ≡ map (λ e. e.0.items) es
keys_apart [] = refl
keys_apart (e ∷ es) = ap (λ ks. e.0.items ∷ ks) (keys_apart es)

-- the name is in the list
abbrev pub has : List ℕ → List (List ℕ) → Bool
has q [] = false
has q (x ∷ xs) = is_eq (order q x) || has q xs

marked : List (List ℕ) → List (List ℕ × Unit {0})
marked [] = []
marked (x ∷ xs) = (x, tt) ∷ marked xs

found_marked : (q : List ℕ) (xs : List (List ℕ)) → find order q (marked xs) ≡ cond (has q xs) (Some tt) None
unfolding marked
found_marked q [] = refl
found_marked q (x ∷ xs) =
    elim (is_eq (order q x)) as (λ b. cond b (Some tt) (find order q (marked xs)) ≡ cond (b || has q xs) (Some tt) None) [ true ↦ refl | false ↦ found_marked q xs ]

both : (a b : Bool) → T a → T b → T (a && b)
both true b p q = q
both false b p q = p

below_marked : (x : List ℕ) (xs : List (List ℕ)) → AllByRecursion (λ y. order x y ≡ Less) xs → T (below_all order x (marked xs))
unfolding marked
below_marked x [] h = tt
below_marked x (y ∷ ys) h = both _ _ (subst (λ o. T (is_lt o)) (sym h.0) tt) (below_marked x ys h.1)

sorted_marked : (xs : List (List ℕ)) → IsStrictlySortedBy order xs → T (is_sorted order (marked xs))
unfolding IsStrictlySortedBy marked
sorted_marked [] h = tt
sorted_marked (x ∷ xs) h = both _ _ (below_marked x xs h.0) (sorted_marked xs h.1)

unmarked : (xs : List (List ℕ)) → map (λ e. e.0) (marked xs) ≡ xs
unfolding marked
unmarked [] = refl
unmarked (x ∷ xs) = ap (λ ys. x ∷ ys) (unmarked xs)

-- two sorted lists with the same members are one
pub same_names : (xs ys : List (List ℕ)) → IsStrictlySortedBy order xs → IsStrictlySortedBy order ys → ((q : List ℕ) → has q xs ≡ has q ys) → xs ≡ ys
same_names xs ys sx sy same =
    let one : marked xs ≡ marked ys = same_entries order nat_list_cmp_total (slice_cmp-IsAntisymmetric nat_cmp-IsAntisymmetric) (marked xs) (marked ys) (sorted_marked xs sx) (sorted_marked ys sy)
    (λ q. found_marked q xs ∙ ap (λ b. cond b (Some tt) None) (same q) ∙ sym (found_marked q ys))
    in
    sym (unmarked xs) ∙ ap (λ es. map (λ e. e.0) es) one ∙ unmarked ys

pub has_children : {A : Type 0} (q : List ℕ) (es : List (Vec ℕ A × ℕ)) → has q (map (λ e. e.0.items) es) ≡ is_some (lookup (is_at (λ k. order q k.items)) es)
has_children q [] = refl
has_children q (e ∷ es) =
    elim (is_eq (order q e.0.items)) as (λ b. (b || has q (map (λ d. d.0.items) es)) ≡ is_some (cond b (Some e.1) (lookup (is_at (λ k. order q k.items)) es))) [ true ↦ refl | false ↦ has_children q es ]

abbrev is_this : List ℕ → Option (List ℕ) → Bool
is_this q None = false
is_this q (Some name) = is_eq (order q name)

has_option : (q : List ℕ) (o : Option (List ℕ)) (xs : List (List ℕ)) → has q (cons_option o xs) ≡ (is_this q o || has q xs)
has_option q None xs = refl
has_option q (Some x) xs = refl

named_child : (directory name : List ℕ) → is_name name ≡ true → child_name directory (child_path directory name) ≡ Some name
named_child directory name h = ap (λ o. as_name o) (behind-front (front_of_children directory) name) ∙ ap (λ b. cond b (Some name) None) h

child_is_name : (directory k name : List ℕ) → child_name directory k ≡ Some name → is_name name ≡ true
child_is_name directory k name e = by (rest_below directory k) e where
  test : (text : List ℕ) (b : Bool) → is_name text ≡ b → cond b (Some text) None ≡ Some name → is_name name ≡ true
  test text true t s = let same : text ≡ name = cc in ap (λ x. is_name x) (sym same) ∙ t
  test text false t s = absurd (cc)

  by : (o : Option (List ℕ)) → as_name o ≡ Some name → is_name name ≡ true
  by None s = absurd (cc)
  by (Some text) s = test text (is_name text) refl s

-- a path is that of a child by this name
child_test : (directory q k : List ℕ) → is_this q (child_name directory k) ≡ (is_name q && is_eq (order (child_path directory q) k))
child_test directory q k = by (child_name directory k) refl where
  none : (b c : Bool) → is_name q ≡ b → is_eq (order (child_path directory q) k) ≡ c → child_name directory k ≡ None → false ≡ (b && c)
  none false c s t e = refl
  none true false s t e = refl
  none true true s t e = absurd (let bad = sym (named_child directory q s) ∙ ap (λ p. child_name directory p) (tied_same _ _ t) ∙ e in cc)

  some : (name : List ℕ) (b c : Bool) → is_name q ≡ b → is_eq (order q name) ≡ c → is_name name ≡ true → c ≡ (b && c)
  some name true c s t is = refl
  some name false false s t is = refl
  some name false true s t is = absurd (let bad : false ≡ true = sym s ∙ ap (λ x. is_name x) (tied_same q name t) ∙ is in cc)

  by : (o : Option (List ℕ)) → child_name directory k ≡ o → is_this q o ≡ (is_name q && is_eq (order (child_path directory q) k))
  by None e = none (is_name q) (is_eq (order (child_path directory q) k)) refl refl e
  by (Some name) e =
      some name (is_name q) (is_eq (order q name)) refl refl (child_is_name directory k name e)
      ∙ ap (λ c. is_name q && c) (ap (λ o. is_eq o) (sym (front_cmp (front_of_children directory) q name)) ∙ ap (λ p. is_eq (order (child_path directory q) p)) (sym (child_front directory k name e)))

-- the names of the children among the keys
pub has_names : {X : Type 0} (directory q : List ℕ) (es : List (List ℕ × X)) → has q (filter_map (λ k. child_name directory k) (map (λ e. e.0) es)) ≡ (is_name q && is_some (find order (child_path directory q) es))
has_names {X = X} directory q [] = none (is_name q) where
  none : (b : Bool) → false ≡ (b && false)
  none true = refl
  none false = refl
has_names {X = X} directory q (e ∷ es) =
    has_option q (child_name directory e.0) _ ∙ ap (λ b. b || has q (filter_map (λ k. child_name directory k) (map (λ d. d.0) es))) (child_test directory q e.0) ∙ ap (λ b. (is_name q && is_eq (order (child_path directory q) e.0)) || b) (has_names directory q es)
    ∙ joined (is_name q) (is_eq (order (child_path directory q) e.0)) (find order (child_path directory q) es)
  where
    joined : (a b : Bool) (o : Option X) → ((a && b) || (a && is_some o)) ≡ (a && is_some (cond b (Some e.1) o))
    joined true true o = refl
    joined true false o = refl
    joined false b o = refl
