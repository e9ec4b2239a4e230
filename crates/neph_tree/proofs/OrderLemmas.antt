-- The names of children keep the order of their paths.
use Rattle.std.proofs.Common.{◌≡◌, ℕ, Bool, true, false, cond, List, [], ◌∷◌, ◌++◌, map, Option, Some, None, is_some, refl, sym, ap, ◌∙◌, arith, Ordering, Less, Equal, Greater}
use Rattle.std.specs.Prelude.{T, ◌==◌, nat_lt}
use Rattle.std.specs.Ordering.{nat_cmp, is_lt, ordering_then}
use Rattle.std.specs.List.{filter_map, cons_option, AllByRecursion}
use Rattle.std.specs.List.Sorted.{IsStrictlySortedBy}
use Rattle.std.specs.FinMap.{is_sorted}
use Rattle.std.specs.FinMap.Entries.{below_all}
use Rattle.std.proofs.lemmas.Bool.{eq-eqb, ltb-true}
use Rattle.neph_tree.specs.Places.{behind, front_of_children, rest_below, is_name, as_name, child_name}
use Rattle.neph_tree.proofs.EntryLemmas.{order, first_of, second_of}
use Rattle.neph_tree.proofs.Within.{front_behind, behind-front}

self_cmp : (x : ℕ) → nat_cmp x x ≡ Equal
self_cmp x =
    elim (nat_lt x x) as (λ b. nat_lt x x ≡ b → cond b Less (cond (x == x) Equal Greater) ≡ Equal) [
      | true ↦ λ e. absurd (omega (arith, ltb-true x x e))
      | false ↦ λ e. ap (λ b. cond b Equal Greater) (eq-eqb x x refl)
    ] refl

-- behind the same front
pub front_cmp : (front xs ys : List ℕ) → order (front ++ xs) (front ++ ys) ≡ order xs ys
front_cmp [] xs ys = refl
front_cmp (x ∷ front) xs ys = ap (λ o. ordering_then o (order (front ++ xs) (front ++ ys))) (self_cmp x) ∙ front_cmp front xs ys

pub child_front : (directory path name : List ℕ) → child_name directory path ≡ Some name → path ≡ front_of_children directory ++ name
child_front directory path name e = by (rest_below directory path) refl e where
  by : (o : Option (List ℕ)) → rest_below directory path ≡ o → as_name o ≡ Some name → path ≡ front_of_children directory ++ name
  by None found is = absurd cc
  by (Some text) found is =
      let whole = front_behind (front_of_children directory) path (ap is_some found) in
      let rest : Some whole.0 ≡ Some text = sym (behind-front (front_of_children directory) whole.0) ∙ ap (λ p. behind (front_of_children directory) p) (sym whole.1) ∙ found in
      whole.1 ∙ ap (λ r. front_of_children directory ++ r) (one whole.0 text rest ∙ named (is_name text) is)
    where
      one : (x y : List ℕ) → Some x ≡ Some y → x ≡ y
      one x y s = cc

      named : (b : Bool) → cond b (Some text) None ≡ Some name → text ≡ name
      named true s = one text name s
      named false s = absurd cc

less : (o : Ordering) → T (is_lt o) → o ≡ Less
less Less h = refl
less Equal h = absurd h
less Greater h = absurd h

module _ {X : Type 0} (directory : List ℕ) where
  later : (path name : List ℕ) → path ≡ front_of_children directory ++ name → (es : List (List ℕ × X)) → T (below_all order path es) → AllByRecursion (λ y. order name y ≡ Less) (filter_map (λ k. child_name directory k) (map (λ e. e.0) es))
  later path name is [] h = tt
  later path name is (e ∷ es) h =
      let rest = later path name is es (second_of _ _ h) in
      elim (child_name directory e.0) as (λ o. child_name directory e.0 ≡ o → AllByRecursion (λ y. order name y ≡ Less) (cons_option o (filter_map (λ k. child_name directory k) (map (λ d. d.0) es)))) [
        | None ↦ λ found. rest
        | Some other ↦ λ found. (
          sym (front_cmp (front_of_children directory) name other) ∙ ap (λ p. order p (front_of_children directory ++ other)) (sym is) ∙ ap (λ q. order path q) (sym (child_front directory e.0 other found)) ∙ less (order path e.0) (first_of _ _ h),
          rest,
        )
      ] refl

  -- the names of the children of sorted paths are sorted
  pub sorted_names : (es : List (List ℕ × X)) → T (is_sorted order es) → IsStrictlySortedBy order (filter_map (λ k. child_name directory k) (map (λ e. e.0) es))
  unfolding IsStrictlySortedBy
  sorted_names [] h = tt
  sorted_names (e ∷ es) h =
      let rest = sorted_names es (second_of _ _ h) in
      elim (child_name directory e.0) as (λ o. child_name directory e.0 ≡ o → IsStrictlySortedBy order (cons_option o (filter_map (λ k. child_name directory k) (map (λ d. d.0) es)))) [
        | None ↦ λ found. rest
        | Some name ↦ λ found. (later e.0 name (child_front directory e.0 name found) es (first_of _ _ h), rest)
      ] refl
