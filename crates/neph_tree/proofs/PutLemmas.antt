-- A node is put in its place by the order of the paths.
use Rattle.std.proofs.Common.{◌≡◌, ℕ, Bool, true, false, ◌&&◌, List, [], ◌∷◌, ◌++◌, ap, refl, ◌∙◌, Bor, Ordering, Less, Equal, Greater}
use Rattle.std.specs.Prelude.{T}
use Rattle.std.specs.Ordering.{is_lt, ordering_reverse}
use Rattle.std.specs.Cmp.Lexicographic.{nat_list_cmp_total}
use Rattle.std.specs.FinMap.Entries.{is_sorted, below_all, put, by_order}
use Rattle.neph_tree.specs.Entries.{lent}
use Rattle.neph_tree.proofs.EntryLemmas.{order, first_of, second_of}

both : (a b : Bool) → T a → T b → T (a && b)
both true b p q = q
both false b p q = p

is_less : (o : Ordering) → T (is_lt o) → o ≡ Less
is_less Less t = refl
is_less Equal t = absurd t
is_less Greater t = absurd t

-- what is above a path is above all below that
above_through : (k x e : List ℕ) → order k e ≡ Greater → order x e ≡ Less → order k x ≡ Greater
above_through k x e above below =
    let back : order e k ≡ Less = nat_list_cmp_total.antisymm e k ∙ ap ordering_reverse above in
    nat_list_cmp_total.antisymm k x ∙ ap ordering_reverse (nat_list_cmp_total.trans x e k below back)

above_tied : (k x e : List ℕ) → order k e ≡ Equal → order x e ≡ Less → order k x ≡ Greater
above_tied k x e tied below = nat_list_cmp_total.congr k e x tied ∙ nat_list_cmp_total.antisymm e x ∙ ap ordering_reverse below

last_above : (x : List ℕ) (xs : List (List ℕ × List ℕ)) (e : List ℕ × List ℕ) → T (below_all order x (xs ++ e ∷ [])) → order x e.0 ≡ Less
last_above x [] e h = is_less _ (first_of _ _ h)
last_above x (y ∷ xs) e h = last_above x xs e (second_of _ _ h)

below_front : (x : List ℕ) (xs : List (List ℕ × List ℕ)) (e : List ℕ × List ℕ) → T (below_all order x (xs ++ e ∷ [])) → T (below_all order x xs)
below_front x [] e h = tt
below_front x (y ∷ xs) e h = both _ _ (first_of _ _ h) (below_front x xs e (second_of _ _ h))

pub sorted_front : (xs : List (List ℕ × List ℕ)) (e : List ℕ × List ℕ) → T (is_sorted order (xs ++ e ∷ [])) → T (is_sorted order xs)
sorted_front [] e h = tt
sorted_front (x ∷ xs) e h = both _ _ (below_front x.0 xs e (first_of _ _ h)) (sorted_front xs e (second_of _ _ h))

pub put_before : (k v : List ℕ) (xs : List (List ℕ × List ℕ)) (e : List ℕ × List ℕ) → order k e.0 ≡ Less → put order k v (xs ++ e ∷ []) ≡ put order k v xs ++ e ∷ []
put_before k v [] e less = ap (λ o. by_order o ((k, v) ∷ e ∷ []) ((e.0, v) ∷ []) (e ∷ (k, v) ∷ [])) less
put_before k v (x ∷ xs) e less =
    elim (order k x.0) as (λ o. by_order o ((k, v) ∷ x ∷ xs ++ e ∷ []) ((x.0, v) ∷ xs ++ e ∷ []) (x ∷ put order k v (xs ++ e ∷ [])) ≡ by_order o ((k, v) ∷ x ∷ xs) ((x.0, v) ∷ xs) (x ∷ put order k v xs) ++ e ∷ []) [
      | Less ↦ refl
      | Equal ↦ refl
      | Greater ↦ ap (λ ys. x ∷ ys) (put_before k v xs e less)
    ]

pub put_over : (k v : List ℕ) (xs : List (List ℕ × List ℕ)) (e : List ℕ × List ℕ) → T (is_sorted order (xs ++ e ∷ [])) → order k e.0 ≡ Equal → put order k v (xs ++ e ∷ []) ≡ xs ++ (e.0, v) ∷ []
put_over k v [] e h tied = ap (λ o. by_order o ((k, v) ∷ e ∷ []) ((e.0, v) ∷ []) (e ∷ (k, v) ∷ [])) tied
put_over k v (x ∷ xs) e h tied =
    ap (λ o. by_order o ((k, v) ∷ x ∷ xs ++ e ∷ []) ((x.0, v) ∷ xs ++ e ∷ []) (x ∷ put order k v (xs ++ e ∷ []))) (above_tied k x.0 e.0 tied (last_above x.0 xs e (first_of _ _ h)))
    ∙ ap (λ ys. x ∷ ys) (put_over k v xs e (second_of _ _ h) tied)

pub put_behind : (k v : List ℕ) (xs : List (List ℕ × List ℕ)) (e : List ℕ × List ℕ) → T (is_sorted order (xs ++ e ∷ [])) → order k e.0 ≡ Greater → put order k v (xs ++ e ∷ []) ≡ (xs ++ e ∷ []) ++ (k, v) ∷ []
put_behind k v [] e h above = ap (λ o. by_order o ((k, v) ∷ e ∷ []) ((e.0, v) ∷ []) (e ∷ (k, v) ∷ [])) above
put_behind k v (x ∷ xs) e h above =
    ap (λ o. by_order o ((k, v) ∷ x ∷ xs ++ e ∷ []) ((x.0, v) ∷ xs ++ e ∷ []) (x ∷ put order k v (xs ++ e ∷ []))) (above_through k x.0 e.0 above (last_above x.0 xs e (first_of _ _ h)))
    ∙ ap (λ ys. x ∷ ys) (put_behind k v xs e (second_of _ _ h) above)

-- one more that is lent
pub lent-push : (xs : List (Bor (List ℕ) × Bor (List ℕ))) (x : Bor (List ℕ) × Bor (List ℕ)) → lent (xs ++ x ∷ []) ≡ lent xs ++ (x.0.now, x.1.now) ∷ []
lent-push [] x = refl
lent-push (y ∷ xs) x = ap (λ ys. (y.0.now, y.1.now) ∷ ys) (lent-push xs x)
