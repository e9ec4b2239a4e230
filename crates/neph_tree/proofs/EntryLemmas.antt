-- A tree of byte strings and the finite map that it stands for.
use Rattle.std.proofs.Common.{◌≡◌, ℕ, Bool, true, false, cond, ◌&&◌, List, [], ◌∷◌, length, Option, Some, None, is_some, refl, sym, ap, ◌∙◌, Bor, Ordering, Less, Equal, Greater, arith}
use Rattle.std.specs.Prelude.{T}
use Rattle.std.specs.Ordering.{nat_cmp, is_eq, is_lt, eq_by_cmp}
use Rattle.std.specs.Cmp.Lexicographic.{slice_cmp, nat_list_cmp_total}
use Rattle.std.specs.FinMap.{FinMap, get, get-entries, entries_sorted, empty, len-entries, len-empty, insert, entries, retain_keys, from_entries, find, put, is_sorted, get-from_entries, get-insert, get-retain_keys, entries-insert, same_map, slice_cmp-IsAntisymmetric, nat_cmp-IsAntisymmetric}
use Rattle.std.specs.FinMap.Entries.{below_all, where_key, by_order, find-put, find-where_key, is_sorted-where_key}
use Rattle.neph_tree.specs.Entries.{lent}

abbrev pub order : List ℕ → List ℕ → Ordering
order = slice_cmp nat_cmp

pub same_nodes : {X : Type 0} (m n : FinMap order X) → ((q : List ℕ) → get m q ≡ get n q) → m ≡ n
same_nodes m n is = same_map nat_list_cmp_total (slice_cmp-IsAntisymmetric nat_cmp-IsAntisymmetric) m n is

equal_at : (o : Ordering) → is_eq o ≡ true → o ≡ Equal
equal_at Less e = absurd cc
equal_at Equal e = refl
equal_at Greater e = absurd cc

pub tied_same : (q k : List ℕ) → is_eq (order q k) ≡ true → q ≡ k
tied_same q k e = slice_cmp-IsAntisymmetric nat_cmp-IsAntisymmetric q k (equal_at _ e)

pub insert-lent : (es fs : List (Bor (List ℕ) × Bor (List ℕ))) (k v : List ℕ) → lent fs ≡ put order k v (lent es) → from_entries {R = order} (lent fs) ≡ insert (from_entries (lent es)) k v
insert-lent es fs k v e = same_nodes _ _ (λ q.
    get-from_entries nat_list_cmp_total (lent fs) q ∙ ap (find order q) e ∙ find-put order nat_list_cmp_total q k v (lent es)
    ∙ sym (get-insert nat_list_cmp_total (from_entries (lent es)) k v q ∙ ap (cond (eq_by_cmp order q k) (Some v)) (get-from_entries nat_list_cmp_total (lent es) q)))

alike : (p : List ℕ → Bool) (q x : List ℕ) → order q x ≡ Equal → p x ≡ p q
alike p q x e = ap p (sym (slice_cmp-IsAntisymmetric nat_cmp-IsAntisymmetric q x e))

pub get-where : {X : Type 0} (m : FinMap order X) (p : List ℕ → Bool) (q : List ℕ) → get (retain_keys m p) q ≡ cond (p q) (get m q) None
get-where m p q = get-retain_keys m p q (λ x e. alike p q x e)

below_put : {X : Type 0} (k : List ℕ) (v : X) (es : List (List ℕ × X)) → T (below_all order k es) → put order k v es ≡ (k, v) ∷ es
below_put k v [] h = refl
below_put k v (e ∷ es) h =
    elim (order k e.0) as (λ o. T (is_lt o && below_all order k es) → by_order o ((k, v) ∷ e ∷ es) ((e.0, v) ∷ es) (e ∷ put order k v es) ≡ (k, v) ∷ e ∷ es) [
      | Less ↦ λ t. refl
      | Equal ↦ λ t. absurd t
      | Greater ↦ λ t. absurd t
    ] h

both : (a b : Bool) → T a → T b → T (a && b)
both true b p q = q
both false b p q = p

-- the first side of what holds together, and the second
pub first_of : (a b : Bool) → T (a && b) → T a
first_of true b p = tt
first_of false b p = p

pub second_of : (a b : Bool) → T (a && b) → T b
second_of true b p = p
second_of false b p = absurd p

pub none_there : {X : Type 0} (o : Option X) → is_some o ≡ false → o ≡ None
none_there None e = refl
none_there (Some x) e = absurd cc

pub no_entries : {Y : Type 0} (es : List Y) → length es ≡ 0 → es ≡ []
no_entries [] e = refl
no_entries (e ∷ es) h = absurd (omega arith)

pub entries-from : {X : Type 0} (es : List (List ℕ × X)) → T (is_sorted order es) → entries (from_entries {R = order} es) ≡ es
entries-from {X} [] h = no_entries _ (sym (len-entries (empty {X = X} {R = order})) ∙ len-empty order X)
entries-from (e ∷ es) h =
    entries-insert nat_list_cmp_total (from_entries es) e.0 e.1 ∙ ap (put order e.0 e.1) (entries-from es (second_of _ _ h)) ∙ below_put e.0 e.1 es (first_of _ _ h)

pub entries-retain_keys : {X : Type 0} (m : FinMap order X) (p : List ℕ → Bool) → entries (retain_keys m p) ≡ where_key order p (entries m)
entries-retain_keys m p =
    let kept = where_key order p (entries m) in
    let same : retain_keys m p ≡ from_entries {R = order} kept = same_nodes _ _ (λ q.
    get-where m p q ∙ ap (λ o. cond (p q) o None) (get-entries m q) ∙ sym (find-where_key order p q (λ x t. alike p q x t) (entries m)) ∙ sym (get-from_entries nat_list_cmp_total kept q)) in
    ap (λ n. entries n) same ∙ entries-from kept (is_sorted-where_key order p (entries m) (entries_sorted m))
