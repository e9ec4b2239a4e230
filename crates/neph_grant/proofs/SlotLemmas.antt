-- Slots and the finite map that they stand for.
use Rattle.std.proofs.Common.{◌≡◌, ◌≢◌, ℕ, zero, suc, ◌+◌, ◌<◌, ◌⊎◌, inl, inr, Bool, true, false, cond, ◌||◌, List, [], ◌∷◌, length, get_or, set, replicate, Option, None, Some, refl, sym, ap, ◌∙◌, arith, zero-add, eq-eqb, ne_eqb, is_none, is_some}
use Rattle.std.specs.List.{list_any, range_with_len, position_from, position, find as first}
use Rattle.std.proofs.lemmas.Iterator.Adapters.{position_from-zero}
use Rattle.std.proofs.lemmas.List.{get_or-set_same, get_or-set_other, get_or_default}
use Rattle.std.specs.Ordering.{nat_cmp, eq_by_cmp}
use Rattle.std.specs.Cmp.{nat_cmp_total, unsigned_tied}
use Rattle.std.specs.FinMap.{get, insert, remove, empty, find, get-empty, get-insert, get-remove, get-from_entries, same_map, nat_cmp-IsAntisymmetric}
use Rattle.neph_grant.specs.Below.{some_below, least_below}
use Rattle.neph_grant.specs.Slots.{entries_from, map_of_slots}

tied_yes : (a b : ℕ) → a ≡ b → eq_by_cmp nat_cmp a b ≡ true
tied_yes a b e = unsigned_tied a b ∙ eq-eqb a b e

tied_no : (a b : ℕ) → a ≢ b → eq_by_cmp nat_cmp a b ≡ false
tied_no a b h = unsigned_tied a b ∙ ne_eqb a b h

-- no entry stands before the first slot
find_before : {X : Type 0} (at q : ℕ) (xs : List (Option X)) → q < at → find nat_cmp q (entries_from at xs) ≡ None
find_before at q [] h = refl
find_before at q (None ∷ xs) h = find_before (at + 1) q xs (omega arith)
find_before at q (Some x ∷ xs) h =
    ap (λ b. cond b (Some x) (find nat_cmp q (entries_from (at + 1) xs))) (tied_no q at (λ (e : q ≡ at). omega arith)) ∙ find_before (at + 1) q xs (omega arith)

find_at : {X : Type 0} (at q k : ℕ) (xs : List (Option X)) → k ≡ at + q → find nat_cmp k (entries_from at xs) ≡ get_or xs q None
find_at at q k [] e = refl
find_at at zero k (None ∷ xs) e = find_before (at + 1) k xs (omega arith)
find_at at (suc q) k (None ∷ xs) e = find_at (at + 1) q k xs (omega arith)
find_at at zero k (Some x ∷ xs) e = ap (λ b. cond b (Some x) (find nat_cmp k (entries_from (at + 1) xs))) (tied_yes k at (omega arith))
find_at at (suc q) k (Some x ∷ xs) e =
    ap (λ b. cond b (Some x) (find nat_cmp k (entries_from (at + 1) xs))) (tied_no k at (λ (h : k ≡ at). omega arith)) ∙ find_at (at + 1) q k xs (omega arith)

-- what the map has at a place is what stands in that slot
pub get-slots : {X : Type 0} (xs : List (Option X)) (q : ℕ) → get (map_of_slots xs) q ≡ get_or xs q None
unfolding map_of_slots
get-slots xs q = get-from_entries nat_cmp_total (entries_from 0 xs) q ∙ find_at 0 q q xs (omega arith)

pub same_or_other : (a b : ℕ) → (a ≡ b) ⊎ (a ≢ b)
same_or_other zero zero = inl refl
same_or_other zero (suc b) = inr (λ (e : 0 ≡ suc b). omega arith)
same_or_other (suc a) zero = inr (λ (e : suc a ≡ 0). omega arith)
same_or_other (suc a) (suc b) = elim (same_or_other a b) [ inl e ↦ inl (ap suc e) | inr h ↦ inr (λ (e : suc a ≡ suc b). h (omega arith)) ]

set_at : {X : Type 0} (xs : List (Option X)) (i : ℕ) (o : Option X) (q : ℕ) → i < length xs → get_or (set xs i o) q None ≡ cond (eq_by_cmp nat_cmp q i) o (get_or xs q None)
set_at xs i o q h = elim (same_or_other q i) [
  | inl e ↦ ap (λ k. get_or (set xs i o) k None) e ∙ get_or-set_same xs i o None h ∙ sym (ap (λ b. cond b o (get_or xs q None)) (tied_yes q i e))
  | inr n ↦ get_or-set_other xs i q o None n ∙ sym (ap (λ b. cond b o (get_or xs q None)) (tied_no q i n))
]

-- an entry put into a slot
pub slots-put : {X : Type 0} (xs : List (Option X)) (i : ℕ) (x : X) → i < length xs → map_of_slots (set xs i (Some x)) ≡ insert (map_of_slots xs) i x
slots-put xs i x h = same_map nat_cmp_total nat_cmp-IsAntisymmetric _ _ (λ q.
    get-slots (set xs i (Some x)) q ∙ set_at xs i (Some x) q h
    ∙ sym (get-insert nat_cmp_total (map_of_slots xs) i x q ∙ ap (cond (eq_by_cmp nat_cmp q i) (Some x)) (get-slots xs q)))

-- a slot that is emptied
pub slots-cut : {X : Type 0} (xs : List (Option X)) (i : ℕ) → i < length xs → map_of_slots (set xs i None) ≡ remove (map_of_slots xs) i
slots-cut xs i h = same_map nat_cmp_total nat_cmp-IsAntisymmetric _ _ (λ q.
    get-slots (set xs i None) q ∙ set_at xs i None q h
    ∙ sym (get-remove nat_cmp_total (map_of_slots xs) i q ∙ ap (cond (eq_by_cmp nat_cmp q i) None) (get-slots xs q)))

empty_at : {X : Type 0} (n q : ℕ) → get_or {A = Option X} (replicate {A = Option X} n None) q None ≡ None
empty_at zero q = refl
empty_at (suc n) zero = refl
empty_at {X} (suc n) (suc q) = empty_at {X = X} n q

-- empty slots
pub slots-none : {X : Type 0} (n : ℕ) → map_of_slots {X = X} (replicate n None) ≡ empty
slots-none {X} n = same_map nat_cmp_total nat_cmp-IsAntisymmetric _ _ (λ q. get-slots (replicate {A = Option X} n None) q ∙ empty_at {X = X} n q ∙ sym (get-empty nat_cmp q))

-- what is read from a slot
pub slot_read : {X : Type 0} (xs : List (Option X)) (i q : ℕ) (x : Option X) → i ≡ q → i < length xs → x ≡ get_or xs i x → x ≡ get (map_of_slots xs) q
slot_read xs i q x e h is = is ∙ get_or_default xs i x None h ∙ ap (λ k. get_or xs k None) e ∙ sym (get-slots xs q)

pub ruleset slot_rules = (get-slots, slots-put, slots-cut, slots-none, slot_read)

any_from : {X : Type 0} (f : ℕ → Bool) (test : Option X → Bool) (at : ℕ) (xs : List (Option X)) → ((k : ℕ) → k < length xs → f (at + k) ≡ test (get_or xs k None)) → list_any f (range_with_len at (length xs)) ≡ list_any test xs
any_from f test at [] same = refl
any_from f test at (x ∷ xs) same =
    ap (λ b. b || list_any f (range_with_len (at + 1) (length xs))) (ap f (omega arith) ∙ same 0 (omega arith))
    ∙ ap (λ b. test x || b) (any_from f test (at + 1) xs (λ k h. ap f (omega arith) ∙ same (suc k) (omega arith)))

-- a test of what the map has at each place is a test of each slot
pub some_slot : {X : Type 0} (test : Option X → Bool) (xs : List (Option X)) (n : ℕ) → length xs ≡ n → some_below n (λ r. test (get (map_of_slots xs) r)) ≡ list_any test xs
unfolding some_below
some_slot test xs n e =
    ap (λ k. list_any (λ r. test (get (map_of_slots xs) r)) (range_with_len 0 k)) (sym e)
    ∙ any_from (λ r. test (get (map_of_slots xs) r)) test 0 xs (λ k h. ap test (ap (get (map_of_slots xs)) (zero-add k) ∙ get-slots xs k))

least_from : {X : Type 0} (f : ℕ → Bool) (test : Option X → Bool) (at : ℕ) (xs : List (Option X)) → ((k : ℕ) → k < length xs → f (at + k) ≡ test (get_or xs k None)) → first f (range_with_len at (length xs)) ≡ position_from test at xs
least_from f test at [] same = refl
least_from f test at (x ∷ xs) same =
    ap (λ b. cond b (Some at) (first f (range_with_len (at + 1) (length xs)))) (ap f (omega arith) ∙ same 0 (omega arith))
    ∙ ap (cond (test x) (Some at)) (least_from f test (at + 1) xs (λ k h. ap f (omega arith) ∙ same (suc k) (omega arith)))

-- the least place that passes is that of the first slot that does
pub least_slot : {X : Type 0} (test : Option X → Bool) (xs : List (Option X)) (n : ℕ) → length xs ≡ n → least_below n (λ r. test (get (map_of_slots xs) r)) ≡ position test xs
unfolding least_below
least_slot test xs n e =
    ap (λ k. first (λ r. test (get (map_of_slots xs) r)) (range_with_len 0 k)) (sym e)
    ∙ least_from (λ r. test (get (map_of_slots xs) r)) test 0 xs (λ k h. ap test (ap (get (map_of_slots xs)) (zero-add k) ∙ get-slots xs k))
    ∙ sym (position_from-zero test xs)

-- what the map has there stands in the slot
pub slot_is : {X : Type 0} (xs : List (Option X)) (i q : ℕ) (o : Option X) → i ≡ q → get (map_of_slots xs) q ≡ o → get_or xs i None ≡ o
slot_is xs i q o e is = ap (λ k. get_or xs k None) e ∙ sym (get-slots xs q) ∙ is

pub not_some : {X : Type 0} (o : Option X) → is_some o ≡ false → o ≡ None
not_some None e = refl
not_some (Some x) e = cc

pub is_empty : {X : Type 0} (o : Option X) → is_none o ≡ true → o ≡ None
is_empty None e = refl
is_empty (Some x) e = cc

pub is_filled : {X : Type 0} (o : Option X) → is_none o ≡ false → is_some o ≡ true
is_filled None e = cc
is_filled (Some x) e = refl
