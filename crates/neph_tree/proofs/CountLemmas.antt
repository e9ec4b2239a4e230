-- How many nodes are at and below a path.
use Rattle.std.proofs.Common.{◌≡◌, inl, inr, ℕ, zero, suc, ◌+◌, ◌-◌, ◌<◌, ◌≤◌, Bool, true, false, cond, List, [], ◌∷◌, length, Option, Some, None, is_some, refl, sym, ap, subst, ◌∙◌, arith, get_or}
use Rattle.std.specs.Prelude.{not, slice_get, IfNone, IsSome}
use Rattle.std.specs.Ordering.{eq_by_cmp}
use Rattle.std.specs.Cmp.Lexicographic.{nat_list_cmp_total}
use Rattle.std.specs.FinMap.{empty, get-empty, len-empty, get, contains_key, insert, len, entries, get-insert, len-insert, len-entries}
use Rattle.std.specs.FinMap.Entries.{where_key}
use Rattle.neph_tree.specs.Places.{root, is_within}
use Rattle.neph_tree.specs.Nodes.{Nodes, IsTree, subtree, without}
use Rattle.neph_tree.proofs.EntryLemmas.{order, same_nodes, get-where, entries-retain_keys, tied_same}
use Rattle.neph_tree.proofs.Within.{within_trans}
use Rattle.neph_tree.proofs.HomeLemmas.{within_either}
use Rattle.neph_tree.proofs.TreeLemmas.{count_there, not_false}
use Rattle.neph_tree.proofs.ChildLemmas.{all_within_root}
use Rattle.neph_tree.specs.Places.{home}
use Rattle.neph_tree.specs.Counts.{AreCounted}

-- a new node counts at each path that it is within
pub count_new : (m : Nodes) (path value top : List ℕ) → contains_key m path ≡ false → len (subtree (insert m path value) top) ≡ len (subtree m top) + cond (is_within top path) 1 0
count_new m path value top missing = by (is_within top path) refl ∙ ap (λ b. len (subtree m top) + cond b 1 0) refl where
  at : (q : List ℕ) → get (subtree (insert m path value) top) q ≡ cond (is_within top q) (cond (eq_by_cmp order q path) (Some value) (get m q)) None
  at q = get-where (insert m path value) (λ p. is_within top p) q ∙ ap (λ o. cond (is_within top q) o None) (get-insert nat_list_cmp_total m path value q)

  both : (q : List ℕ) (t : Bool) → eq_by_cmp order q path ≡ t → is_within top path ≡ true → cond (is_within top q) (cond t (Some value) (get m q)) None ≡ cond t (Some value) (cond (is_within top q) (get m q) None)
  both q true t within = ap (λ b. cond b (Some value) None) (ap (λ p. is_within top p) (tied_same q path t) ∙ within)
  both q false t within = refl

  none : (q : List ℕ) (t : Bool) → eq_by_cmp order q path ≡ t → is_within top path ≡ false → cond (is_within top q) (cond t (Some value) (get m q)) None ≡ cond (is_within top q) (get m q) None
  none q true t out = ap (λ b. cond b (Some value) None) (ap (λ p. is_within top p) (tied_same q path t) ∙ out) ∙ sym (ap (λ b. cond b (get m q) None) (ap (λ p. is_within top p) (tied_same q path t) ∙ out))
  none q false t out = refl

  zero_more : (n : ℕ) → n ≡ n + 0
  zero_more n = omega arith

  by : (b : Bool) → is_within top path ≡ b → len (subtree (insert m path value) top) ≡ len (subtree m top) + cond b 1 0
  by true e =
      let same : subtree (insert m path value) top ≡ insert (subtree m top) path value = same_nodes _ _ (λ q.
      at q ∙ both q (eq_by_cmp order q path) refl e ∙ sym (get-insert nat_list_cmp_total (subtree m top) path value q ∙ ap (cond (eq_by_cmp order q path) (Some value)) (get-where m (λ p. is_within top p) q)))
      in
      let out : contains_key (subtree m top) path ≡ false = ap is_some (get-where m (λ p. is_within top p) path ∙ ap (λ b. cond b (get m path) None) e) ∙ missing in
      ap (λ n. len n) same ∙ len-insert nat_list_cmp_total (subtree m top) path value ∙ ap (λ b. cond b (len (subtree m top)) (len (subtree m top) + 1)) out
  by false e =
      ap (λ n. len n) (same_nodes (subtree (insert m path value) top) (subtree m top) (λ q. at q ∙ none q (eq_by_cmp order q path) refl e ∙ sym (get-where m (λ p. is_within top p) q))) ∙ zero_more (len (subtree m top))

-- what is taken away is counted off at each path that it is within
counted_off : (q top : List ℕ) → is_within q top ≡ true → (es : List (List ℕ × List ℕ)) → length (where_key order (λ p. is_within q p) (where_key order (λ p. not (is_within top p)) es)) + length (where_key order (λ p. is_within top p) es) ≡ length (where_key order (λ p. is_within q p) es)
counted_off q top w [] = refl
counted_off q top w (e ∷ es) =
    let rest = counted_off q top w es in
    let kept = where_key order (λ p. not (is_within top p)) es in
    let gone = where_key order (λ p. is_within top p) es in
    elim (is_within top e.0) as (λ b. is_within top e.0 ≡ b → length (where_key order (λ p. is_within q p) (cond (not b) (e ∷ kept) kept)) + length (cond b (e ∷ gone) gone) ≡ length (cond (is_within q e.0) (e ∷ where_key order (λ p. is_within q p) es) (where_key order (λ p. is_within q p) es))) [
      | true ↦ λ t.
          let long : length (cond (is_within q e.0) (e ∷ where_key order (λ p. is_within q p) es) (where_key order (λ p. is_within q p) es)) ≡ suc (length (where_key order (λ p. is_within q p) es)) = ap (λ b. length (cond b (e ∷ where_key order (λ p. is_within q p) es) (where_key order (λ p. is_within q p) es))) (within_trans q top e.0 w t) in
          omega (arith, rest, long)
      | false ↦ λ t. elim (is_within q e.0) as (λ b. length (cond b (e ∷ where_key order (λ p. is_within q p) kept) (where_key order (λ p. is_within q p) kept)) + length gone ≡ length (cond b (e ∷ where_key order (λ p. is_within q p) es) (where_key order (λ p. is_within q p) es))) [
        | true ↦ omega (arith, rest)
        | false ↦ rest
      ]
    ] refl

pub count_cut : (m : Nodes) (q top : List ℕ) → is_within q top ≡ true → len (subtree (without m top) q) + len (subtree m top) ≡ len (subtree m q)
count_cut m q top w =
    let one = len-entries (subtree (without m top) q) ∙ ap (λ es. length es) (entries-retain_keys (without m top) (λ p. is_within q p) ∙ ap (λ es. where_key order (λ p. is_within q p) es) (entries-retain_keys m (λ p. not (is_within top p)))) in
    let two = len-entries (subtree m top) ∙ ap (λ es. length es) (entries-retain_keys m (λ p. is_within top p)) in
    let all = len-entries (subtree m q) ∙ ap (λ es. length es) (entries-retain_keys m (λ p. is_within q p)) in
    omega (arith, one, two, all, counted_off q top w (entries m))

fewer : (p : List ℕ → Bool) (es : List (List ℕ × List ℕ)) → length (where_key order p es) ≤ length es
fewer p [] = omega arith
fewer p (e ∷ es) =
    let rest = fewer p es in
    elim (p e.0) as (λ b. length (cond b (e ∷ where_key order p es) (where_key order p es)) ≤ suc (length es)) [ true ↦ omega (arith, rest) | false ↦ omega (arith, rest) ]

-- a part has no more nodes than the whole
pub len_part : (m : Nodes) (top : List ℕ) → len (subtree m top) ≤ len m
len_part m top =
    let part = len-entries (subtree m top) ∙ ap (λ es. length es) (entries-retain_keys m (λ p. is_within top p)) in
    omega (arith, part, len-entries m, fewer (λ p. is_within top p) (entries m))

parted : (p : List ℕ → Bool) (es : List (List ℕ × List ℕ)) → length (where_key order (λ q. not (p q)) es) + length (where_key order p es) ≡ length es
parted p [] = refl
parted p (e ∷ es) =
    let rest = parted p es in
    elim (p e.0) as (λ b. length (cond (not b) (e ∷ where_key order (λ q. not (p q)) es) (where_key order (λ q. not (p q)) es)) + length (cond b (e ∷ where_key order p es) (where_key order p es)) ≡ suc (length es)) [ true ↦ omega (arith, rest) | false ↦ omega (arith, rest) ]

-- what is taken away, and what stays
pub len_cut : (m : Nodes) (top : List ℕ) → len (without m top) + len (subtree m top) ≡ len m
len_cut m top =
    let left = len-entries (without m top) ∙ ap (λ es. length es) (entries-retain_keys m (λ p. not (is_within top p))) in
    let gone = len-entries (subtree m top) ∙ ap (λ es. length es) (entries-retain_keys m (λ p. is_within top p)) in
    omega (arith, left, gone, len-entries m, parted (λ p. is_within top p) (entries m))

pub len_empty : (n : Nodes) → ((q : List ℕ) → get n q ≡ None) → len n ≡ 0
len_empty n none = ap (λ x. len x) (same_nodes n (empty {X = List ℕ} {R = order}) (λ q. none q ∙ sym (get-empty order q))) ∙ len-empty order (List ℕ)

cut_twice : (m : Nodes) (h top q : List ℕ) → get (subtree (without m top) h) q ≡ cond (is_within h q) (cond (not (is_within top q)) (get m q) None) None
cut_twice m h top q = get-where (without m top) (λ p. is_within h p) q ∙ ap (λ o. cond (is_within h q) o None) (get-where m (λ p. not (is_within top p)) q)

-- nothing is left within what is taken away
pub count_gone : (m : Nodes) (h top : List ℕ) → is_within top h ≡ true → len (subtree (without m top) h) ≡ 0
count_gone m h top w = len_empty _ (λ q. cut_twice m h top q ∙ by q (is_within h q) refl) where
  by : (q : List ℕ) (b : Bool) → is_within h q ≡ b → cond b (cond (not (is_within top q)) (get m q) None) None ≡ None
  by q true e = ap (λ b. cond (not b) (get m q) None) (within_trans top h q w e)
  by q false e = refl

-- and all is left where neither lies within the other
pub count_apart : (m : Nodes) (h top : List ℕ) → is_within h top ≡ false → is_within top h ≡ false → len (subtree (without m top) h) ≡ len (subtree m h)
count_apart m h top out off = ap (λ x. len x) (same_nodes _ _ (λ q. cut_twice m h top q ∙ by q (is_within h q) (is_within top q) refl refl ∙ sym (get-where m (λ p. is_within h p) q))) where
  by : (q : List ℕ) (b d : Bool) → is_within h q ≡ b → is_within top q ≡ d → cond b (cond (not d) (get m q) None) None ≡ cond b (get m q) None
  by q true true e f = absurd (elim (within_either h top q e f) [ inl w ↦ (let bad = sym w ∙ out in cc) | inr w ↦ (let bad = sym w ∙ off in cc) ])
  by q true false e f = refl
  by q false d e f = refl

-- ---- the counts of the homes
pub counted_none : (counts : List ℕ) (m : Nodes) → ((d : ℕ) → d < 64 → get_or counts d 0 ≡ 0) → len m ≡ 0 → AreCounted counts m
counted_none counts m clear none d inside = omega (arith, clear d inside, len_part m (home d), none)

pub counted_new : (old new : List ℕ) (m : Nodes) (path value : List ℕ) → AreCounted old m → contains_key m path ≡ false → ((d : ℕ) → d < 64 → get_or new d 0 ≡ get_or old d 0 + cond (is_within (home d) path) 1 0) → AreCounted new (insert m path value)
counted_new old new m path value are missing up d inside = up d inside ∙ ap (λ n. n + cond (is_within (home d) path) 1 0) (are d inside) ∙ sym (count_new m path value (home d) missing)

pub counted_there : (counts : List ℕ) (m : Nodes) (path value : List ℕ) → AreCounted counts m → contains_key m path ≡ true → AreCounted counts (insert m path value)
counted_there counts m path value are there d inside = are d inside ∙ sym (count_there m path value (home d) there)

pub counted_cut : (old new : List ℕ) (m : Nodes) (top : List ℕ) (gone : ℕ) → AreCounted old m → gone ≡ len (subtree m top)
    → ((d : ℕ) → d < 64 → get_or new d 0 ≡ cond (is_within (home d) top) (get_or old d 0 - gone) (cond (is_within top (home d)) 0 (get_or old d 0))) → AreCounted new (without m top)
counted_cut old new m top gone are all down d inside = down d inside ∙ by (is_within (home d) top) (is_within top (home d)) refl refl where
  by : (b c : Bool) → is_within (home d) top ≡ b → is_within top (home d) ≡ c → cond b (get_or old d 0 - gone) (cond c 0 (get_or old d 0)) ≡ len (subtree (without m top) (home d))
  by true c e f = let whole = count_cut m (home d) top e in omega (arith, whole, all, are d inside)
  by false true e f = sym (count_gone m (home d) top f)
  by false false e f = are d inside ∙ sym (count_apart m (home d) top e f)

-- there are enough to take away
pub gone_fits : (old : List ℕ) (m : Nodes) (top : List ℕ) (gone : ℕ) → AreCounted old m → gone ≡ len (subtree m top) → (d : ℕ) → d < 64 → is_within (home d) top ≡ true → gone ≤ get_or old d 0
gone_fits old m top gone are all d inside w = let whole = count_cut m (home d) top w in omega (arith, whole, all, are d inside)

-- a value that is replaced keeps the counts
pub counted_replaced : {X : Type 0} (back : Option X) (counts : List ℕ) (m n : Nodes) (path value : List ℕ) → IfNone back (n ≡ insert m path value) → (IsSome back → n ≡ m) → is_some back ≡ not (contains_key m path) → AreCounted counts m → (len n ≡ len m) × AreCounted counts n
counted_replaced None counts m n path value set same tells are =
    let there : contains_key m path ≡ true = not_false (contains_key m path) tells in
    let Counted : Nodes → Type 0 = λ x. AreCounted counts x in
    (ap (λ x. len x) set ∙ len-insert nat_list_cmp_total m path value ∙ ap (λ b. cond b (len m) (len m + 1)) there, subst Counted (sym set) (counted_there counts m path value are there))
counted_replaced (Some x) counts m n path value set same tells are =
    let Counted : Nodes → Type 0 = λ y. AreCounted counts y in
    (ap (λ y. len y) (same refl), subst Counted (sym (same refl)) are)

-- all nodes of a tree are within `/`
pub whole_tree : (m : Nodes) → IsTree m → subtree m root ≡ m
whole_tree m tree = same_nodes _ _ (λ q. get-where m (λ p. is_within root p) q ∙ by q (get m q) refl) where
  by : (q : List ℕ) (o : Option (List ℕ)) → get m q ≡ o → cond (is_within root q) (get m q) None ≡ get m q
  by q None e = none (is_within root q) (get m q) e
    where
      none : (b : Bool) (p : Option (List ℕ)) → p ≡ None → cond b p None ≡ p
      none true p g = refl
      none false p g = sym g
  by q (Some v) e = ap (λ b. cond b (get m q) None) (all_within_root q (tree.paths q (ap is_some e)))

pub entry_there : (m : Nodes) (es : List (List ℕ × List ℕ)) (i : ℕ) (e : List ℕ × List ℕ) → IsTree m → es ≡ entries (subtree m root) → i < length es → e ≡ get_or es i e → Some e ≡ slice_get (entries m) i
entry_there m es i e tree is inside at = ap Some at ∙ sym (at_index es i e inside) ∙ ap (λ xs. slice_get xs i) (is ∙ ap (λ n. entries n) (whole_tree m tree)) where
  at_index : (xs : List (List ℕ × List ℕ)) (k : ℕ) (d : List ℕ × List ℕ) → k < length xs → slice_get xs k ≡ Some (get_or xs k d)
  at_index [] k d lt = absurd (omega (arith, lt))
  at_index (x ∷ xs) zero d lt = refl
  at_index (x ∷ xs) (suc k) d lt = at_index xs k d (omega (arith, lt))

pub entry_missing : (m : Nodes) (es : List (List ℕ × List ℕ)) (i : ℕ) → IsTree m → es ≡ entries (subtree m root) → length es ≤ i → None ≡ slice_get (entries m) i
entry_missing m es i tree is out = sym (past es i out) ∙ ap (λ xs. slice_get xs i) (is ∙ ap (λ n. entries n) (whole_tree m tree)) where
  past : (xs : List (List ℕ × List ℕ)) (k : ℕ) → length xs ≤ k → slice_get xs k ≡ None
  past [] k lt = refl
  past (x ∷ xs) zero lt = absurd (omega (arith, lt))
  past (x ∷ xs) (suc k) lt = past xs k (omega (arith, lt))
