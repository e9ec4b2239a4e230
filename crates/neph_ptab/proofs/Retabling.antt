-- Changes of the words of leaf tables, one after another.
use Rattle.std.proofs.Common.{◌≡◌, ◌≢◌, ◌<◌, ◌==◌, ◌||◌, ◌&&◌, ◌⊎◌, inl, inr, rules, ℕ, zero, suc, Bool, true, false, not, List, [], ◌∷◌, ◌++◌, length, get_or, Some, None, IsSome, refl, sym, ap, subst, ◌∙◌, arith, if◌then◌else◌, eq-eqb, ne_eqb}
use Rattle.std.proofs.lemmas.List.Folds.{list_any-append}
use Rattle.std.specs.declared.option.Option.{Option}
use Rattle.neph_pool.specs.declared.entry.Entry.{Entry}
use Rattle.neph_pool.specs.Entries.{hold_at, words_at, with_word}
use Rattle.neph_pool.proofs.Entries.{hold_at-with_words, words_at-with_words_other}
use Rattle.neph_pool.proofs.Rows.{same_or_not}
use Rattle.neph_ptab.specs.declared.walk.Walk.{Walk}
use Rattle.neph_ptab.specs.declared.walk.Walk.TheVariants.{None as Unmapped, Local, Exposed}
use Rattle.neph_ptab.specs.Tables.{leaf_at, walk_by, walk_at, IsTable, IsTables, IsRetabled}
use Rattle.neph_ptab.specs.Moves.{IsLocal, moved_walk, is_shown, walk_moved}

-- the tables are the same frames
same_tables : (es fs : List (Option Entry)) (root f : ℕ) → ((i : ℕ) → i < 512 → leaf_at fs root i ≡ leaf_at es root i) → IsTable fs root f → IsTable es root f
same_tables es fs root f h (inl e) = inl e
same_tables es fs root f h (inr x) = inr (x.0, x.1, sym (h x.0 x.1) ∙ x.2)

pub retabled_refl : (es : List (Option Entry)) (root : ℕ) → IsTables es root → IsRetabled es es root
retabled_refl es root t = record { holds = λ f. refl; words = λ f n. refl; leaves = λ i lt. refl; tables = t }

pub retabled_trans : (es fs gs : List (Option Entry)) (root : ℕ) → IsRetabled es fs root → IsRetabled fs gs root → IsRetabled es gs root
retabled_trans es fs gs root a b = record {
  holds = λ f. b.holds f ∙ a.holds f;
  words = λ f n. b.words f (λ t. n (same_tables es fs root f a.leaves t)) ∙ a.words f n;
  leaves = λ i lt. b.leaves i lt ∙ a.leaves i lt;
  tables = b.tables;
}

-- one word of a leaf table has changed
pub set_retabled : (es fs : List (Option Entry)) (root i leaf place word : ℕ) → i < 512 → leaf_at es root i ≡ Some leaf → fs ≡ with_word es leaf place word
    → ((j : ℕ) → leaf_at fs root j ≡ leaf_at es root j) → IsTables fs root → IsRetabled es fs root
set_retabled es fs root i leaf place word lt e h l t = record {
  holds = λ g. ap (λ (xs : List (Option Entry)). hold_at xs g) h ∙ hold_at-with_words es leaf _ g;
  words = λ g n. ap (λ (xs : List (Option Entry)). words_at xs g) h ∙ words_at-with_words_other es leaf _ g (λ q. n (inr (i, lt, e ∙ ap Some (sym q))));
  leaves = λ j lj. l j;
  tables = t;
}

pub local_leaf : (es : List (Option Entry)) (o : Option ℕ) (w : ℕ) → IsLocal (walk_by es o w) → IsSome o
local_leaf es None w h = absurd h
local_leaf es (Some f) w h = search rules

moved_by : (b alone : Bool) → ((b && alone) || (b && not alone)) ≡ b
moved_by true true = refl
moved_by true false = refl
moved_by false alone = refl

moved_twice : (to : ℕ) (alone : Bool) (w : Walk) → moved_walk to alone (moved_walk to alone w) ≡ moved_walk to alone w
moved_twice to alone Unmapped = refl
moved_twice to alone (Local f b c) = ap (λ (x : Bool). Local to (x && alone) (x && not alone)) (moved_by (b || c) alone)
moved_twice to alone (Exposed p b) = refl

moved_local : (to : ℕ) (alone : Bool) (w : Walk) → IsLocal w → IsLocal (moved_walk to alone w)
moved_local to alone Unmapped h = h
moved_local to alone (Local f b c) h = tt
moved_local to alone (Exposed p b) h = h

choose : (to : ℕ) (alone a b : Bool) (w x y : Walk) → x ≡ (if a then moved_walk to alone w else w) → y ≡ (if b then moved_walk to alone x else x) → y ≡ (if (a || b) then moved_walk to alone w else w)
choose to alone true true w x y e h = h ∙ ap (moved_walk to alone) e ∙ moved_twice to alone w
choose to alone true false w x y e h = h ∙ e
choose to alone false true w x y e h = h ∙ ap (moved_walk to alone) e
choose to alone false false w x y e h = h ∙ e

swap_eq : (u v : ℕ) → (u == v) ≡ (v == u)
swap_eq u v = by_case (same_or_not u v) where
  by_case : (u ≡ v) ⊎ (u ≢ v) → (u == v) ≡ (v == u)
  by_case (inl e) = eq-eqb u v e ∙ sym (eq-eqb v u (sym e))
  by_case (inr n) = ne_eqb u v n ∙ sym (ne_eqb v u (λ e. n (sym e)))

or_false : (b : Bool) → (b || false) ≡ b
or_false true = refl
or_false false = refl

-- a list with one more virtual page
shown_more : (u v : ℕ) (xs : List ℕ) → is_shown u (xs ++ v ∷ []) ≡ (is_shown u xs || (u == v))
shown_more u v xs = list_any-append (λ k. k == u) xs (v ∷ []) ∙ ap (λ (b : Bool). is_shown u xs || b) (or_false (v == u) ∙ swap_eq v u)

-- one more virtual page leads to the frame
pub one_more : (to : ℕ) (alone : Bool) (u v : ℕ) (xs ys : List ℕ) (w x y : Walk) → ys ≡ xs ++ v ∷ [] → x ≡ walk_moved to alone xs u w → y ≡ (if u == v then moved_walk to alone x else x) → y ≡ walk_moved to alone ys u w
one_more to alone u v xs ys w x y l e h =
    choose to alone (is_shown u xs) (u == v) w x y e h ∙ ap (λ (b : Bool). if b then moved_walk to alone w else w) (sym (shown_more u v xs) ∙ ap (is_shown u) (sym l))

pub local_after : (to : ℕ) (alone b : Bool) (w x : Walk) → x ≡ (if b then moved_walk to alone w else w) → IsLocal w → IsLocal x
local_after to alone true w x e h = subst IsLocal (sym e) (moved_local to alone w h)
local_after to alone false w x e h = subst IsLocal (sym e) h

or_true : (b : Bool) → (b || true) ≡ true
or_true true = refl
or_true false = refl

-- the list has each of its numbers
pub shown_at : (xs : List ℕ) (k : ℕ) → k < length xs → is_shown (get_or xs k 0) xs ≡ true
shown_at [] k lt = absurd (omega arith)
shown_at (x ∷ xs) zero lt = ap (λ (b : Bool). b || is_shown x xs) (eq-eqb x x refl)
shown_at (x ∷ xs) (suc k) lt = ap (λ (b : Bool). (x == get_or xs k 0) || b) (shown_at xs k (omega arith)) ∙ or_true (x == get_or xs k 0)

one_walk : (es : List (Option Entry)) (root to : ℕ) (alone : Bool) (u v : ℕ) (b : Bool) → (b ≡ true → u ≡ v) → (if b then moved_walk to alone (walk_at es root v) else walk_at es root u) ≡ (if b then moved_walk to alone (walk_at es root u) else walk_at es root u)
one_walk es root to alone u v true h = ap (λ (k : ℕ). moved_walk to alone (walk_at es root k)) (sym (h refl))
one_walk es root to alone u v false h = refl

same_by : (u v : ℕ) → (u ≡ v) ⊎ (u ≢ v) → (u == v) ≡ true → u ≡ v
same_by u v (inl e) h = e
same_by u v (inr n) h = absurd (let z = ne_eqb u v n in let y : true ≡ false = sym h ∙ z in cc)

-- the walk of the virtual page itself
pub walk_here : (es : List (Option Entry)) (root to : ℕ) (alone : Bool) (u v : ℕ) → (if u == v then moved_walk to alone (walk_at es root v) else walk_at es root u) ≡ (if u == v then moved_walk to alone (walk_at es root u) else walk_at es root u)
walk_here es root to alone u v = one_walk es root to alone u v (u == v) (same_by u v (same_or_not u v))
