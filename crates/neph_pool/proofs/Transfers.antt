-- All frames of one row go to another.
use Rattle.std.proofs.Common.{◌≡◌, ℕ, zero, suc, ◌+◌, ◌<◌, ◌≤◌, List, [], ◌∷◌, ◌++◌, length, set, get_or, take, drop, Some, None, refl, sym, ap, ◌∙◌, arith, add-one, ◌-◌, Bool, false, if◌then◌else◌}
use Rattle.std.proofs.lemmas.List.{map-set, length-map}
use Rattle.std.specs.declared.option.Option.{Option}
use Rattle.neph_pool.specs.declared.entry.Entry.{Entry}
use Rattle.neph_pool.specs.declared.entry.Hold.{Hold}
use Rattle.neph_pool.specs.Frames.{PlainFrame}
use Rattle.neph_pool.specs.Entries.{entry_as, is_here, is_entry, entry_count}
use Rattle.neph_pool.specs.Handing.{nothing, either_entry, add_entries}
use Rattle.neph_pool.specs.Owners.{held_by, either_hold}
use Rattle.neph_pool.specs.Rows.{entry_of, row_entries}
use Rattle.neph_pool.proofs.Rows.{entry_row, is_entry-as, count_cons}
use Rattle.neph_pool.proofs.Tables.{none_all}

at_start : (xs : List PlainFrame) (i : ℕ) (d : PlainFrame) → get_or xs i d ≡ get_or (drop i xs) zero d
at_start [] zero d = refl
at_start [] (suc i) d = refl
at_start (x ∷ xs) zero d = refl
at_start (x ∷ xs) (suc i) d = at_start xs i d

-- lists that are the same from a place on have the same element there
pub same_at : (xs ys : List PlainFrame) (i : ℕ) (d : PlainFrame) → drop i xs ≡ drop i ys → get_or xs i d ≡ get_or ys i d
same_at xs ys i d e = at_start xs i d ∙ ap (λ (zs : List PlainFrame). get_or zs zero d) e ∙ sym (at_start ys i d)

drop_suc : (xs : List PlainFrame) (i : ℕ) → drop (suc i) xs ≡ drop (suc zero) (drop i xs)
drop_suc [] zero = refl
drop_suc [] (suc i) = refl
drop_suc (x ∷ xs) zero = refl
drop_suc (x ∷ xs) (suc i) = drop_suc xs i

drop_set : (xs : List PlainFrame) (i : ℕ) (y : PlainFrame) → drop (suc i) (set xs i y) ≡ drop (suc i) xs
drop_set [] i y = refl
drop_set (x ∷ xs) zero y = refl
drop_set (x ∷ xs) (suc i) y = drop_set xs i y

rest_next : (xs ys : List PlainFrame) (i : ℕ) (y : PlainFrame) → drop i xs ≡ drop i ys → drop (suc i) (set xs i y) ≡ drop (suc i) ys
rest_next xs ys i y e = drop_set xs i y ∙ drop_suc xs i ∙ ap (λ (zs : List PlainFrame). drop (suc zero) zs) e ∙ sym (drop_suc ys i)

gone_set : (es : List (Option Entry)) (i : ℕ) → i < length es → set (nothing i ++ drop i es) i None ≡ nothing (suc i) ++ drop (suc i) es
gone_set [] i h = absurd (omega arith)
gone_set (x ∷ es) zero h = refl
gone_set (x ∷ es) (suc i) h = ap (λ (xs : List (Option Entry)). None ∷ xs) (gone_set es i (omega arith))

pub add-nil : (es : List (Option Entry)) → add_entries es [] ≡ es
unfolding add_entries
add-nil [] = refl
add-nil (x ∷ es) = refl

either_none : (x : Option Entry) → either_entry x None ≡ x
either_none None = refl
either_none (Some e) = refl

pub add-none : (es : List (Option Entry)) → add_entries es (nothing (length es)) ≡ es
unfolding add_entries
add-none [] = refl
add-none (x ∷ es) = ap (λ (y : Option Entry). y ∷ add_entries es (nothing (length es))) (either_none x) ∙ ap (λ (xs : List (Option Entry)). x ∷ xs) (add-none es)

joined_set : (es fs : List (Option Entry)) (i : ℕ) → i < length fs → length es ≡ length fs → set (add_entries es (take i fs)) i (either_entry (get_or es i None) (get_or fs i None)) ≡ add_entries es (take (suc i) fs)
unfolding add_entries
joined_set [] [] i h e = absurd (omega arith)
joined_set [] (b ∷ fs) i h e = absurd (omega arith)
joined_set (a ∷ es) [] i h e = absurd (omega arith)
joined_set (a ∷ es) (b ∷ fs) zero h e = ap (λ (xs : List (Option Entry)). either_entry a b ∷ xs) (sym (add-nil es))
joined_set (a ∷ es) (b ∷ fs) (suc i) h e = ap (λ (xs : List (Option Entry)). either_entry a b ∷ xs) (joined_set es fs i (omega arith) (omega arith))

either_as : (h k : Option Hold) (ws : List ℕ) → entry_as (either_hold h k) ws ≡ either_entry (entry_as h ws) (entry_as k ws)
either_as None k ws = refl
either_as (Some h) k ws = refl

gone_next : (r : ℕ) (xs ys : List PlainFrame) (i : ℕ) (y : PlainFrame) → i < length ys → held_by r y.owners ≡ None
    → row_entries r xs ≡ nothing i ++ drop i (row_entries r ys) → row_entries r (set xs i y) ≡ nothing (suc i) ++ drop (suc i) (row_entries r ys)
unfolding entry_of
gone_next r xs ys i y h none e =
    let fit : i < length (row_entries r ys) = rw (length-map ys (entry_of r)) h in
    map-set (entry_of r) xs i y ∙ ap (λ (k : Option Hold). set (row_entries r xs) i (entry_as k y.words)) none ∙ ap (λ (es : List (Option Entry)). set es i None) e ∙ gone_set (row_entries r ys) i fit

joined_next : (a b : ℕ) (xs ys : List PlainFrame) (i : ℕ) (x y : PlainFrame) → i < length ys → x ≡ get_or ys i x → y.words ≡ x.words → held_by b y.owners ≡ either_hold (held_by b x.owners) (held_by a x.owners)
    → row_entries b xs ≡ add_entries (row_entries b ys) (take i (row_entries a ys)) → row_entries b (set xs i y) ≡ add_entries (row_entries b ys) (take (suc i) (row_entries a ys))
unfolding entry_of
joined_next a b xs ys i x y h is words own e =
    let fit : i < length (row_entries a ys) = rw (length-map ys (entry_of a)) h in
    let same : length (row_entries b ys) ≡ length (row_entries a ys) = length-map ys (entry_of b) ∙ sym (length-map ys (entry_of a)) in
    let new : entry_of b y ≡ either_entry (get_or (row_entries b ys) i None) (get_or (row_entries a ys) i None)
    = rw (own, words, entry_row b ys i x h is, entry_row a ys i x h is) (either_as (held_by b x.owners) (held_by a x.owners) x.words) in
    map-set (entry_of b) xs i y ∙ ap (λ (o : Option Entry). set (row_entries b xs) i o) new ∙ ap (λ (es : List (Option Entry)). set es i (either_entry (get_or (row_entries b ys) i None) (get_or (row_entries a ys) i None))) e
    ∙ joined_set (row_entries b ys) (row_entries a ys) i fit same

-- the same, with the next place as the loop has it
pub rest_step : (xs ys : List PlainFrame) (i : ℕ) (y : PlainFrame) → drop i xs ≡ drop i ys → drop (i + 1) (set xs i y) ≡ drop (i + 1) ys
rest_step xs ys i y e = rw (add-one i) (rest_next xs ys i y e)

pub gone_step : (r : ℕ) (xs ys : List PlainFrame) (i : ℕ) (y : PlainFrame) → i < length ys → held_by r y.owners ≡ None
    → row_entries r xs ≡ nothing i ++ drop i (row_entries r ys) → row_entries r (set xs i y) ≡ nothing (i + 1) ++ drop (i + 1) (row_entries r ys)
gone_step r xs ys i y h none e = rw (add-one i) (gone_next r xs ys i y h none e)

pub joined_step : (a b : ℕ) (xs ys : List PlainFrame) (i : ℕ) (x y : PlainFrame) → i < length ys → x ≡ get_or ys i x → y.words ≡ x.words → held_by b y.owners ≡ either_hold (held_by b x.owners) (held_by a x.owners)
    → row_entries b xs ≡ add_entries (row_entries b ys) (take i (row_entries a ys)) → row_entries b (set xs i y) ≡ add_entries (row_entries b ys) (take (i + 1) (row_entries a ys))
joined_step a b xs ys i x y h is words own e = rw (add-one i) (joined_next a b xs ys i x y h is words own e)

-- a row's entries from a place on, counted
pub count_from : (es : List (Option Entry)) (k : ℕ) → k < length es → entry_count (drop k es) ≡ (if is_entry (get_or es k None) then 1 else 0) + entry_count (drop (suc k) es)
count_from [] k lt = absurd (omega arith)
count_from (e ∷ es) zero lt = count_cons e es
count_from (e ∷ es) (suc k) lt = count_from es k (omega arith)

-- where some are left, the last place isn't reached
pub count_fits : (es : List (Option Entry)) (k : ℕ) → 0 < entry_count (drop k es) → k < length es
count_fits [] zero h = absurd (omega arith)
count_fits [] (suc k) h = absurd (omega arith)
count_fits (e ∷ es) zero h = omega arith
count_fits (e ∷ es) (suc k) h = let r = count_fits es k h in omega arith

rest_none : (es : List (Option Entry)) (k : ℕ) → k ≤ length es → entry_count (drop k es) ≡ 0 → nothing k ++ drop k es ≡ nothing (length es)
rest_none es zero le h = none_all es h
rest_none [] (suc k) le h = absurd (omega arith)
rest_none (e ∷ es) (suc k) le h = ap (λ (xs : List (Option Entry)). None ∷ xs) (rest_none es k (omega arith) h)

either_none' : (x y : Option Entry) → is_entry y ≡ false → either_entry x y ≡ x
either_none' x None h = either_none x
either_none' x (Some e) h = absurd (cc)

none_first : (e : Option Entry) (es : List (Option Entry)) → entry_count (e ∷ es) ≡ 0 → (is_entry e ≡ false) × (entry_count es ≡ 0)
none_first None es h = (refl, omega (arith, count_cons None es, h))
none_first (Some e) es h = absurd (omega (arith, count_cons (Some e) es, h))

add_rest : (es fs : List (Option Entry)) (k : ℕ) → length es ≡ length fs → entry_count (drop k fs) ≡ 0 → add_entries es (take k fs) ≡ add_entries es fs
unfolding add_entries
add_rest [] [] zero e h = refl
add_rest [] [] (suc k) e h = refl
add_rest [] (f ∷ fs) k e h = absurd (omega arith)
add_rest (x ∷ es) [] k e h = absurd (omega arith)
add_rest (x ∷ es) (f ∷ fs) zero e h =
    let n = none_first f fs h in
    ap (λ (y : Option Entry). y ∷ es) (sym (either_none' x f n.0)) ∙ ap (λ (ys : List (Option Entry)). either_entry x f ∷ ys) (sym (add-nil es) ∙ add_rest es fs zero (omega arith) n.1)
add_rest (x ∷ es) (f ∷ fs) (suc k) e h = ap (λ (ys : List (Option Entry)). either_entry x f ∷ ys) (add_rest es fs k (omega arith) h)

-- after the last frame that the row has
pub gone_all : (r : ℕ) (xs ys : List PlainFrame) (i : ℕ) → i ≤ length ys → entry_count (drop i (row_entries r ys)) ≡ 0 → row_entries r xs ≡ nothing i ++ drop i (row_entries r ys) → row_entries r xs ≡ nothing (length ys)
gone_all r xs ys i le h e = e ∙ rest_none (row_entries r ys) i (rw (length-map ys (entry_of r)) le) h ∙ ap nothing (length-map ys (entry_of r))

pub joined_all : (a b : ℕ) (xs ys : List PlainFrame) (i : ℕ) → entry_count (drop i (row_entries a ys)) ≡ 0 → row_entries b xs ≡ add_entries (row_entries b ys) (take i (row_entries a ys)) → row_entries b xs ≡ add_entries (row_entries b ys) (row_entries a ys)
joined_all a b xs ys i h e = e ∙ add_rest (row_entries b ys) (row_entries a ys) i (length-map ys (entry_of b) ∙ sym (length-map ys (entry_of a))) h

-- where the row has some left, the last frame isn't reached
pub some_left : (r : ℕ) (ys : List PlainFrame) (i left : ℕ) → left ≡ entry_count (drop i (row_entries r ys)) → 0 < left → i < length ys
some_left r ys i left e h = let k = count_fits (row_entries r ys) i (omega (arith, e, h)) in omega (arith, k, length-map ys (entry_of r))

-- one frame later
pub count_next : (r : ℕ) (ys : List PlainFrame) (i : ℕ) (x : PlainFrame) (b : Bool) (n left : ℕ) → i < length ys → x ≡ get_or ys i x → b ≡ is_here (held_by r x.owners) → n ≡ (if b then 1 else 0)
    → left ≡ entry_count (drop i (row_entries r ys)) → left - n ≡ entry_count (drop (i + 1) (row_entries r ys))
unfolding entry_of
count_next r ys i x b n left lt at here is e =
    let fit : i < length (row_entries r ys) = rw (length-map ys (entry_of r)) lt in
    let one : is_entry (get_or (row_entries r ys) i None) ≡ b = ap is_entry (entry_row r ys i x lt at) ∙ is_entry-as (held_by r x.owners) x.words ∙ sym here in
    let split = count_from (row_entries r ys) i fit in
    let bit : (if is_entry (get_or (row_entries r ys) i None) then 1 else 0) ≡ n = ap (λ (c : Bool). if c then 1 else 0) one ∙ sym is in
    rw (add-one i) (omega (arith, e, split, bit))
