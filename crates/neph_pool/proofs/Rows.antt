-- How the entries of a row read after a change of one frame.
use Rattle.std.proofs.Common.{◌≡◌, ◌≢◌, ℕ, zero, suc, ◌+◌, ◌-◌, ◌<◌, ◌≤◌, Bool, true, false, List, [], ◌∷◌, length, map, set, get_or, Some, None, refl, sym, ap, ◌∙◌, subst, arith, eq-eqb, ne_eqb, drop, add-one, drop-cons, ◌==◌, ◌||◌, ◌*◌, ◌⊎◌, inl, inr, if◌then◌else◌, MatchBool, length-set}
use Rattle.std.proofs.lemmas.List.{get_or_default, map-set, length-map}
use Rattle.std.proofs.lemmas.List.Sums.{sum_by-cons, count_by-le-length}
use Rattle.std.proofs.lemmas.Bool.{eqb-true}
use Rattle.std.proofs.Math.Seq.{map-set_same}
use Rattle.std.specs.declared.option.Option.{Option}
use Rattle.neph_pool.specs.declared.entry.Entry.{Entry}
use Rattle.neph_pool.specs.declared.entry.Hold.{Hold}
use Rattle.neph_pool.specs.declared.entry.Hold.TheVariants.{Zero, Sole, Counted}
use Rattle.neph_pool.specs.declared.owners.Owners.{Owners}
use Rattle.neph_pool.specs.declared.owners.Owners.TheVariants.{Spare, Alone, Many}
use Rattle.neph_pool.specs.Frames.{PlainFrame, blank_frame, frame_at}
use Rattle.neph_pool.specs.declared.plain_pool.PlainPool.{PlainPool}
use Rattle.neph_pool.specs.declared.plain_pool.PlainSeat.{PlainSeat}
use Rattle.neph_pool.specs.Entries.{entry_as, entry_at, hold_of, words_of, with_hold_of, with_words_of, hold_at, words_at, with_hold, with_words, without, is_here, is_whole, is_counted, weight_of, is_entry, entry_count}
use Rattle.neph_pool.specs.Handing.{left_of, left_hold, moved_of, moved_hold, giving, taking, MayTake}
use Rattle.neph_pool.proofs.Walks.{walk_left, walk_moved, MayWalk}
use Rattle.neph_pool.specs.Names.{IsApart, IsCapped, both_names, name_count}
use Rattle.neph_pool.specs.PlainLaws.{same_count}
use Rattle.neph_pool.specs.World.{Spares, Moves}
use Rattle.neph_pool.specs.Owners.{held_by, total_of}
use Rattle.neph_pool.specs.Rows.{names_of, row_entries, entry_of, total_at}
use Rattle.neph_pool.specs.Plain.{PlainFits, IsKept, plain_world, plain_names}

hold_of-as : (h : Option Hold) (ws : List ℕ) → hold_of (entry_as h ws) ≡ h
hold_of-as None ws = refl
hold_of-as (Some h) ws = refl

words_of-as : (h : Option Hold) (ws : List ℕ) → is_here h ≡ true → words_of (entry_as h ws) ≡ ws
words_of-as None ws e = absurd (cc)
words_of-as (Some h) ws e = refl

with_hold_of-as : (h : Option Hold) (ws : List ℕ) (k : Hold) → is_here h ≡ true → with_hold_of (entry_as h ws) k ≡ entry_as (Some k) ws
with_hold_of-as None ws k e = absurd (cc)
with_hold_of-as (Some h) ws k e = refl

with_words_of-as : (h : Option Hold) (ws vs : List ℕ) → with_words_of (entry_as h ws) vs ≡ entry_as h vs
with_words_of-as None ws vs = refl
with_words_of-as (Some h) ws vs = refl

pub row_in : (r : ℕ) (xs : List PlainFrame) (f : ℕ) → is_here (hold_at (map (entry_of r) xs) f) ≡ true → f < length xs
unfolding hold_at
row_in r [] f h = absurd (cc)
row_in r (x ∷ xs) zero h = omega arith
row_in r (x ∷ xs) (suc f) h = let k = row_in r xs f h in omega arith

pub row_hold : (r : ℕ) (xs : List PlainFrame) (f : ℕ) (x : PlainFrame) → f < length xs → x ≡ get_or xs f x → hold_at (map (entry_of r) xs) f ≡ held_by r x.owners
unfolding hold_at entry_of
row_hold r [] f x h e = absurd (omega arith)
row_hold r (y ∷ xs) zero x h e = hold_of-as (held_by r y.owners) y.words ∙ ap (λ (z : PlainFrame). held_by r z.owners) (sym e)
row_hold r (y ∷ xs) (suc f) x h e = row_hold r xs f x (omega arith) e

pub row_words : (r : ℕ) (xs : List PlainFrame) (f : ℕ) (x : PlainFrame) → x ≡ get_or xs f x → is_here (hold_at (map (entry_of r) xs) f) ≡ true → words_at (map (entry_of r) xs) f ≡ x.words
unfolding hold_at words_at entry_of
row_words r [] f x e h = absurd (cc)
row_words r (y ∷ xs) zero x e h = words_of-as (held_by r y.owners) y.words (sym (ap is_here (hold_of-as (held_by r y.owners) y.words)) ∙ h) ∙ ap (λ (z : PlainFrame). z.words) (sym e)
row_words r (y ∷ xs) (suc f) x e h = row_words r xs f x e h

pub rows_with_hold : (r : ℕ) (xs : List PlainFrame) (f : ℕ) (x y : PlainFrame) (k : Hold) → x ≡ get_or xs f x → is_here (held_by r x.owners) ≡ true → held_by r y.owners ≡ Some k → y.words ≡ x.words
    → map (entry_of r) (set xs f y) ≡ with_hold (map (entry_of r) xs) f k
unfolding with_hold entry_of
rows_with_hold r [] f x y k e h own same = refl
rows_with_hold r (z ∷ xs) zero x y k e h own same =
    let here : is_here (held_by r z.owners) ≡ true = subst (λ (w : PlainFrame). is_here (held_by r w.owners) ≡ true) e h in
    let new : entry_as (held_by r y.owners) y.words ≡ entry_as (Some k) z.words = rw (own, same) (ap (λ (w : PlainFrame). entry_as (Some k) w.words) e) in
    ap (λ (o : Option Entry). o ∷ map (entry_of r) xs) (new ∙ sym (with_hold_of-as (held_by r z.owners) z.words k here))
rows_with_hold r (z ∷ xs) (suc f) x y k e h own same = ap (λ (os : List (Option Entry)). entry_of r z ∷ os) (rows_with_hold r xs f x y k e h own same)

pub rows_without : (r : ℕ) (xs : List PlainFrame) (f : ℕ) (y : PlainFrame) → held_by r y.owners ≡ None → map (entry_of r) (set xs f y) ≡ without (map (entry_of r) xs) f
unfolding without entry_of
rows_without r xs f y gone = map-set (entry_of r) xs f y ∙ ap (λ (h : Option Hold). set (map (entry_of r) xs) f (entry_as h y.words)) gone

pub rows_with_words : (r : ℕ) (xs : List PlainFrame) (f : ℕ) (x y : PlainFrame) (ws : List ℕ) → x ≡ get_or xs f x → y.owners ≡ x.owners → y.words ≡ ws
    → map (entry_of r) (set xs f y) ≡ with_words (map (entry_of r) xs) f ws
unfolding with_words entry_of
rows_with_words r [] f x y ws e own new = refl
rows_with_words r (z ∷ xs) zero x y ws e own new =
    let at : entry_as (held_by r y.owners) y.words ≡ entry_as (held_by r z.owners) ws = rw (own, new) (ap (λ (w : PlainFrame). entry_as (held_by r w.owners) ws) e) in
    ap (λ (o : Option Entry). o ∷ map (entry_of r) xs) (at ∙ sym (with_words_of-as (held_by r z.owners) z.words ws))
rows_with_words r (z ∷ xs) (suc f) x y ws e own new = ap (λ (os : List (Option Entry)). entry_of r z ∷ os) (rows_with_words r xs f x y ws e own new)

-- what a row has of a frame, where its hold and the words stay
pub same_entry : (r : ℕ) (x y : PlainFrame) → held_by r y.owners ≡ held_by r x.owners → y.words ≡ x.words → entry_of r y ≡ entry_of r x
unfolding entry_of
same_entry r x y h w = rw (h, w) refl

pub no_entry : (r : ℕ) (x y : PlainFrame) → held_by r y.owners ≡ None → held_by r x.owners ≡ None → entry_of r y ≡ entry_of r x
unfolding entry_of
no_entry r x y h k = rw (h, k) refl

-- where a row has it sole, no other row has it
sole_of : (b : Bool) (q r row : ℕ) → (row == q) ≡ b → (if b then Some Sole else None) ≡ Some Sole → r ≢ row → held_by r (Alone q) ≡ None
sole_of true q r row e h n = rw (ne_eqb r q (λ k. n (k ∙ sym (eqb-true row q e)))) refl
sole_of false q r row e h n = absurd (cc)

spare_not : (b : Bool) → (if b then Some Zero else None) ≡ Some Sole → ⊥
spare_not true h = cc
spare_not false h = cc

many_not : (b : Bool) (n : ℕ) → (if b then None else Some (Counted n)) ≡ Some Sole → ⊥
many_not true n h = cc
many_not false n h = cc

pub sole_else : (o : Owners) (r row : ℕ) → held_by row o ≡ Some Sole → r ≢ row → held_by r o ≡ None
sole_else (Spare q) r row h n = absurd (spare_not (row == q) h)
sole_else (Alone q) r row h n = sole_of (row == q) q r row refl h n
sole_else (Many ws) r row h n = absurd (many_not (get_or ws.by_row row 0 == 0) (get_or ws.by_row row 0) h)

pub rows_same : (r : ℕ) (xs : List PlainFrame) (f : ℕ) (x y : PlainFrame) → x ≡ get_or xs f x → entry_of r y ≡ entry_of r x → map (entry_of r) (set xs f y) ≡ map (entry_of r) xs
rows_same r xs f x y e h = map-set_same (entry_of r) xs f y x (h ∙ ap (entry_of r) e)

-- seats of one pool with no name in common have different rows
pub row_apart : (p : PlainPool) (s t : PlainSeat) → PlainFits p s → PlainFits p t → IsApart (plain_names s) (plain_names t) → t.row ≢ s.row
row_apart p s t h k a same = a s.row h.named (k.names s.row ∙ ap (λ (r : ℕ). names_of p.rows r s.row) same ∙ sym (h.names s.row) ∙ h.named)

pub count_cons : (x : Option Entry) (xs : List (Option Entry)) → entry_count (x ∷ xs) ≡ (if is_entry x then 1 else 0) + entry_count xs
count_cons x xs = sum_by-cons (λ (y : Option Entry). if is_entry y then 1 else 0) x xs

pub is_entry-as : (h : Option Hold) (ws : List ℕ) → is_entry (entry_as h ws) ≡ is_here h
is_entry-as None ws = refl
is_entry-as (Some h) ws = refl

one_le : (a b : Bool) → (a ≡ true → b ≡ true) → (if a then 1 else 0) ≤ (if b then 1 else 0)
one_le false b h = omega arith
one_le true true h = omega arith
one_le true false h = let e : false ≡ true = h refl in absurd (cc)

-- a change of one frame, by which a row that had nothing of it gets nothing
pub count_kept : (r : ℕ) (xs : List PlainFrame) (f : ℕ) (x y : PlainFrame) → x ≡ get_or xs f x → (is_here (held_by r y.owners) ≡ true → is_here (held_by r x.owners) ≡ true)
    → entry_count (row_entries r (set xs f y)) ≤ entry_count (row_entries r xs)
unfolding entry_of
count_kept r [] f x y e h = omega arith
count_kept r (z ∷ xs) zero x y e h =
    let here : is_here (held_by r y.owners) ≡ true → is_here (held_by r z.owners) ≡ true = subst (λ (w : PlainFrame). is_here (held_by r y.owners) ≡ true → is_here (held_by r w.owners) ≡ true) e h in
    let le : (if is_entry (entry_of r y) then 1 else 0) ≤ (if is_entry (entry_of r z) then 1 else 0) = rw (is_entry-as (held_by r y.owners) y.words, is_entry-as (held_by r z.owners) z.words) (one_le _ _ here) in
    omega (arith, count_cons (entry_of r y) (row_entries r xs), count_cons (entry_of r z) (row_entries r xs), le)
count_kept r (z ∷ xs) (suc f) x y e h = omega (arith, count_cons (entry_of r z) (row_entries r (set xs f y)), count_cons (entry_of r z) (row_entries r xs), count_kept r xs f x y e h)

-- the count of a row that had the frame doesn't rise
pub count_fewer : (r : ℕ) (xs : List PlainFrame) (f : ℕ) (x y : PlainFrame) (n : ℕ) → x ≡ get_or xs f x → is_here (held_by r x.owners) ≡ true → entry_count (row_entries r xs) ≤ n → entry_count (row_entries r (set xs f y)) ≤ n
count_fewer r xs f x y n e here le = omega (arith, le, count_kept r xs f x y e (λ _. here))

same_or_not_by : (b : Bool) (r a : ℕ) → (r == a) ≡ b → (r ≡ a) ⊎ (r ≢ a)
same_or_not_by true r a e = inl (eqb-true r a e)
same_or_not_by false r a e = inr (λ (q : r ≡ a). let t : (r == a) ≡ true = eq-eqb r a q in absurd (cc))

pub same_or_not : (r a : ℕ) → (r ≡ a) ⊎ (r ≢ a)
same_or_not r a = same_or_not_by (r == a) r a refl

-- what a call may do to one frame: a row that had nothing of it gets nothing
abbrev pub IsFewer : PlainFrame → PlainFrame → Type 0
IsFewer x y = (r : ℕ) → is_here (held_by r y.owners) ≡ true → is_here (held_by r x.owners) ≡ true

fewer_at : (b : Bool) (row r : ℕ) (x y : PlainFrame) → (r == row) ≡ b → is_here (held_by row x.owners) ≡ true → (r ≢ row → held_by r y.owners ≡ held_by r x.owners) → is_here (held_by r y.owners) ≡ true → is_here (held_by r x.owners) ≡ true
fewer_at true row r x y e here same h = ap (λ (k : ℕ). is_here (held_by k x.owners)) (eqb-true r row e) ∙ here
fewer_at false row r x y e here same h = let n : r ≢ row = (λ (q : r ≡ row). let t : (r == row) ≡ true = eq-eqb r row q in absurd (cc)) in ap is_here (sym (same n)) ∙ h

pub fewer : (row : ℕ) (x y : PlainFrame) → is_here (held_by row x.owners) ≡ true → ((r : ℕ) → r ≢ row → held_by r y.owners ≡ held_by r x.owners) → IsFewer x y
fewer row x y here same r h = fewer_at (r == row) row r x y refl here (same r) h

abbrev bit : Bool → ℕ
bit b = if b then 1 else 0

-- the entries of a row after a change of one frame, counted
pub count_changed : (r : ℕ) (xs : List PlainFrame) (f : ℕ) (x y : PlainFrame) → f < length xs → x ≡ get_or xs f x
    → entry_count (row_entries r (set xs f y)) + bit (is_here (held_by r x.owners)) ≡ entry_count (row_entries r xs) + bit (is_here (held_by r y.owners))
unfolding entry_of
count_changed r [] f x y lt e = absurd (omega arith)
count_changed r (z ∷ xs) zero x y lt e =
    let at : bit (is_here (held_by r x.owners)) ≡ bit (is_entry (entry_of r z)) = ap (λ (w : PlainFrame). bit (is_here (held_by r w.owners))) e ∙ ap bit (sym (is_entry-as (held_by r z.owners) z.words)) in
    let new : bit (is_here (held_by r y.owners)) ≡ bit (is_entry (entry_of r y)) = ap bit (sym (is_entry-as (held_by r y.owners) y.words)) in
    omega (arith, count_cons (entry_of r y) (row_entries r xs), count_cons (entry_of r z) (row_entries r xs), at, new)
count_changed r (z ∷ xs) (suc f) x y lt e =
    omega (arith, count_cons (entry_of r z) (row_entries r (set xs f y)), count_cons (entry_of r z) (row_entries r xs), count_changed r xs f x y (omega arith) e)

-- the counts of the rows follow the change of one frame
abbrev pub AreRecounted : List ℕ → List ℕ → PlainFrame → PlainFrame → Type 0
AreRecounted held now x y = (r : ℕ) → r < 64 → get_or now r 0 + bit (is_here (held_by r x.owners)) ≡ get_or held r 0 + bit (is_here (held_by r y.owners))

pub full_set : (xs : List PlainFrame) (f : ℕ) (y : PlainFrame) → length y.words ≡ 512 → ((g : ℕ) → g < length xs → length (frame_at xs g).words ≡ 512) → (g : ℕ) → g < length (set xs f y) → length (frame_at (set xs f y) g).words ≡ 512
full_set [] f y one all g lt = absurd (omega arith)
full_set (x ∷ xs) zero y one all zero lt = one
full_set (x ∷ xs) zero y one all (suc g) lt = all (suc g) (omega arith)
full_set (x ∷ xs) (suc f) y one all zero lt = all zero (omega arith)
full_set (x ∷ xs) (suc f) y one all (suc g) lt = full_set xs f y one (λ k l. all (suc k) (omega arith)) g (omega arith)

-- the frame that a call found, with its owners
abbrev pub seen : List PlainFrame → ℕ → Owners → PlainFrame
seen xs f o = record { owners = o; words = (frame_at xs f).words }

pub seen_at : (xs : List PlainFrame) (f : ℕ) (o : Owners) → f < length xs → o ≡ (frame_at xs f).owners → seen xs f o ≡ get_or xs f (seen xs f o)
seen_at xs f o fit is = ap (λ (k : Owners). seen xs f k) is ∙ get_or_default xs f blank_frame (seen xs f o) fit

-- the pool with one frame changed
module _ (p : PlainPool) (f n : ℕ) (x y : PlainFrame) (zs : List PlainFrame) (hs : List ℕ) (is : zs ≡ set p.frames f y) (fit : f < length p.frames) (at : x ≡ get_or p.frames f x)
    (full : length y.words ≡ 512) (few : IsFewer x y) (counts : AreRecounted p.held hs x y) where
  abbrev changed : PlainPool
  changed = record { frames = zs; rows = p.rows; held = hs; cap = p.cap; shares = n }

  pub kept_still : IsKept p → IsKept changed
  kept_still k = record {
    table = k.table;
    few = rw is (omega (arith, k.few, length-set p.frames f y));
    full = subst (λ (xs : List PlainFrame). (g : ℕ) → g < length xs → length (frame_at xs g).words ≡ 512) (sym is) (full_set p.frames f y full k.full);
    held = λ r lt. rw is (omega (arith, k.held r lt, counts r lt, count_changed r p.frames f x y fit at));
    capped = λ r ne. rw is (omega (arith, k.capped r ne, count_kept r p.frames f x y at (few r)));
  }

  module _ (s : PlainSeat) (h : PlainFits p s) (same : (r : ℕ) → r ≢ s.row → entry_of r y ≡ entry_of r x) where
    -- only what the row of the seat has of one frame has changed
    pub plain_spares : Spares plain_world (plain_names s) p changed
    plain_spares = record {
      frames = rw is (length-set p.frames f y);
      cap = refl;
      fits = λ t k a. record { kept = kept_still k.kept; row = k.row; named = k.named; names = k.names };
      entries = λ t k a. rw is (rows_same t.row p.frames f x y at (same t.row (row_apart p s t h k a)));
    }

    pub plain_moves : (t : PlainSeat) → t.row ≡ s.row → t.names ≡ s.names → Moves plain_world p s changed t
    plain_moves t row names = record {
      fits = record {
        kept = kept_still h.kept;
        row = rw row h.row;
        named = rw (row, names) h.named;
        names = λ d. rw (row, names) (h.names d);
      };
      names = ap (λ (xs : List Bool). λ (d : ℕ). get_or xs d false) names;
      others = plain_spares;
    }

-- one frame changed hands among nobody but the row of the seat
pub plain_changes : (p : PlainPool) (s t : PlainSeat) (f n : ℕ) (x y : PlainFrame) (zs : List PlainFrame) (hs : List ℕ) → PlainFits p s → t.row ≡ s.row → t.names ≡ s.names → f < length p.frames → x ≡ get_or p.frames f x
    → is_here (held_by s.row x.owners) ≡ true → ((r : ℕ) → r ≢ s.row → held_by r y.owners ≡ held_by r x.owners) → y.words ≡ x.words → zs ≡ set p.frames f y → AreRecounted p.held hs x y
    → Moves plain_world p s record { frames = zs; rows = p.rows; held = hs; cap = p.cap; shares = n } t
plain_changes p s t f n x y zs hs h row names fit e here others words is counts =
    let full : length y.words ≡ 512 = ap (λ (ws : List ℕ). length ws) words ∙ ap (λ (w : PlainFrame). length w.words) (e ∙ get_or_default p.frames f x blank_frame fit) ∙ h.kept.full f fit in
    plain_moves p f n x y zs hs is fit e full (fewer s.row x y here others) counts s h (λ r ne. same_entry r x y (others r ne) words) t row names

-- no row gains or loses its entry
pub same_counts : (held : List ℕ) (row : ℕ) (x y : PlainFrame) → is_here (held_by row x.owners) ≡ true → is_here (held_by row y.owners) ≡ true → ((r : ℕ) → r ≢ row → held_by r y.owners ≡ held_by r x.owners) → AreRecounted held held x y
same_counts held row x y before after others r lt = elim (same_or_not r row) [
  | inl e ↦ rw (e, before, after) refl
  | inr n ↦ rw (others r n) refl
]

-- the row of the seat loses it, if so
pub row_recounted : (held hs : List ℕ) (row : ℕ) (x y : PlainFrame) (b : Bool) → is_here (held_by row x.owners) ≡ true → is_here (held_by row y.owners) ≡ b → ((r : ℕ) → r ≢ row → held_by r y.owners ≡ held_by r x.owners)
    → 0 < get_or held row 0 → get_or hs row 0 ≡ get_or held row 0 + bit b - 1 → ((r : ℕ) → r ≢ row → get_or hs r 0 ≡ get_or held r 0) → AreRecounted held hs x y
row_recounted held hs row x y b before after others some own else_ r lt = elim (same_or_not r row) [
  | inl e ↦ rw (e, own, before, after) (omega arith)
  | inr n ↦ rw (else_ r n, others r n) refl
]

-- the counts of the rows
abbrev pub AreCounts : List ℕ → List PlainFrame → Type 0
AreCounts held xs = (r : ℕ) → r < 64 → get_or held r 0 ≡ entry_count (row_entries r xs)

count_here : (es : List (Option Entry)) (f : ℕ) → is_here (hold_at es f) ≡ true → 0 < entry_count es
unfolding hold_at
count_here [] f h = absurd (cc)
count_here (None ∷ es) zero h = absurd (cc)
count_here (Some e ∷ es) zero h = omega (arith, count_cons (Some e) es)
count_here (e ∷ es) (suc f) h = omega (arith, count_cons e es, count_here es f h)

-- a row that has a frame has a count
pub some_held : (held : List ℕ) (xs : List PlainFrame) (r f : ℕ) → AreCounts held xs → r < 64 → is_here (hold_at (row_entries r xs) f) ≡ true → 0 < get_or held r 0
some_held held xs r f k lt h = rw (k r lt) (count_here (row_entries r xs) f h)

pub few_held : (held : List ℕ) (xs : List PlainFrame) (r : ℕ) → AreCounts held xs → length xs ≤ 16384 → r < 64 → get_or held r 0 ≤ 16384
few_held held xs r k few lt =
    let most : entry_count (row_entries r xs) ≤ length xs = omega (arith, count_by-le-length is_entry (row_entries r xs), length-map xs (entry_of r)) in
    omega (arith, k r lt, few, most)

-- a frame goes from the row a to the row b
pub counts_handed : (held h1 h2 : List ℕ) (xs : List PlainFrame) (f : ℕ) (x y : PlainFrame) (a b : ℕ) (had has : Bool) → a ≢ b → a < 64 → f < length xs → x ≡ get_or xs f x → AreCounts held xs
    → is_here (held_by a x.owners) ≡ true → is_here (held_by b y.owners) ≡ true → had ≡ is_here (held_by b x.owners) → has ≡ is_here (held_by a y.owners) → ((r : ℕ) → r ≢ a → r ≢ b → held_by r y.owners ≡ held_by r x.owners)
    → get_or h1 a 0 ≡ get_or held a 0 + bit has - 1 → ((r : ℕ) → r ≢ a → get_or h1 r 0 ≡ get_or held r 0)
    → get_or h2 b 0 ≡ get_or h1 b 0 + 1 - bit had → ((r : ℕ) → r ≢ b → get_or h2 r 0 ≡ get_or h1 r 0) → AreCounts h2 (set xs f y)
counts_handed held h1 h2 xs f x y a b had has ne small fit at k xa yb is_had is_has others own1 else1 own2 else2 r lt =
    let was = k r lt in
    let change = count_changed r xs f x y fit at in
    elim (same_or_not r a) [
      | inl e ↦
          let one : bit (is_here (held_by r x.owners)) ≡ 1 = rw (e, xa) refl in
          let new : bit (is_here (held_by r y.owners)) ≡ bit has = rw (e, is_has) refl in
          let h : get_or h2 r 0 ≡ get_or held r 0 + bit has - 1 = else2 r (λ q. ne (sym e ∙ q)) ∙ rw e own1 in
          omega (arith, was, change, one, new, h)
      | inr n ↦ elim (same_or_not r b) [
        | inl e ↦
            let old : bit (is_here (held_by r x.owners)) ≡ bit had = rw (e, is_had) refl in
            let one : bit (is_here (held_by r y.owners)) ≡ 1 = rw (e, yb) refl in
            let h : get_or h2 r 0 ≡ get_or h1 r 0 + 1 - bit had = rw e own2 in
            omega (arith, was, change, one, old, h, else1 r n, bit_most had)
        | inr m ↦
            let same : bit (is_here (held_by r y.owners)) ≡ bit (is_here (held_by r x.owners)) = rw (others r n m) refl in
            omega (arith, was, change, same, else2 r m, else1 r n)
      ]
    ]
  where
    bit_most : (c : Bool) → bit c ≤ 1
    bit_most true = omega arith
    bit_most false = omega arith

pub moved_here : (h k : Option Hold) → is_here h ≡ true → k ≡ moved_hold h → is_here k ≡ true
moved_here None k a e = absurd (cc)
moved_here (Some Zero) k a e = ap is_here e
moved_here (Some Sole) k a e = ap is_here e
moved_here (Some (Counted n)) k a e = ap is_here e

pub told_set : (xs : List PlainFrame) (f n : ℕ) (y : PlainFrame) → total_of y.owners ≡ n → map total_at (set xs f y) ≡ set (map total_at xs) f n
told_set xs f n y e = map-set total_at xs f y ∙ ap (λ (k : ℕ). set (map total_at xs) f k) e

pub told_at : (xs : List PlainFrame) (f : ℕ) (x : PlainFrame) → f < length xs → x ≡ get_or xs f x → get_or (map total_at xs) f 0 ≡ total_of x.owners
told_at [] f x h e = absurd (omega arith)
told_at (y ∷ xs) zero x h e = ap total_at (sym e)
told_at (y ∷ xs) (suc f) x h e = told_at xs f x (omega arith) e

pub here_weight : (h : Option Hold) → weight_of h ≡ 1 → is_here h ≡ true
here_weight None e = absurd (omega arith)
here_weight (Some h) e = refl

-- the frame that a call found
pub record Found (r : ℕ) (xs : List PlainFrame) (f : ℕ) (x : PlainFrame) : Type 0 where
  pub fit : f < length xs
  pub at : x ≡ get_or xs f x
  pub held : hold_at (map (entry_of r) xs) f ≡ held_by r x.owners

pub found : (r : ℕ) (xs : List PlainFrame) (f i : ℕ) (x : PlainFrame) → is_here (hold_at (map (entry_of r) xs) f) ≡ true → i ≡ f → x ≡ get_or xs i x → Found r xs f x
found r xs f i x here same at =
    let at' : x ≡ get_or xs f x = subst (λ (j : ℕ). x ≡ get_or xs j x) same at in
    let fit = row_in r xs f here in
    record { fit = fit; at = at'; held = row_hold r xs f x fit at' }

pub in_frames : (r : ℕ) (xs : List PlainFrame) (f i : ℕ) → is_here (hold_at (map (entry_of r) xs) f) ≡ true → i ≡ f → i < length xs
in_frames r xs f i here same = let fit = row_in r xs f here in omega arith

pub find : (r : ℕ) (xs : List PlainFrame) (f i : ℕ) (o : Owners) → is_here (hold_at (map (entry_of r) xs) f) ≡ true → i ≡ f → o ≡ (frame_at xs i).owners → Found r xs f (seen xs f o)
find r xs f i o here same is =
    let fit = row_in r xs f here in
    let is' : o ≡ (frame_at xs f).owners = is ∙ ap (λ (j : ℕ). (frame_at xs j).owners) same in
    let at : seen xs f o ≡ get_or xs f (seen xs f o) = ap (λ (k : Owners). seen xs f k) is' ∙ get_or_default xs f blank_frame (seen xs f o) fit in
    record { fit = fit; at = at; held = row_hold r xs f (seen xs f o) fit at }

pub told_same : (xs : List PlainFrame) (f : ℕ) (x y : PlainFrame) → x ≡ get_or xs f x → total_of y.owners ≡ total_of x.owners → map total_at (set xs f y) ≡ map total_at xs
told_same xs f x y e h = map-set_same total_at xs f y x (h ∙ ap total_at e)

pub look_entries : (r : ℕ) (xs : List PlainFrame) (f : ℕ) (x y : PlainFrame) (b : Bool) → Found r xs f x → weight_of (held_by r x.owners) ≡ 1 → held_by r y.owners ≡ (if b then Some Sole else held_by r x.owners) → y.words ≡ x.words
    → map (entry_of r) (set xs f y) ≡ (if b then with_hold (map (entry_of r) xs) f Sole else map (entry_of r) xs)
look_entries r xs f x y true t w own same = rows_with_hold r xs f x y Sole t.at (here_weight _ w) own same
look_entries r xs f x y false t w own same = map-set_same (entry_of r) xs f y x (same_entry r x y own same ∙ ap (entry_of r) t.at)

pub release_entries : (r : ℕ) (xs : List PlainFrame) (f : ℕ) (x y : PlainFrame) (b : Bool) → Found r xs f x → weight_of (held_by r x.owners) ≡ 1 → MatchBool b (held_by r y.owners ≡ Some Zero) (held_by r y.owners ≡ None) → y.words ≡ x.words
    → map (entry_of r) (set xs f y) ≡ (if b then with_hold (map (entry_of r) xs) f Zero else without (map (entry_of r) xs) f)
release_entries r xs f x y true t w own same = rows_with_hold r xs f x y Zero t.at (here_weight _ w) own same
release_entries r xs f x y false t w own same = rows_without r xs f y own

pub write_entries : (r : ℕ) (xs : List PlainFrame) (f w v : ℕ) (x y : PlainFrame) → Found r xs f x → hold_at (map (entry_of r) xs) f ≡ Some Sole → y.owners ≡ x.owners → y.words ≡ set x.words w v
    → map (entry_of r) (set xs f y) ≡ with_words (map (entry_of r) xs) f (set (words_at (map (entry_of r) xs) f) w v)
write_entries r xs f w v x y t sole own new = rows_with_words r xs f x y _ t.at own (new ∙ ap (λ (ws : List ℕ). set ws w v) (sym (row_words r xs f x t.at (ap is_here sole))))

left_of-as : (h : Option Hold) (ws : List ℕ) → left_of (entry_as h ws) ≡ entry_as (left_hold h) ws
left_of-as None ws = refl
left_of-as (Some h) ws = refl

moved_of-as : (h : Option Hold) (ws : List ℕ) → moved_of (entry_as h ws) ≡ entry_as (moved_hold h) ws
moved_of-as None ws = refl
moved_of-as (Some h) ws = refl

pub entry_row : (r : ℕ) (xs : List PlainFrame) (f : ℕ) (x : PlainFrame) → f < length xs → x ≡ get_or xs f x → entry_at (map (entry_of r) xs) f ≡ entry_of r x
entry_row r [] f x h e = absurd (omega arith)
entry_row r (y ∷ xs) zero x h e = ap (entry_of r) (sym e)
entry_row r (y ∷ xs) (suc f) x h e = entry_row r xs f x (omega arith) e

pub rows_giving : (a : ℕ) (xs : List PlainFrame) (f : ℕ) (x y : PlainFrame) → Found a xs f x → held_by a y.owners ≡ left_hold (held_by a x.owners) → y.words ≡ x.words
    → map (entry_of a) (set xs f y) ≡ giving (map (entry_of a) xs) f
unfolding entry_of
rows_giving a xs f x y t own same =
    let new : entry_as (held_by a y.owners) y.words ≡ left_of (entry_at (map (entry_of a) xs) f) = rw (own, same, entry_row a xs f x t.fit t.at) (sym (left_of-as (held_by a x.owners) x.words)) in
    map-set (entry_of a) xs f y ∙ ap (λ (o : Option Entry). set (map (entry_of a) xs) f o) new

pub rows_taking : (a b : ℕ) (xs : List PlainFrame) (f : ℕ) (x y : PlainFrame) → Found a xs f x → held_by b y.owners ≡ moved_hold (held_by a x.owners) → y.words ≡ x.words
    → map (entry_of b) (set xs f y) ≡ taking (map (entry_of a) xs) (map (entry_of b) xs) f
unfolding entry_of
rows_taking a b xs f x y t own same =
    let new : entry_as (held_by b y.owners) y.words ≡ moved_of (entry_at (map (entry_of a) xs) f) = rw (own, same, entry_row a xs f x t.fit t.at) (sym (moved_of-as (held_by a x.owners) x.words)) in
    map-set (entry_of b) xs f y ∙ ap (λ (o : Option Entry). set (map (entry_of b) xs) f o) new

gone_hold : (h : Option Hold) → is_here h ≡ false → h ≡ None
gone_hold None e = refl
gone_hold (Some h) e = absurd (cc)

zero_not : (c : Bool) → is_here (if c then Some Zero else None) ≡ true → is_whole (if c then Some Zero else None) ≡ false → ⊥
zero_not true h w = cc
zero_not false h w = cc

sole_not : (c : Bool) → is_here (if c then Some Sole else None) ≡ true → is_whole (if c then Some Sole else None) ≡ false → ⊥
sole_not true h w = cc
sole_not false h w = cc

not_counted : (c : Bool) (n : ℕ) → is_counted (if c then None else Some (Counted n)) ≡ false → (if c then None else Some (Counted n)) ≡ None
not_counted true n h = refl
not_counted false n h = absurd (cc)

-- where one row has counted references, another has counted ones or none
pub many_none : (o : Owners) (a b : ℕ) → is_here (held_by a o) ≡ true → is_whole (held_by a o) ≡ false → is_counted (held_by b o) ≡ false → held_by b o ≡ None
many_none (Spare q) a b h w e = absurd (zero_not (a == q) h w)
many_none (Alone q) a b h w e = absurd (sole_not (a == q) h w)
many_none (Many ws) a b h w e = not_counted (get_or ws.by_row b 0 == 0) (get_or ws.by_row b 0) e

pub room_for : (a b : ℕ) (xs : List PlainFrame) (f : ℕ) (x : PlainFrame) → Found a xs f x → MayTake (map (entry_of a) xs) (map (entry_of b) xs) f → is_whole (held_by a x.owners) ≡ false → held_by b x.owners ≡ None
room_for a b xs f x t may whole =
    many_none x.owners a b (sym (ap is_here t.held) ∙ may.0) whole (sym (ap is_counted (row_hold b xs f x t.fit t.at)) ∙ may.1 (ap is_whole t.held ∙ whole))

-- frames went from the row a to the row b
pub kept_handed : (p q : PlainPool) (a b : ℕ) → IsKept p → q.rows ≡ p.rows → q.cap ≡ p.cap
    → length q.frames ≤ 16384 → ((f : ℕ) → f < length q.frames → length (frame_at q.frames f).words ≡ 512) → ((r : ℕ) → r < 64 → get_or q.held r 0 ≡ entry_count (row_entries r q.frames))
    → ((r : ℕ) → r ≢ a → r ≢ b → row_entries r q.frames ≡ row_entries r p.frames)
    → entry_count (row_entries a q.frames) ≤ entry_count (row_entries a p.frames)
    → (b ≢ 0 → entry_count (row_entries b q.frames) ≤ p.cap * name_count (names_of p.rows b))
    → IsKept q
kept_handed p q a b k rows cap few full held others fewer room = record {
  table = rw rows k.table;
  few = few;
  full = full;
  held = held;
  capped = λ r ne. rw (rows, cap) (elim (same_or_not r b) [
    | inl e ↦ subst (λ (j : ℕ). entry_count (row_entries j q.frames) ≤ p.cap * name_count (names_of p.rows j)) (sym e) (room (λ z. ne (e ∙ z)))
    | inr n ↦ elim (same_or_not r a) [
      | inl e ↦ subst (λ (j : ℕ). entry_count (row_entries j q.frames) ≤ p.cap * name_count (names_of p.rows j)) (sym e) (let old : entry_count (row_entries a p.frames) ≤ p.cap * name_count (names_of p.rows a) = k.capped a (λ z. ne (e ∙ z)) in omega arith)
      | inr m ↦ rw (others r m n) (k.capped r ne)
    ]
  ]);
}

pub fits_handed : (p q : PlainPool) (t : PlainSeat) → PlainFits p t → IsKept q → q.rows ≡ p.rows → PlainFits q t
fits_handed p q t h k rows = record { kept = k; row = h.row; named = h.named; names = λ d. rw rows (h.names d) }

-- the cap of the taker, by the names of its row
pub room_of : (p : PlainPool) (t : PlainSeat) (es : List (Option Entry)) → PlainFits p t → IsCapped p.cap (plain_names t) es → t.row ≢ 0 → entry_count es ≤ p.cap * name_count (names_of p.rows t.row)
room_of p t es h room ne =
    let no : plain_names t 0 ≡ false = h.names 0 ∙ ap (λ (k : ℕ). k == t.row) h.kept.table.first ∙ ne_eqb 0 t.row (λ z. ne (sym z)) in
    rw (sym (same_count (plain_names t) (names_of p.rows t.row) h.names)) (room no)

pub or_right : (b : Bool) → (b || true) ≡ true
or_right true = refl
or_right false = refl

pub apart_left : (ms ns ks : ℕ → Bool) → IsApart (both_names ms ns) ks → IsApart ms ks
apart_left ms ns ks a d m k = a d (rw m refl) k

pub apart_right : (ms ns ks : ℕ → Bool) → IsApart (both_names ms ns) ks → IsApart ns ks
apart_right ms ns ks a d n k = a d (rw n (or_right (ms d))) k

-- the next frame of the part
pub record Turn (a b : ℕ) (xs : List PlainFrame) (part : List ℕ) (i f : ℕ) : Type 0 where
  pub rest : drop i part ≡ f ∷ drop (i + 1) part
  pub may : MayTake (map (entry_of a) xs) (map (entry_of b) xs) f
  pub more : MayWalk (giving (map (entry_of a) xs) f) (taking (map (entry_of a) xs) (map (entry_of b) xs) f) (drop (i + 1) part)

pub turn : (a b : ℕ) (xs : List PlainFrame) (part : List ℕ) (i f : ℕ) → i < length part → f ≡ get_or part i f → MayWalk (map (entry_of a) xs) (map (entry_of b) xs) (drop i part) → Turn a b xs part i f
turn a b xs part i f lt is may =
    let rest : drop i part ≡ f ∷ drop (i + 1) part = rw (add-one, drop-cons part i f lt, sym is) refl in
    let all : MayTake (map (entry_of a) xs) (map (entry_of b) xs) f × MayWalk (giving (map (entry_of a) xs) f) (taking (map (entry_of a) xs) (map (entry_of b) xs) f) (drop (i + 1) part)
    = subst (λ (fs : List ℕ). MayWalk (map (entry_of a) xs) (map (entry_of b) xs) fs) rest may in
    record { rest = rest; may = all.0; more = all.1 }

-- one frame of the part is handed over, and y is what the pool then has of it
module _ (a b : ℕ) (xs : List PlainFrame) (part : List ℕ) (i f j : ℕ) (x y : PlainFrame) (t : Turn a b xs part i f) (h : Found a xs f x) (is : j ≡ f)
    (left : held_by a y.owners ≡ left_hold (held_by a x.owners)) (moved : held_by b y.owners ≡ moved_hold (held_by a x.owners)) (same : y.words ≡ x.words) where
  pub hand_may : MayWalk (map (entry_of a) (set xs j y)) (map (entry_of b) (set xs j y)) (drop (i + 1) part)
  hand_may = rw (is, rows_giving a xs f x y h left same, rows_taking a b xs f x y h moved same) t.more

  pub hand_left : (es : List (Option Entry)) → walk_left (map (entry_of a) xs) (drop i part) ≡ es → walk_left (map (entry_of a) (set xs j y)) (drop (i + 1) part) ≡ es
  hand_left es e = rw (is, rows_giving a xs f x y h left same) (rw t.rest at e)

  pub hand_moved : (es : List (Option Entry)) → walk_moved (map (entry_of a) xs) (map (entry_of b) xs) (drop i part) ≡ es → walk_moved (map (entry_of a) (set xs j y)) (map (entry_of b) (set xs j y)) (drop (i + 1) part) ≡ es
  hand_moved es e = rw (is, rows_giving a xs f x y h left same, rows_taking a b xs f x y h moved same) (rw t.rest at e)

drop_past : (fs : List ℕ) (i : ℕ) → length fs ≤ i → drop i fs ≡ []
drop_past [] zero h = refl
drop_past [] (suc i) h = refl
drop_past (f ∷ fs) zero h = absurd (omega arith)
drop_past (f ∷ fs) (suc i) h = drop_past fs i (omega arith)

-- the last frame was handed over
pub left_done : (es all : List (Option Entry)) (fs : List ℕ) (i : ℕ) → length fs ≤ i → walk_left es (drop i fs) ≡ all → es ≡ all
left_done es all fs i h e = rw (drop_past fs i h) at e

pub moved_done : (es to all : List (Option Entry)) (fs : List ℕ) (i : ℕ) → length fs ≤ i → walk_moved es to (drop i fs) ≡ all → to ≡ all
moved_done es to all fs i h e = rw (drop_past fs i h) at e
