-- How many frames there are, seen from the seat with the name 0.
use Rattle.std.proofs.Common.{◌≡◌, ◌≢◌, ℕ, zero, suc, ◌+◌, ◌*◌, ◌<◌, ◌≤◌, ◌⊎◌, inl, inr, Bool, true, false, not, List, [], ◌∷◌, length, get_or, sum, refl, sym, ap, ◌∙◌, arith, eq-eqb, ne_eqb, ◌==◌, if◌then◌else◌}
use Rattle.std.specs.List.{range_with_len, count_by, sum_by}
use Rattle.std.proofs.lemmas.List.Sums.{sum_by-cons, get_or-le-sum_by}
use Rattle.std.proofs.lemmas.List.FromFn.{get_or-range_with_len, length-range_with_len}
use Rattle.std.proofs.lemmas.Bool.{eqb-true}
use Rattle.neph_pool.specs.declared.owners.Owners.{Owners}
use Rattle.neph_pool.specs.declared.owners.Owners.TheVariants.{Spare, Alone, Many}
use Rattle.neph_pool.specs.Frames.{PlainFrame}
use Rattle.neph_pool.specs.declared.plain_pool.PlainPool.{PlainPool}
use Rattle.neph_pool.specs.declared.plain_pool.PlainSeat.{PlainSeat}
use Rattle.neph_pool.specs.Entries.{is_here, is_entry, entry_count}
use Rattle.neph_pool.specs.Names.{name_count, lack_count}
use Rattle.neph_pool.specs.Owners.{held_by}
use Rattle.neph_pool.specs.Rows.{entry_of, row_entries, row_of, names_of}
use Rattle.neph_pool.specs.Plain.{IsKept, PlainFits, plain_names}
use Rattle.neph_pool.proofs.Holding.{counted_some}
use Rattle.neph_pool.proofs.Rows.{count_cons, is_entry-as}

abbrev bit : Bool → ℕ
bit b = if b then 1 else 0

sum_plus : (f g : ℕ → ℕ) (ds : List ℕ) → sum_by (λ d. f d + g d) ds ≡ sum_by f ds + sum_by g ds
sum_plus f g [] = refl
sum_plus f g (d ∷ ds) = omega (arith, sum_by-cons (λ (k : ℕ). f k + g k) d ds, sum_by-cons f d ds, sum_by-cons g d ds, sum_plus f g ds)

sum_same : (f g : ℕ → ℕ) (ds : List ℕ) → ((d : ℕ) → f d ≡ g d) → sum_by f ds ≡ sum_by g ds
sum_same f g [] h = refl
sum_same f g (d ∷ ds) h = omega (arith, sum_by-cons f d ds, sum_by-cons g d ds, h d, sum_same f g ds h)

-- some row holds each frame
some_weight : (ws : List ℕ) → 0 < sum ws → (r : ℕ) × (get_or ws r 0 ≢ 0)
some_weight [] h = absurd (omega arith)
some_weight (zero ∷ ws) h = let t = some_weight ws (omega (arith, sum_by-cons (λ (x : ℕ). x) zero ws)) in (suc t.0, t.1)
some_weight (suc w ∷ ws) h = (zero, λ (e : suc w ≡ 0). omega arith)

owner_of : (o : Owners) → (r : ℕ) × (is_here (held_by r o) ≡ true)
owner_of (Spare q) = (q, rw (eq-eqb q q refl) refl)
owner_of (Alone q) = (q, rw (eq-eqb q q refl) refl)
owner_of (Many ws) = let t = some_weight ws.by_row (omega (arith, ws.some, ws.counted)) in (t.0, ap is_here (counted_some (get_or ws.by_row t.0 0) t.1))

here_one : (r : ℕ) (x : PlainFrame) → is_here (held_by r x.owners) ≡ true → bit (is_entry (entry_of r x)) ≡ 1
unfolding entry_of
here_one r x h = rw (is_entry-as (held_by r x.owners) x.words, h) refl

abbrev ids : List ℕ
ids = range_with_len 0 64

abbrev pub in_row : List PlainFrame → ℕ → ℕ
in_row xs r = entry_count (row_entries r xs)

abbrev one_in : PlainFrame → ℕ → ℕ
one_in x r = bit (is_entry (entry_of r x))

above_or_below : (r n : ℕ) → (r < n) ⊎ (n ≤ r)
above_or_below r zero = inr (omega arith)
above_or_below zero (suc n) = inl (omega arith)
above_or_below (suc r) (suc n) = elim (above_or_below r n) [ inl l ↦ inl (omega arith) | inr l ↦ inr (omega arith) ]

-- of each frame a row has an entry
frames_held : (xs : List PlainFrame) → ((r : ℕ) → 64 ≤ r → in_row xs r ≡ 0) → length xs ≤ sum_by (in_row xs) ids
frames_held [] h = omega arith
frames_held (x ∷ xs) h =
    let owner = owner_of x.owners in
    let r : ℕ = owner.0 in
    let one : one_in x r ≡ 1 = here_one r x owner.1 in
    let small : r < 64 = elim (above_or_below r 64) [ inl l ↦ l | inr l ↦ absurd (omega (arith, h r l, count_cons (entry_of r x) (row_entries r xs), one)) ] in
    let at : get_or ids r 0 ≡ r = get_or-range_with_len 0 64 r 0 small ∙ zero_plus r in
    let fit : r < length ids = rw (length-range_with_len 0 64) small in
    let least : one_in x (get_or ids r 0) ≤ sum_by (one_in x) ids = get_or-le-sum_by (one_in x) ids r 0 fit in
    let first : 1 ≤ sum_by (one_in x) ids = omega (arith, rw at at least, one) in
    let all : sum_by (in_row (x ∷ xs)) ids ≡ sum_by (one_in x) ids + sum_by (in_row xs) ids
    = sum_same (in_row (x ∷ xs)) (λ d. one_in x d + in_row xs d) ids (λ d. count_cons (entry_of d x) (row_entries d xs)) ∙ sum_plus (one_in x) (in_row xs) ids in
    let rest : length xs ≤ sum_by (in_row xs) ids = frames_held xs (λ k l. omega (arith, h k l, count_cons (entry_of k x) (row_entries k xs))) in
    omega (arith, first, all, rest)
  where
    zero_plus : (r : ℕ) → 0 + r ≡ r
    zero_plus r = omega arith

count_none : (ns : ℕ → Bool) (a n : ℕ) → ((d : ℕ) → a ≤ d → d < a + n → ns d ≡ false) → count_by ns (range_with_len a n) ≡ 0
count_none ns a zero h = refl
count_none ns a (suc n) h =
    let no' : ns a ≡ false = h a (omega arith) (omega arith) in
    let first : bit (ns a) ≡ 0 = rw no' refl in
    omega (arith, sum_by-cons (λ (d : ℕ). bit (ns d)) a (range_with_len (a + 1) n), first, count_none ns (a + 1) n (λ d le lt. h d (omega arith) (omega arith)))

-- past the last name there is no row
pub no_row_past : (p : PlainPool) (r : ℕ) → IsKept p → 64 ≤ r → in_row p.frames r ≡ 0
unfolding name_count
no_row_past p r k le =
    let none : name_count (names_of p.rows r) ≡ 0 = count_none (names_of p.rows r) 0 64 (λ d l lt. ne_eqb (row_of p.rows d) r (λ (e : row_of p.rows d ≡ r). let small = k.table.small d (omega (arith, lt)) in omega arith)) in
    let most : in_row p.frames r ≤ p.cap * 0 = rw none at (k.capped r (λ (e : r ≡ 0). omega arith)) in
    omega arith

capped_rows : (p : PlainPool) (a n : ℕ) → IsKept p → 1 ≤ a → sum_by (in_row p.frames) (range_with_len a n) ≤ p.cap * sum_by (λ r. name_count (names_of p.rows r)) (range_with_len a n)
capped_rows p a zero k le = omega arith
capped_rows p a (suc n) k le =
    let one : in_row p.frames a ≤ p.cap * name_count (names_of p.rows a) = k.capped a (λ (e : a ≡ 0). omega arith) in
    let more = capped_rows p (a + 1) n k (omega arith) in
    omega (arith, one, more, sum_by-cons (in_row p.frames) a (range_with_len (a + 1) n), ap (λ (z : ℕ). p.cap * z) (sum_by-cons (λ (r : ℕ). name_count (names_of p.rows r)) a (range_with_len (a + 1) n)))

-- a number is one of a range once at most
none_from : (k a n : ℕ) → k < a → sum_by (λ r. bit (k == r)) (range_with_len a n) ≡ 0
none_from k a zero h = refl
none_from k a (suc n) h =
    let first : bit (k == a) ≡ 0 = rw (ne_eqb k a (λ (e : k ≡ a). omega arith)) refl in
    omega (arith, first, sum_by-cons (λ (r : ℕ). bit (k == r)) a (range_with_len (a + 1) n), none_from k (a + 1) n (omega arith))

once_by : (b : Bool) (k a n : ℕ) → (k == a) ≡ b → sum_by (λ r. bit (k == r)) (range_with_len (a + 1) n) ≤ 1 → sum_by (λ r. bit (k == r)) (range_with_len a (suc n)) ≤ 1
once_by true k a n e h =
    let first : bit (k == a) ≡ 1 = rw e refl in
    let same : k ≡ a = eqb-true k a e in
    omega (arith, first, sum_by-cons (λ (r : ℕ). bit (k == r)) a (range_with_len (a + 1) n), none_from k (a + 1) n (omega arith))
once_by false k a n e h =
    let first : bit (k == a) ≡ 0 = rw e refl in
    omega (arith, first, sum_by-cons (λ (r : ℕ). bit (k == r)) a (range_with_len (a + 1) n), h)

once : (k a n : ℕ) → sum_by (λ r. bit (k == r)) (range_with_len a n) ≤ 1
once k a zero = omega arith
once k a (suc n) = once_by (k == a) k a n refl (once k (a + 1) n)

not_first : (b : Bool) (k n : ℕ) → (k == 0) ≡ b → sum_by (λ r. bit (k == r)) (range_with_len 1 n) ≤ bit (not b)
not_first true k n e = let z : k ≡ 0 = eqb-true k 0 e in omega (arith, none_from k 1 n (omega arith))
not_first false k n e = once k 1 n

-- the names of all rows but the first are those that the first lacks
other_names : (rows : List ℕ) (n : ℕ) (ds : List ℕ) → sum_by (λ r. count_by (names_of rows r) ds) (range_with_len 1 n) ≤ count_by (λ d. not (names_of rows 0 d)) ds
other_names rows n [] = rw (all_zero (range_with_len 1 n)) (omega arith)
  where
    all_zero : (ds : List ℕ) → sum_by (λ r. 0) ds ≡ 0
    all_zero [] = refl
    all_zero (d ∷ ds) = omega (arith, sum_by-cons (λ (r : ℕ). 0) d ds, all_zero ds)
other_names rows n (d ∷ ds) =
    let k : ℕ = row_of rows d in
    let split : sum_by (λ r. count_by (names_of rows r) (d ∷ ds)) (range_with_len 1 n) ≡ sum_by (λ r. bit (k == r)) (range_with_len 1 n) + sum_by (λ r. count_by (names_of rows r) ds) (range_with_len 1 n)
    = sum_same (λ r. count_by (names_of rows r) (d ∷ ds)) (λ r. bit (k == r) + count_by (names_of rows r) ds) (range_with_len 1 n) (λ r. sum_by-cons (λ (e : ℕ). bit (names_of rows r e)) d ds)
    ∙ sum_plus (λ r. bit (k == r)) (λ r. count_by (names_of rows r) ds) (range_with_len 1 n) in
    let first : sum_by (λ r. bit (k == r)) (range_with_len 1 n) ≤ bit (not (k == 0)) = not_first (k == 0) k n refl in
    omega (arith, split, first, other_names rows n ds, sum_by-cons (λ (e : ℕ). bit (not (names_of rows 0 e))) d ds)

others_lack : (rows : List ℕ) → sum_by (λ r. name_count (names_of rows r)) (range_with_len 1 63) ≤ lack_count (names_of rows 0)
unfolding name_count lack_count
others_lack rows = other_names rows 63 (range_with_len 0 64)

mul_le : (c x y : ℕ) → x ≤ y → c * x ≤ c * y
mul_le c x y h = grind arith

-- each frame is among the entries of this seat, or among those that the cap allows the others
pub told : (p : PlainPool) (s : PlainSeat) → PlainFits p s → plain_names s 0 ≡ true → length p.frames ≤ entry_count (row_entries s.row p.frames) + p.cap * lack_count (plain_names s)
told p s h named =
    let zero' : s.row ≡ 0 = sym (eqb-true (row_of p.rows 0) s.row (sym (h.names 0) ∙ named)) ∙ h.kept.table.first in
    let all : length p.frames ≤ sum_by (in_row p.frames) ids = frames_held p.frames (λ r l. no_row_past p r h.kept l) in
    let split : sum_by (in_row p.frames) ids ≡ in_row p.frames 0 + sum_by (in_row p.frames) (range_with_len 1 63) = sum_by-cons (in_row p.frames) 0 (range_with_len 1 63) in
    let rest : sum_by (in_row p.frames) (range_with_len 1 63) ≤ p.cap * sum_by (λ r. name_count (names_of p.rows r)) (range_with_len 1 63) = capped_rows p 1 63 h.kept (omega arith) in
    let lack : p.cap * sum_by (λ r. name_count (names_of p.rows r)) (range_with_len 1 63) ≤ p.cap * lack_count (names_of p.rows 0) = mul_le p.cap _ _ (others_lack p.rows) in
    let same : plain_names s ≡ names_of p.rows s.row = λ i d. h.names d i in
    rw (same, zero') (omega (arith, all, split, rest, lack))
