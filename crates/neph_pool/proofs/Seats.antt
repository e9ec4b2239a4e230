-- All seats of the plain pool together hold the references that it counts.
use Rattle.std.proofs.Common.{◌≡◌, ◌≢◌, ℕ, zero, suc, ◌+◌, ◌*◌, ◌<◌, ◌≤◌, inl, inr, Bool, true, false, List, [], ◌∷◌, ◌⊎◌, length, get_or, sum, IfSome, Some, None, refl, sym, ap, ◌∙◌, arith, eq-eqb, ne_eqb, ◌==◌, if◌then◌else◌}
use Rattle.std.specs.List.{range_with_len, sum_by}
use Rattle.std.proofs.lemmas.List.Sums.{sum_by-cons}
use Rattle.std.proofs.lemmas.Bool.{eqb-true}
use Rattle.std.specs.declared.option.Option.{Option}
use Rattle.neph_pool.specs.declared.entry.Hold.{Hold}
use Rattle.neph_pool.specs.declared.entry.Hold.TheVariants.{Zero, Sole, Counted}
use Rattle.neph_pool.specs.declared.owners.Owners.{Owners}
use Rattle.neph_pool.specs.declared.owners.Owners.TheVariants.{Spare, Alone, Many}
use Rattle.neph_pool.specs.Frames.{PlainFrame}
use Rattle.neph_pool.specs.declared.plain_pool.PlainPool.{PlainPool}
use Rattle.neph_pool.specs.declared.plain_pool.PlainSeat.{PlainSeat}
use Rattle.neph_pool.specs.Entries.{hold_at, weight_of, IsSoleAt, is_here, is_whole}
use Rattle.neph_pool.specs.Owners.{held_by, total_of, counted}
use Rattle.neph_pool.specs.Rows.{row_entries, row_of, names_of}
use Rattle.neph_pool.specs.declared.entry.Entry.{Entry}
use Rattle.neph_pool.specs.Handing.{nothing}
use Rattle.neph_pool.specs.Names.{IsApart}
use Rattle.neph_pool.specs.Plain.{counts_of, IsKept, PlainFits, plain_names, plain_world}
use Rattle.neph_pool.specs.Seats.{zero_of, in_place, name_of, count_at, weights, zeros, AreAllSeats, AreCounted}
use Rattle.neph_pool.proofs.Rows.{row_apart, row_hold, row_in, same_or_not, told_at}
use Rattle.neph_pool.proofs.Parts.{hold_at-nothing}
use Rattle.neph_pool.proofs.Tables.{empty_row, no_row, none_all}
use Rattle.neph_pool.proofs.Telling.{no_row_past}
use Rattle.neph_pool.proofs.Holding.{sole_total}
use Rattle.neph_pool.proofs.Joining.{whole_else}

abbrev bit : Bool → ℕ
bit b = if b then 1 else 0

abbrev pick : Bool → ℕ → ℕ
pick b n = if b then n else 0

abbrev ids : List ℕ
ids = range_with_len 0 64

sum_plus : (f g : ℕ → ℕ) (ds : List ℕ) → sum_by (λ d. f d + g d) ds ≡ sum_by f ds + sum_by g ds
sum_plus f g [] = refl
sum_plus f g (d ∷ ds) = omega (arith, sum_by-cons (λ (k : ℕ). f k + g k) d ds, sum_by-cons f d ds, sum_by-cons g d ds, sum_plus f g ds)

sum_none : (ds : List ℕ) → sum_by (λ d. 0) ds ≡ 0
sum_none [] = refl
sum_none (d ∷ ds) = omega (arith, sum_by-cons (λ (k : ℕ). 0) d ds, sum_none ds)

same_in : (f g : ℕ → ℕ) (a n : ℕ) → ((d : ℕ) → a ≤ d → d < a + n → f d ≡ g d) → sum_by f (range_with_len a n) ≡ sum_by g (range_with_len a n)
same_in f g a zero h = refl
same_in f g a (suc n) h =
    let first = h a (omega arith) (omega arith) in
    let rest = same_in f g (a + 1) n (λ d le lt. h d (omega arith) (omega arith)) in
    omega (arith, sum_by-cons f a (range_with_len (a + 1) n), sum_by-cons g a (range_with_len (a + 1) n), first, rest)

-- a sum in which only one number of a range counts
pick_none : (h : ℕ → ℕ) (k a n : ℕ) → k < a → sum_by (λ r. pick (k == r) (h r)) (range_with_len a n) ≡ 0
pick_none h k a zero lt = refl
pick_none h k a (suc n) lt =
    let first : pick (k == a) (h a) ≡ 0 = rw (ne_eqb k a (λ (e : k ≡ a). omega arith)) refl in
    omega (arith, first, sum_by-cons (λ (r : ℕ). pick (k == r) (h r)) a (range_with_len (a + 1) n), pick_none h k (a + 1) n (omega arith))

pick_one : (h : ℕ → ℕ) (k a n : ℕ) → a ≤ k → k < a + n → sum_by (λ r. pick (k == r) (h r)) (range_with_len a n) ≡ h k
pick_one h k a zero le lt = absurd (omega arith)
pick_one h k a (suc n) le lt = elim (same_or_not k a) [
  | inl e ↦
      let first : pick (k == a) (h a) ≡ h k = rw (eq-eqb k a e) (ap h (sym e)) in
      omega (arith, first, sum_by-cons (λ (r : ℕ). pick (k == r) (h r)) a (range_with_len (a + 1) n), pick_none h k (a + 1) n (omega arith))
  | inr ne ↦
      let first : pick (k == a) (h a) ≡ 0 = rw (ne_eqb k a ne) refl in
      omega (arith, first, sum_by-cons (λ (r : ℕ). pick (k == r) (h r)) a (range_with_len (a + 1) n), pick_one h k (a + 1) n (omega arith) (omega arith))
]

-- a sum over seats, taken row by row
exchange : (h : ℕ → ℕ) (os : List (Option PlainSeat)) → ((i : ℕ) → IfSome (get_or os i None) (λ s. s.row < 64))
    → sum_by (in_place (λ s. h s.row)) os ≡ sum_by (λ r. sum_by (in_place (λ s. pick (s.row == r) (h r))) os) ids
exchange h [] small = sym (sum_none ids)
exchange h (None ∷ os) small =
    let f : ℕ → ℕ = λ r. sum_by (in_place (λ s. pick (s.row == r) (h r))) os in
    let more : sum_by (λ r. sum_by (in_place (λ s. pick (s.row == r) (h r))) (None ∷ os)) ids ≡ sum_by f ids = same_in (λ r. sum_by (in_place (λ s. pick (s.row == r) (h r))) (None ∷ os)) f 0 64 (λ r le lt. omega (arith, sum_by-cons (in_place (λ (s : PlainSeat). pick (s.row == r) (h r))) None os)) in
    omega (arith, sum_by-cons (in_place (λ (s : PlainSeat). h s.row)) None os, exchange h os (λ i. small (suc i)), more)
exchange h (Some t ∷ os) small =
    let f : ℕ → ℕ = λ r. sum_by (in_place (λ s. pick (s.row == r) (h r))) os in
    let g : ℕ → ℕ = λ r. pick (t.row == r) (h r) in
    let more : sum_by (λ r. sum_by (in_place (λ s. pick (s.row == r) (h r))) (Some t ∷ os)) ids ≡ sum_by (λ r. g r + f r) ids = same_in _ (λ r. g r + f r) 0 64 (λ r le lt. sum_by-cons (in_place (λ (s : PlainSeat). pick (s.row == r) (h r))) (Some t) os) in
    let one : sum_by g ids ≡ h t.row = pick_one h t.row 0 64 (omega arith) (let k : t.row < 64 = small zero in omega arith) in
    omega (arith, sum_by-cons (in_place (λ (s : PlainSeat). h s.row)) (Some t) os, exchange h os (λ i. small (suc i)), more, sum_plus g f ids, one)

-- where a number has one name, the seats with its row are one
factor : (n r : ℕ) (os : List (Option PlainSeat)) → sum_by (in_place (λ s. pick (s.row == r) n)) os ≡ n * sum_by (in_place (λ s. bit (s.row == r))) os
factor n r [] = omega arith
factor n r (None ∷ os) = omega (arith, factor n r os, sum_by-cons (in_place (λ (s : PlainSeat). pick (s.row == r) n)) None os, sum_by-cons (in_place (λ (s : PlainSeat). bit (s.row == r))) None os)
factor n r (Some t ∷ os) =
    let one : pick (t.row == r) n ≡ n * bit (t.row == r) = by (t.row == r) in
    omega (arith, one, factor n r os, sum_by-cons (in_place (λ (s : PlainSeat). pick (s.row == r) n)) (Some t) os, ap (λ (k : ℕ). n * k) (sum_by-cons (in_place (λ (s : PlainSeat). bit (s.row == r))) (Some t) os))
  where
    by : (b : Bool) → pick b n ≡ n * bit b
    by true = omega arith
    by false = omega arith

flip : (a b : ℕ) → (a == b) ≡ (b == a)
flip a b = elim (same_or_not a b) [ inl e ↦ rw (eq-eqb a b e, eq-eqb b a (sym e)) refl | inr n ↦ rw (ne_eqb a b n, ne_eqb b a (λ e. n (sym e))) refl ]

named_rows : (p : PlainPool) (r : ℕ) (os : List (Option PlainSeat)) → row_of p.rows r ≡ r → ((i : ℕ) → IfSome (get_or os i None) (λ s. PlainFits p s))
    → sum_by (in_place (λ s. bit (s.row == r))) os ≡ sum_by (in_place (name_of plain_world r)) os
named_rows p r [] e fit = refl
named_rows p r (None ∷ os) e fit = omega (arith, named_rows p r os e (λ i. fit (suc i)), sum_by-cons (in_place (λ (s : PlainSeat). bit (s.row == r))) None os, sum_by-cons (in_place (name_of plain_world r)) None os)
named_rows p r (Some t ∷ os) e fit =
    let h : PlainFits p t = fit zero in
    let same : bit (t.row == r) ≡ name_of plain_world r t = ap bit (flip t.row r ∙ ap (λ (k : ℕ). k == t.row) (sym e) ∙ sym (h.names r)) in
    omega (arith, same, named_rows p r os e (λ i. fit (suc i)), sum_by-cons (in_place (λ (s : PlainSeat). bit (s.row == r))) (Some t) os, sum_by-cons (in_place (name_of plain_world r)) (Some t) os)

-- the pool of seats that have a name
kept_of : (p : PlainPool) (d : ℕ) (os : List (Option PlainSeat)) → ((i : ℕ) → IfSome (get_or os i None) (λ s. PlainFits p s)) → sum_by (in_place (name_of plain_world d)) os ≡ 1 → IsKept p
kept_of p d [] fit e = absurd (omega arith)
kept_of p d (None ∷ os) fit e = kept_of p d os (λ i. fit (suc i)) (omega (arith, e, sum_by-cons (in_place (name_of plain_world d)) None os))
kept_of p d (Some t ∷ os) fit e = let h : PlainFits p t = fit zero in h.kept

-- a frame's owner in a row without a name
row_none : (p : PlainPool) (f r : ℕ) (x : PlainFrame) → IsKept p → f < length p.frames → x ≡ get_or p.frames f x → r ≢ 0 → ((e : ℕ) → names_of p.rows r e ≡ false) → held_by r x.owners ≡ None
row_none p f r x k lt at ne none = sym (row_hold r p.frames f x lt at) ∙ ap (λ (es : List _). hold_at es f) (empty_row p r k ne none) ∙ hold_at-nothing (length p.frames) f

-- what a number of a row's hold adds up to over the seats is what it adds up to over the rows
by_rows : (g : Option Hold → ℕ) (p : PlainPool) (os : List (Option PlainSeat)) (f : ℕ) (x : PlainFrame) → g None ≡ 0 → AreAllSeats plain_world p os → f < length p.frames → x ≡ get_or p.frames f x
    → sum_by (in_place (count_at plain_world g p f)) os ≡ sum_by (λ r. g (held_by r x.owners)) ids
by_rows g p os f x none all lt at =
    let h : ℕ → ℕ = λ r. g (held_by r x.owners) in
    let kept : IsKept p = kept_of p 0 os all.fit (all.names 0 (omega arith)) in
    held os all.fit ∙ exchange h os (rows os all.fit) ∙ same_in _ h 0 64 (λ r le small. factor (h r) r os ∙ row kept r (omega arith))
  where
    held : (ts : List (Option PlainSeat)) → ((i : ℕ) → IfSome (get_or ts i None) (λ s. PlainFits p s)) → sum_by (in_place (count_at plain_world g p f)) ts ≡ sum_by (in_place (λ (s : PlainSeat). g (held_by s.row x.owners))) ts
    held [] fit = refl
    held (None ∷ ts) fit = omega (arith, held ts (λ i. fit (suc i)), sum_by-cons (in_place (count_at plain_world g p f)) None ts, sum_by-cons (in_place (λ (s : PlainSeat). g (held_by s.row x.owners))) None ts)
    held (Some t ∷ ts) fit =
        let one : count_at plain_world g p f t ≡ g (held_by t.row x.owners) = ap g (row_hold t.row p.frames f x lt at) in
        omega (arith, one, held ts (λ i. fit (suc i)), sum_by-cons (in_place (count_at plain_world g p f)) (Some t) ts, sum_by-cons (in_place (λ (s : PlainSeat). g (held_by s.row x.owners))) (Some t) ts)

    rows : (ts : List (Option PlainSeat)) → ((i : ℕ) → IfSome (get_or ts i None) (λ s. PlainFits p s)) → (i : ℕ) → IfSome (get_or ts i None) (λ s. s.row < 64)
    rows [] fit i = tt
    rows (None ∷ ts) fit zero = tt
    rows (Some t ∷ ts) fit zero = let k : PlainFits p t = fit zero in k.row
    rows (t ∷ ts) fit (suc i) = rows ts (λ j. fit (suc j)) i

    row : IsKept p → (r : ℕ) → r < 64 → g (held_by r x.owners) * sum_by (in_place (λ (s : PlainSeat). bit (s.row == r))) os ≡ g (held_by r x.owners)
    row kept r small = elim (same_or_not (row_of p.rows r) r) [
      | inl e ↦
          let one : sum_by (in_place (λ (s : PlainSeat). bit (s.row == r))) os ≡ 1 = named_rows p r os e all.fit ∙ all.names r small in
          ap (λ (k : ℕ). g (held_by r x.owners) * k) one ∙ omega arith
      | inr n ↦
          let ne : r ≢ 0 = λ (e : r ≡ 0). n (ap (λ (k : ℕ). row_of p.rows k) e ∙ kept.table.first ∙ sym e) in
          let gone : g (held_by r x.owners) ≡ 0 = ap g (row_none p f r x kept lt at ne (λ e. no_row p.rows r e kept.table small n)) ∙ none in
          rw gone (omega arith)
    ]

-- what the owners of a frame hold, over all rows
weight_row : (q r : ℕ) → weight_of (held_by r (Alone q)) ≡ pick (q == r) 1
weight_row q r = elim (same_or_not r q) [ inl e ↦ rw (eq-eqb r q e, eq-eqb q r (sym e)) refl | inr n ↦ rw (ne_eqb r q n, ne_eqb q r (λ e. n (sym e))) refl ]

zero_row : (q r : ℕ) → zero_of (held_by r (Spare q)) ≡ pick (q == r) 1
zero_row q r = elim (same_or_not r q) [ inl e ↦ rw (eq-eqb r q e, eq-eqb q r (sym e)) refl | inr n ↦ rw (ne_eqb r q n, ne_eqb q r (λ e. n (sym e))) refl ]

spare_weight : (q r : ℕ) → weight_of (held_by r (Spare q)) ≡ 0
spare_weight q r = by (r == q) where
  by : (b : Bool) → weight_of (if b then Some Zero else None) ≡ 0
  by true = refl
  by false = refl

alone_zero : (q r : ℕ) → zero_of (held_by r (Alone q)) ≡ 0
alone_zero q r = by (r == q) where
  by : (b : Bool) → zero_of (if b then Some Sole else None) ≡ 0
  by true = refl
  by false = refl

many_weight : (n : ℕ) → weight_of (counted n) ≡ n
many_weight n = by (n == 0) refl where
  by : (b : Bool) → (n == 0) ≡ b → weight_of (if b then None else Some (Counted n)) ≡ n
  by true e = sym (eqb-true n 0 e)
  by false e = refl

many_zero : (n : ℕ) → zero_of (counted n) ≡ 0
many_zero n = by (n == 0) where
  by : (b : Bool) → zero_of (if b then None else Some (Counted n)) ≡ 0
  by true = refl
  by false = refl

sum_at : (ws : List ℕ) (a n : ℕ) → length ws ≡ n → (h : ℕ → ℕ) → ((i : ℕ) → i < n → h (a + i) ≡ get_or ws i 0) → sum_by h (range_with_len a n) ≡ sum ws
sum_at [] a zero e h at = refl
sum_at [] a (suc n) e h at = absurd (omega arith)
sum_at (w ∷ ws) a zero e h at = absurd (omega arith)
sum_at (w ∷ ws) a (suc n) e h at =
    let first : h a ≡ w = ap h (omega arith) ∙ at 0 (omega arith) in
    omega (arith, first, sum_by-cons (λ (k : ℕ). k) w ws, sum_by-cons h a (range_with_len (a + 1) n), sum_at ws (a + 1) n (omega arith) h (λ i lt. ap h (omega arith) ∙ at (suc i) (omega arith)))

-- the row that alone has the frame is that of a seat
small_owner : (p : PlainPool) (f q : ℕ) (x : PlainFrame) → IsKept p → f < length p.frames → x ≡ get_or p.frames f x → is_here (held_by q x.owners) ≡ true → q < 64
small_owner p f q x kept lt at here = elim (above_or_below q 64) [
  | inl l ↦ l
  | inr l ↦
      let es : List (Option Entry) = row_entries q p.frames in
      let none : es ≡ nothing (length es) = none_all es (no_row_past p q kept l) in
      let gone : held_by q x.owners ≡ None = sym (row_hold q p.frames f x lt at) ∙ ap (λ (fs : List (Option Entry)). hold_at fs f) none ∙ hold_at-nothing (length es) f in
      absurd (no gone)
] where
  above_or_below : (r n : ℕ) → (r < n) ⊎ (n ≤ r)
  above_or_below r zero = inr (omega arith)
  above_or_below zero (suc n) = inl (omega arith)
  above_or_below (suc r) (suc n) = elim (above_or_below r n) [ inl l ↦ inl (omega arith) | inr l ↦ inr (omega arith) ]

  no : held_by q x.owners ≡ None → ⊥
  no e = let z : is_here None ≡ true = ap is_here (sym e) ∙ here in cc

-- the weights of all rows are the count
rows_weight : (p : PlainPool) (f : ℕ) (x : PlainFrame) (o : Owners) → x.owners ≡ o → IsKept p → f < length p.frames → x ≡ get_or p.frames f x → sum_by (λ r. weight_of (held_by r o)) ids ≡ total_of o
rows_weight p f x (Spare q) is kept lt at = same_in (λ r. weight_of (held_by r (Spare q))) (λ r. 0) 0 64 (λ r a b. spare_weight q r) ∙ sum_none ids
rows_weight p f x (Alone q) is kept lt at =
    let here : is_here (held_by q x.owners) ≡ true = rw (is, eq-eqb q q refl) refl in
    same_in (λ r. weight_of (held_by r (Alone q))) (λ r. pick (q == r) 1) 0 64 (λ r a b. weight_row q r) ∙ pick_one (λ r. 1) q 0 64 (omega arith) (let k = small_owner p f q x kept lt at here in omega arith)
rows_weight p f x (Many ws) is kept lt at =
    same_in (λ r. weight_of (held_by r (Many ws))) (λ r. get_or ws.by_row r 0) 0 64 (λ r a b. many_weight (get_or ws.by_row r 0)) ∙ sum_at ws.by_row 0 64 ws.whole (λ r. get_or ws.by_row r 0) (λ i lt. ap (λ (k : ℕ). get_or ws.by_row k 0) (omega arith)) ∙ sym ws.counted

-- a frame without a reference is in one row, and no other in any
rows_zero : (p : PlainPool) (f : ℕ) (x : PlainFrame) (o : Owners) → x.owners ≡ o → IsKept p → f < length p.frames → x ≡ get_or p.frames f x → sum_by (λ r. zero_of (held_by r o)) ids ≡ (if total_of o == 0 then 1 else 0)
rows_zero p f x (Spare q) is kept lt at =
    let here : is_here (held_by q x.owners) ≡ true = rw (is, eq-eqb q q refl) refl in
    same_in (λ r. zero_of (held_by r (Spare q))) (λ r. pick (q == r) 1) 0 64 (λ r a b. zero_row q r) ∙ pick_one (λ r. 1) q 0 64 (omega arith) (let k = small_owner p f q x kept lt at here in omega arith)
rows_zero p f x (Alone q) is kept lt at = same_in (λ r. zero_of (held_by r (Alone q))) (λ r. 0) 0 64 (λ r a b. alone_zero q r) ∙ sum_none ids
rows_zero p f x (Many ws) is kept lt at =
    let no : ws.count ≢ 0 = (λ (e : ws.count ≡ 0). let k = ws.some in omega arith) in
    same_in (λ r. zero_of (held_by r (Many ws))) (λ r. 0) 0 64 (λ r a b. many_zero (get_or ws.by_row r 0)) ∙ sum_none ids ∙ rw (ne_eqb ws.count 0 no) refl

frame_of : (xs : List PlainFrame) (f : ℕ) → f < length xs → (x : PlainFrame) × (x ≡ get_or xs f x)
frame_of [] f lt = absurd (omega arith)
frame_of (x ∷ xs) zero lt = (x, refl)
frame_of (x ∷ xs) (suc f) lt = frame_of xs f (omega arith)

-- the references of all seats are the count
all_weights : (p : PlainPool) (os : List (Option PlainSeat)) (f : ℕ) → AreAllSeats plain_world p os → f < length p.frames → get_or (counts_of p) f 0 ≡ weights plain_world p os f
all_weights p os f all lt =
    let t = frame_of p.frames f lt in
    let kept : IsKept p = kept_of p 0 os all.fit (all.names 0 (omega arith)) in
    told_at p.frames f t.0 lt t.1 ∙ sym (by_rows weight_of p os f t.0 refl all lt t.1 ∙ rows_weight p f t.0 t.0.owners refl kept lt t.1)

all_zeros : (p : PlainPool) (os : List (Option PlainSeat)) (f : ℕ) → AreAllSeats plain_world p os → f < length p.frames → zeros plain_world p os f ≡ (if weights plain_world p os f == 0 then 1 else 0)
all_zeros p os f all lt =
    let t = frame_of p.frames f lt in
    let kept : IsKept p = kept_of p 0 os all.fit (all.names 0 (omega arith)) in
    let same : total_of t.0.owners ≡ weights plain_world p os f = sym (by_rows weight_of p os f t.0 refl all lt t.1 ∙ rows_weight p f t.0 t.0.owners refl kept lt t.1) in
    by_rows zero_of p os f t.0 refl all lt t.1 ∙ rows_zero p f t.0 t.0.owners refl kept lt t.1 ∙ ap (λ (k : ℕ). if k == 0 then 1 else 0) same

-- Of each frame of the plain pool the count is the sum of the references that all its seats hold; and a frame without one is kept by one seat.
pub all_counted : (p : PlainPool) (os : List (Option PlainSeat)) → AreAllSeats plain_world p os → AreCounted plain_world p os
all_counted p os all = record {
  counts = λ f lt. all_weights p os f all lt;
  kept = λ f lt e. all_zeros p os f all lt ∙ rw (eq-eqb (weights plain_world p os f) 0 e) refl;
  used = λ f lt h. all_zeros p os f all lt ∙ rw (ne_eqb (weights plain_world p os f) 0 (λ (e : weights plain_world p os f ≡ 0). omega arith)) refl;
  sole = λ f i. lone f i (get_or os i None) (all.fit i);
} where
  lone : (f i : ℕ) (o : Option PlainSeat) → IfSome o (λ s. PlainFits p s) → IfSome o (λ s. IsSoleAt (plain_world.entries p s) f → weights plain_world p os f ≡ 1)
  lone f i None fit = tt
  lone f i (Some s) fit = λ sole.
      let lt : f < length p.frames = row_in s.row p.frames f (ap is_here sole) in
      let t = frame_of p.frames f lt in
      sym (all_weights p os f all lt) ∙ told_at p.frames f t.0 lt t.1 ∙ sole_total s.row t.0.owners (sym (row_hold s.row p.frames f t.0 lt t.1) ∙ sole)

whole_here : (h : Option Hold) → is_whole h ≡ true → is_here h ≡ true
whole_here None e = absurd (cc)
whole_here (Some h) e = refl

-- Of two seats with no name in common, one has nothing of a frame that the other keeps or has to itself.
pub whole_alone : (p : PlainPool) (s t : PlainSeat) (f : ℕ) → PlainFits p s → PlainFits p t → IsApart (plain_names s) (plain_names t) → is_whole (hold_at (plain_world.entries p s) f) ≡ true → hold_at (plain_world.entries p t) f ≡ None
whole_alone p s t f h k a w =
    let lt : f < length p.frames = row_in s.row p.frames f (whole_here _ w) in
    let x = frame_of p.frames f lt in
    row_hold t.row p.frames f x.0 lt x.1 ∙ whole_else x.0.owners t.row s.row (whole_here _ (ap is_whole (sym (row_hold s.row p.frames f x.0 lt x.1)) ∙ w)) (ap is_whole (sym (row_hold s.row p.frames f x.0 lt x.1)) ∙ w) (row_apart p s t h k a)

-- A frame that a seat has to itself has the count 1.
pub sole_one : (p : PlainPool) (s : PlainSeat) (f : ℕ) → IsSoleAt (plain_world.entries p s) f → get_or (counts_of p) f 0 ≡ 1
sole_one p s f sole =
    let lt : f < length p.frames = row_in s.row p.frames f (ap is_here sole) in
    let x = frame_of p.frames f lt in
    told_at p.frames f x.0 lt x.1 ∙ sole_total s.row x.0.owners (sym (row_hold s.row p.frames f x.0 lt x.1) ∙ sole)
