-- How the owners of a frame read after a change.
use Rattle.std.proofs.Common.{◌≡◌, ◌≢◌, ℕ, zero, suc, ◌+◌, ◌-◌, ◌*◌, ◌<◌, ◌≤◌, length-set, Bool, true, false, List, [], ◌∷◌, length, set, get_or, replicate, sum, Some, None, refl, sym, ap, ◌∙◌, arith, ◌==◌, if◌then◌else◌, eq-eqb, ne_eqb}
use Rattle.std.specs.Prelude.{nat_lt}
use Rattle.std.proofs.lemmas.List.{length-replicate, get_or-set_other, get_or-set_same}
use Rattle.std.proofs.lemmas.List.Sums.{sum_by-set, sum_by-cons}
use Rattle.std.proofs.lemmas.List.Folds.{sum_by-replicate}
use Rattle.std.proofs.lemmas.Bool.{eqb-true, lt-ltb}
use Rattle.neph_pool.specs.declared.entry.Hold.TheVariants.{Zero, Sole, Counted}
use Rattle.neph_pool.specs.declared.weights.Weights.{Weights}
use Rattle.neph_pool.specs.declared.owners.Owners.{Owners}
use Rattle.neph_pool.specs.declared.owners.Owners.TheVariants.{Spare, Alone, Many}
use Rattle.neph_pool.specs.Entries.{weight_of, is_here}
use Rattle.neph_pool.specs.Handing.{left_hold, moved_hold}
use Rattle.neph_pool.specs.Owners.{held_by, total_of, counted, IsShared, IsReleased, IsHanded}

abbrev zeros : ℕ → List ℕ
zeros n = replicate n 0

zero_at : (n k : ℕ) → get_or (zeros n) k 0 ≡ 0
zero_at zero k = refl
zero_at (suc n) zero = refl
zero_at (suc n) (suc k) = zero_at n k

-- weights of at most two have a small sum
pub light_sum : (ws : List ℕ) → ((r : ℕ) → get_or ws r 0 ≤ 2) → sum ws ≤ 2 * length ws
light_sum [] h = omega arith
light_sum (w ∷ ws) h = omega (arith, sum_by-cons (λ (x : ℕ). x) w ws, h zero, light_sum ws (λ r. h (suc r)))

pub light_set : (ws : List ℕ) (i v : ℕ) → ((r : ℕ) → get_or ws r 0 ≤ 2) → v ≤ 2 → (r : ℕ) → get_or (set ws i v) r 0 ≤ 2
light_set [] i v h le r = omega arith
light_set (w ∷ ws) zero v h le zero = le
light_set (w ∷ ws) zero v h le (suc r) = h (suc r)
light_set (w ∷ ws) (suc i) v h le zero = h zero
light_set (w ∷ ws) (suc i) v h le (suc r) = light_set ws i v (λ k. h (suc k)) le r

pub two_light : (row r : ℕ) → get_or (set (zeros 64) row 2) r 0 ≤ 2
two_light row r = light_set (zeros 64) row 2 (λ k. let e : get_or (zeros 64) k 0 ≡ 0 = zero_at 64 k in omega arith) (omega arith) r

sum_one : (n row v : ℕ) → row < n → sum (set (zeros n) row v) ≡ v
sum_one n row v h =
    let at : get_or (zeros n) row 0 ≡ 0 = zero_at n row in
    let fit : row < length (zeros n) = rw (length-replicate n) h in
    omega (arith, sum_by-set (λ (x : ℕ). x) (zeros n) row v 0 fit, sum_by-replicate (λ (x : ℕ). x) n 0)

pub two_sum : (row : ℕ) → row < 64 → sum (set (zeros 64) row 2) ≡ 2
two_sum row h = sum_one 64 row 2 h

pub two_whole : (row : ℕ) → length (set (zeros 64) row 2) ≡ 64
two_whole row = length-set (zeros 64) row 2 ∙ length-replicate {A = ℕ} 64 0

-- a weight is put in place of another
pub sum_put : (ws : List ℕ) (i v : ℕ) → i < length ws → sum (set ws i v) + get_or ws i 0 ≡ sum ws + v
sum_put ws i v h = sum_by-set (λ (x : ℕ). x) ws i v 0 h

pub within : (ws : List ℕ) (r : ℕ) → get_or ws r 0 ≤ sum ws
within [] r = omega arith
within (w ∷ ws) zero = omega (arith, sum_by-cons (λ (x : ℕ). x) w ws)
within (w ∷ ws) (suc r) = omega (arith, sum_by-cons (λ (x : ℕ). x) w ws, within ws r)

two_within : (ws : List ℕ) (q r : ℕ) → r ≢ q → get_or ws q 0 + get_or ws r 0 ≤ sum ws
two_within [] q r n = omega arith
two_within (w ∷ ws) zero zero n = absurd (n refl)
two_within (w ∷ ws) zero (suc r) n = omega (arith, sum_by-cons (λ (x : ℕ). x) w ws, within ws r)
two_within (w ∷ ws) (suc q) zero n = omega (arith, sum_by-cons (λ (x : ℕ). x) w ws, within ws q)
two_within (w ∷ ws) (suc q) (suc r) n = omega (arith, sum_by-cons (λ (x : ℕ). x) w ws, two_within ws q r (λ e. n (ap suc e)))

-- the row that has weight 1 of a frame that is alone is its own
same_row : (b : Bool) (row q : ℕ) → (row == q) ≡ b → weight_of (if b then Some Sole else None) ≡ 1 → row ≡ q
same_row true row q e h = eqb-true row q e
same_row false row q e h = absurd (cc)

pub alone_row : (row q : ℕ) → weight_of (held_by row (Alone q)) ≡ 1 → row ≡ q
alone_row row q h = same_row (row == q) row q refl h

pub none_else : (q r : ℕ) → r ≢ q → held_by r (Alone q) ≡ None
none_else q r n = rw (ne_eqb r q n) refl

pub counted_none : (n : ℕ) → n ≡ 0 → counted n ≡ None
counted_none n h = rw (eq-eqb n 0 h) refl

pub counted_some : (n : ℕ) → n ≢ 0 → counted n ≡ Some (Counted n)
counted_some n h = rw (ne_eqb n 0 h) refl

pub alone_own : (row : ℕ) (ws : List ℕ) → row < 64 → ws ≡ set (zeros 64) row 2 → counted (get_or ws row 0) ≡ Some (Counted 2)
alone_own row ws h e =
    let fit : row < length (zeros 64) = rw (length-replicate 64) h in
    let at : get_or ws row 0 ≡ 2 = ap (λ (xs : List ℕ). get_or xs row 0) e ∙ get_or-set_same (zeros 64) row 2 0 fit in
    ap counted at

pub alone_others : (row q r : ℕ) (ws : List ℕ) → weight_of (held_by row (Alone q)) ≡ 1 → ws ≡ set (zeros 64) row 2 → r ≢ row → counted (get_or ws r 0) ≡ held_by r (Alone q)
alone_others row q r ws h e n =
    counted_none (get_or ws r 0) (ap (λ (xs : List ℕ). get_or xs r 0) e ∙ get_or-set_other (zeros 64) row r 2 0 n ∙ zero_at 64 r) ∙ sym (none_else q r (λ k. n (k ∙ sym (alone_row row q h))))

weight_many : (b : Bool) (n : ℕ) → weight_of (if b then None else Some (Counted n)) ≡ 1 → n ≡ 1
weight_many true n h = absurd (cc)
weight_many false n h = h

pub weight_counted : (n : ℕ) → weight_of (counted n) ≡ 1 → n ≡ 1
weight_counted n h = weight_many (n == 0) n h

-- the last weight is gone
pub last_others : (o : Owners) (row r : ℕ) → total_of o ≡ 1 → weight_of (held_by row o) ≡ 1 → r ≢ row → held_by r (Spare row) ≡ held_by r o
last_others (Spare q) row r t h n = absurd (omega arith)
last_others (Alone q) row r t h n = rw (ne_eqb r row n) (sym (none_else q r (λ e. n (e ∙ sym (alone_row row q h)))))
last_others (Many ws) row r t h n =
    let one : get_or ws.by_row row 0 ≡ 1 = weight_counted (get_or ws.by_row row 0) h in
    let all : sum ws.by_row ≡ 1 = sym ws.counted ∙ t in
    let none : get_or ws.by_row r 0 ≡ 0 = omega (arith, two_within ws.by_row row r n) in
    rw (ne_eqb r row n) (sym (counted_none (get_or ws.by_row r 0) none))

-- the only weight stands alone
pub only_others : (o : Owners) (row r : ℕ) → total_of o ≡ 1 → weight_of (held_by row o) ≡ 1 → r ≢ row → held_by r (Alone row) ≡ held_by r o
only_others (Spare q) row r t h n = absurd (omega arith)
only_others (Alone q) row r t h n = rw (none_else row r n) (sym (none_else q r (λ e. n (e ∙ sym (alone_row row q h)))))
only_others (Many ws) row r t h n =
    let one : get_or ws.by_row row 0 ≡ 1 = weight_counted (get_or ws.by_row row 0) h in
    let all : sum ws.by_row ≡ 1 = sym ws.counted ∙ t in
    let none : get_or ws.by_row r 0 ≡ 0 = omega (arith, two_within ws.by_row row r n) in
    rw (none_else row r n) (sym (counted_none (get_or ws.by_row r 0) none))

-- a frame that a row has to itself has one reference
pub sole_total : (r : ℕ) (o : Owners) → held_by r o ≡ Some Sole → total_of o ≡ 1
sole_total r (Spare q) e = absurd (spare (r == q) e) where
  spare : (b : Bool) → (if b then Some Zero else None) ≡ Some Sole → ⊥
  spare true h = cc
  spare false h = cc
sole_total r (Alone q) e = refl
sole_total r (Many ws) e = absurd (many (get_or ws.by_row r 0 == 0) (get_or ws.by_row r 0) e) where
  many : (b : Bool) (n : ℕ) → (if b then None else Some (Counted n)) ≡ Some Sole → ⊥
  many true n h = cc
  many false n h = cc

-- a frame of which a row has a reference has some
pub some_total : (r : ℕ) (o : Owners) → weight_of (held_by r o) ≡ 1 → 1 ≤ total_of o
some_total r (Spare q) e = absurd (spare (r == q) e) where
  spare : (b : Bool) → weight_of (if b then Some Zero else None) ≡ 1 → ⊥
  spare true h = omega arith
  spare false h = omega arith
some_total r (Alone q) e = omega arith
some_total r (Many ws) e = let k = ws.some in omega arith

-- the row that has something of a frame of one row is that row
here_row : (b : Bool) (row q : ℕ) → (row == q) ≡ b → is_here (if b then Some Zero else None) ≡ true → row ≡ q
here_row true row q e h = eqb-true row q e
here_row false row q e h = absurd (cc)

here_alone : (b : Bool) (row q : ℕ) → (row == q) ≡ b → is_here (if b then Some Sole else None) ≡ true → row ≡ q
here_alone true row q e h = eqb-true row q e
here_alone false row q e h = absurd (cc)

spare_own : (q : ℕ) → held_by q (Spare q) ≡ Some Zero
spare_own q = rw (eq-eqb q q refl) refl

spare_else : (q r : ℕ) → r ≢ q → held_by r (Spare q) ≡ None
spare_else q r n = rw (ne_eqb r q n) refl

alone_sole : (q : ℕ) → held_by q (Alone q) ≡ Some Sole
alone_sole q = rw (eq-eqb q q refl) refl

-- a frame of one row alone goes as it is
pub spare_handed : (q from to : ℕ) → from ≢ to → is_here (held_by from (Spare q)) ≡ true → IsHanded from to (Spare q) (Spare to)
spare_handed q from to n h =
    let e : from ≡ q = here_row (from == q) from q refl h in
    let had : held_by from (Spare q) ≡ Some Zero = ap (λ (k : ℕ). held_by from (Spare k)) (sym e) ∙ spare_own from in record {
      left = spare_else to from n ∙ sym (ap left_hold had);
      moved = spare_own to ∙ sym (ap moved_hold had);
      others = λ r a b. spare_else to r b ∙ sym (spare_else q r (λ k. a (k ∙ sym e)));
      total = refl;
    }

pub alone_handed : (q from to : ℕ) → from ≢ to → is_here (held_by from (Alone q)) ≡ true → IsHanded from to (Alone q) (Alone to)
alone_handed q from to n h =
    let e : from ≡ q = here_alone (from == q) from q refl h in
    let had : held_by from (Alone q) ≡ Some Sole = ap (λ (k : ℕ). held_by from (Alone k)) (sym e) ∙ alone_sole from in record {
      left = none_else to from n ∙ sym (ap left_hold had);
      moved = alone_sole to ∙ sym (ap moved_hold had);
      others = λ r a b. none_else to r b ∙ sym (none_else q r (λ k. a (k ∙ sym e)));
      total = refl;
    }

-- a frame that is kept has no reference
pub spare_weight : (row q : ℕ) → weight_of (held_by row (Spare q)) ≡ 1 → ⊥
spare_weight row q h = by (row == q) h where
  by : (b : Bool) → weight_of (if b then Some Zero else None) ≡ 1 → ⊥
  by true e = omega arith
  by false e = omega arith

-- the last reference goes
pub last_released : (o : Owners) (row : ℕ) → total_of o ≡ 1 → weight_of (held_by row o) ≡ 1 → IsReleased true row o (Spare row)
last_released o row t h = record {
  last = (λ _. t, λ _. refl);
  own = spare_own row;
  others = λ r n. last_others o row r t h n;
  total = omega (arith, t);
}

-- it isn't the last
pub more_released : (row : ℕ) (w v : Weights) → w.count ≢ 1 → held_by row (Many v) ≡ None → ((r : ℕ) → r ≢ row → held_by r (Many v) ≡ held_by r (Many w)) → v.count ≡ w.count - 1 → IsReleased false row (Many w) (Many v)
more_released row w v n own others total = record {
  last = (λ e. absurd (let z : false ≡ true = e in cc), λ e. absurd (n e));
  own = own;
  others = others;
  total = total;
}

-- a frame of one row alone gets counts
pub alone_shared : (row q : ℕ) (w : Weights) → row < 64 → weight_of (held_by row (Alone q)) ≡ 1 → w.by_row ≡ set (zeros 64) row 2 → w.count ≡ 2 → IsShared row (Alone q) (Many w)
alone_shared row q w lt once by count = record {
  own = alone_own row w.by_row lt by;
  others = λ r n. alone_others row q r w.by_row once by n;
  total = count;
}

-- whether a row has something of a frame
pub here_spare : (q row : ℕ) → (q == row) ≡ is_here (held_by row (Spare q))
here_spare q row = turned q row (row == q) refl where
  turned : (q row : ℕ) (b : Bool) → (row == q) ≡ b → (q == row) ≡ is_here (if b then Some Zero else None)
  turned q row true e = eq-eqb q row (sym (eqb-true row q e))
  turned q row false e = ne_eqb q row (λ k. let t : (row == q) ≡ true = eq-eqb row q (sym k) in absurd (cc))

pub here_own : (q row : ℕ) → (q == row) ≡ is_here (held_by row (Alone q))
here_own q row = turned q row (row == q) refl where
  turned : (q row : ℕ) (b : Bool) → (row == q) ≡ b → (q == row) ≡ is_here (if b then Some Sole else None)
  turned q row true e = eq-eqb q row (sym (eqb-true row q e))
  turned q row false e = ne_eqb q row (λ k. let t : (row == q) ≡ true = eq-eqb row q (sym k) in absurd (cc))

pub here_many : (n : ℕ) → nat_lt 0 n ≡ is_here (counted n)
here_many zero = refl
here_many (suc n) = lt-ltb 0 (suc n) (omega arith) ∙ sym (ap is_here (counted_some (suc n) (λ e. absurd (let z : suc n ≡ 0 = e in omega (arith, z)))))
