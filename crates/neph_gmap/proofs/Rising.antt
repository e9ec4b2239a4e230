-- Rising lists of numbers.
use Rattle.std.proofs.Common.{◌≡◌, ◌≢◌, ℕ, zero, suc, ◌+◌, ◌<◌, ◌≤◌, ◌⊎◌, inl, inr, Bool, true, false, List, [], ◌∷◌, length, get_or, insert, remove, refl, ap, ◌∙◌, arith, ◌==◌, nat_lt, if◌then◌else◌, Result, Ok, Err, OnOk, OnErr, eq-eqb, ne_eqb}
use Rattle.std.proofs.lemmas.Bool.Decides.{nat_tests}
use Rattle.neph_gmap.specs.GuestPages.{IsRisingFrom, IsRising, with_number, without_number}

pub low_le : (b : ℕ) (xs : List ℕ) (j : ℕ) → IsRisingFrom b xs → j < length xs → b ≤ get_or xs j 0
low_le b [] j h lt = absurd (omega arith)
low_le b (x ∷ xs) zero h lt = h.0
low_le b (x ∷ xs) (suc j) h lt = let k = low_le (x + 1) xs j h.1 (omega arith) in omega (arith, k, h.0)

-- a later number is larger
pub below_later : (b : ℕ) (xs : List ℕ) (i j : ℕ) → IsRisingFrom b xs → i < j → j < length xs → get_or xs i 0 < get_or xs j 0
below_later b [] i j h lt fit = absurd (omega arith)
below_later b (x ∷ xs) i zero h lt fit = absurd (omega arith)
below_later b (x ∷ xs) zero (suc j) h lt fit = let k = low_le (x + 1) xs j h.1 (omega arith) in omega (arith, k)
below_later b (x ∷ xs) (suc i) (suc j) h lt fit = below_later (x + 1) xs i j h.1 (omega arith) (omega arith)

same_or_less : (i j : ℕ) → i ≤ j → (i ≡ j) ⊎ (i < j)
same_or_less zero zero h = inl refl
same_or_less zero (suc j) h = inr (omega arith)
same_or_less (suc i) zero h = absurd (omega arith)
same_or_less (suc i) (suc j) h = elim (same_or_less i j (omega arith)) [ inl e ↦ inl (ap suc e) | inr l ↦ inr (omega arith) ]

pub in_order : (xs : List ℕ) (i j : ℕ) → IsRising xs → i ≤ j → j < length xs → get_or xs i 0 ≤ get_or xs j 0
in_order xs i j h le fit = elim (same_or_less i j le) [
  | inl e ↦ rw e (omega arith)
  | inr l ↦ let k = below_later 0 xs i j h l fit in omega (arith, k)
]

test_less : (x v : ℕ) (a b : List ℕ) → x < v → (if nat_lt x v then a else b) ≡ a
test_less x v a b h = grind (arith, nat_tests)

test_not : (x v : ℕ) (a b : List ℕ) → v ≤ x → (if nat_lt x v then a else b) ≡ b
test_not x v a b h = grind (arith, nat_tests)

test_same : (x v : ℕ) (a b : List ℕ) → x ≡ v → (if x == v then a else b) ≡ a
test_same x v a b h = rw (eq-eqb x v h) refl

test_other : (x v : ℕ) (a b : List ℕ) → x ≢ v → (if x == v then a else b) ≡ b
test_other x v a b h = rw (ne_eqb x v h) refl

with_less : (v x : ℕ) (xs : List ℕ) → x < v → with_number v (x ∷ xs) ≡ x ∷ with_number v xs
with_less v x xs h = test_less x v _ _ h

with_equal : (v x : ℕ) (xs : List ℕ) → x ≡ v → with_number v (x ∷ xs) ≡ x ∷ xs
with_equal v x xs h = test_not x v _ _ (omega arith) ∙ test_same x v _ _ h

with_more : (v x : ℕ) (xs : List ℕ) → v < x → with_number v (x ∷ xs) ≡ v ∷ x ∷ xs
with_more v x xs h = test_not x v _ _ (omega arith) ∙ test_other x v _ _ (λ (e : x ≡ v). omega arith)

without_equal : (v x : ℕ) (xs : List ℕ) → x ≡ v → without_number v (x ∷ xs) ≡ without_number v xs
without_equal v x xs h = rw (eq-eqb x v h) refl

without_other : (v x : ℕ) (xs : List ℕ) → x ≢ v → without_number v (x ∷ xs) ≡ x ∷ without_number v xs
without_other v x xs h = rw (ne_eqb x v h) refl

-- the number is there already
pub with_same : (b : ℕ) (xs : List ℕ) (i v : ℕ) → IsRisingFrom b xs → i < length xs → get_or xs i 0 ≡ v → with_number v xs ≡ xs
with_same b [] i v h lt e = absurd (omega arith)
with_same b (x ∷ xs) zero v h lt e = with_equal v x xs e
with_same b (x ∷ xs) (suc i) v h lt e =
    let k = low_le (x + 1) xs i h.1 (omega arith) in
    with_less v x xs (omega (arith, k, e)) ∙ ap (λ (ys : List ℕ). x ∷ ys) (with_same (x + 1) xs i v h.1 (omega arith) e)

-- the number goes between those below it and those above it
pub with_new : (xs : List ℕ) (i v : ℕ) → i ≤ length xs → ((k : ℕ) → k < i → get_or xs k 0 < v) → ((k : ℕ) → i ≤ k → k < length xs → v ≤ get_or xs k 0) → (i < length xs → get_or xs i 0 ≢ v)
    → with_number v xs ≡ insert xs i v
with_new [] zero v fit below above absent = refl
with_new [] (suc i) v fit below above absent = absurd (omega arith)
with_new (x ∷ xs) zero v fit below above absent =
    let le : v ≤ x = above zero (omega arith) (omega arith) in
    let ne : x ≢ v = absent (omega arith) in
    with_more v x xs (omega arith)
with_new (x ∷ xs) (suc i) v fit below above absent =
    let lt : x < v = below zero (omega arith) in
    with_less v x xs lt
    ∙ ap (λ (ys : List ℕ). x ∷ ys) (with_new xs i v (omega arith) (λ k h. below (suc k) (omega arith)) (λ k h l. above (suc k) (omega arith) (omega arith)) (λ h. absent (omega arith)))

-- no number of the list is this one
without_none : (xs : List ℕ) (v : ℕ) → ((k : ℕ) → k < length xs → get_or xs k 0 ≢ v) → without_number v xs ≡ xs
without_none [] v h = refl
without_none (x ∷ xs) v h = without_other v x xs (h zero (omega arith)) ∙ ap (λ (ys : List ℕ). x ∷ ys) (without_none xs v (λ k lt. h (suc k) (omega arith)))

pub without_absent : (xs : List ℕ) (i v : ℕ) → IsRising xs → ((k : ℕ) → k < i → get_or xs k 0 < v) → ((k : ℕ) → i ≤ k → k < length xs → v ≤ get_or xs k 0) → (i < length xs → get_or xs i 0 ≢ v) → without_number v xs ≡ xs
without_absent xs i v h below above absent = without_none xs v (λ k lt e. elim (before_or_not k i) [
  | inl l ↦ let less = below k l in omega (arith, less, e)
  | inr le ↦ elim (same_or_less i k le) [
    | inl q ↦ absent (rw q lt) (rw q e)
    | inr l ↦ let least = above i (omega arith) (omega arith) in let more = below_later 0 xs i k h l lt in omega (arith, least, more, e)
  ]
])
  where
    before_or_not : (k i : ℕ) → (k < i) ⊎ (i ≤ k)
    before_or_not k zero = inr (omega arith)
    before_or_not zero (suc i) = inl (omega arith)
    before_or_not (suc k) (suc i) = elim (before_or_not k i) [ inl l ↦ inl (omega arith) | inr l ↦ inr (omega arith) ]

-- the number is taken from its place
pub without_at : (b : ℕ) (xs : List ℕ) (i v : ℕ) → IsRisingFrom b xs → i < length xs → get_or xs i 0 ≡ v → without_number v xs ≡ remove xs i
without_at b [] i v h lt e = absurd (omega arith)
without_at b (x ∷ xs) zero v h lt e =
    without_equal v x xs e ∙ without_none xs v (λ k l q. let more = low_le (x + 1) xs k h.1 l in omega (arith, more, q, e))
without_at b (x ∷ xs) (suc i) v h lt e =
    let more = low_le (x + 1) xs i h.1 (omega arith) in
    without_other v x xs (λ (q : x ≡ v). omega (arith, more, e, q)) ∙ ap (λ (ys : List ℕ). x ∷ ys) (without_at (x + 1) xs i v h.1 (omega arith) e)

rising_from : (a b : ℕ) (xs : List ℕ) → a ≤ b → IsRisingFrom b xs → IsRisingFrom a xs
rising_from a b [] le h = h
rising_from a b (x ∷ xs) le h = (omega (arith, le, h.0), h.1)

three_ways : (x v : ℕ) → (x < v) ⊎ ((x ≡ v) ⊎ (v < x))
three_ways zero zero = inr (inl refl)
three_ways zero (suc v) = inl (omega arith)
three_ways (suc x) zero = inr (inr (omega arith))
three_ways (suc x) (suc v) = elim (three_ways x v) [ inl l ↦ inl (omega arith) | inr m ↦ inr (elim m [ inl e ↦ inl (ap suc e) | inr g ↦ inr (omega arith) ]) ]

rising_with_from : (b v : ℕ) (xs : List ℕ) → IsRisingFrom b xs → b ≤ v → IsRisingFrom b (with_number v xs)
rising_with_from b v [] h le = (le, h)
rising_with_from b v (x ∷ xs) h le = elim (three_ways x v) [
  | inl l ↦ rw (with_less v x xs l) (h.0, rising_with_from (x + 1) v xs h.1 (omega arith))
  | inr m ↦ elim m [
    | inl e ↦ rw (with_equal v x xs e) h
    | inr g ↦ rw (with_more v x xs g) (le, (omega arith, h.1))
  ]
]

pub rising_with : (v : ℕ) (xs : List ℕ) → IsRising xs → IsRising (with_number v xs)
rising_with v xs h = rising_with_from 0 v xs h (omega arith)

rising_without_by : (e : Bool) (b v x : ℕ) (xs : List ℕ) → (x == v) ≡ e → b ≤ x → IsRisingFrom (x + 1) (without_number v xs) → IsRisingFrom b (without_number v (x ∷ xs))
rising_without_by true b v x xs e le h = rw e (rising_from b (x + 1) (without_number v xs) (omega arith) h)
rising_without_by false b v x xs e le h = rw e (le, h)

rising_without_from : (b v : ℕ) (xs : List ℕ) → IsRisingFrom b xs → IsRisingFrom b (without_number v xs)
rising_without_from b v [] h = h
rising_without_from b v (x ∷ xs) h = rising_without_by (x == v) b v x xs refl h.0 (rising_without_from (x + 1) v xs h.1)

pub rising_without : (v : ℕ) (xs : List ℕ) → IsRising xs → IsRising (without_number v xs)
rising_without v xs h = rising_without_from 0 v xs h

-- a number was added, or nothing changed
pub rising_added : {T E : Type 0} (r : Result T E) (new old : List ℕ) (v : ℕ) → OnOk r (new ≡ with_number v old) → OnErr r (new ≡ old) → IsRising old → IsRising new
rising_added (Ok t) new old v ok err h = rw ok (rising_with v old h)
rising_added (Err e) new old v ok err h = rw err h
