-- Sums over all frames, and over all places.
use Rattle.std.proofs.Common.{◌≡◌, ℕ, zero, suc, ◌+◌, ◌<◌, ◌≤◌, List, [], ◌∷◌, length, map, get_or, inl, inr, refl, sym, ap, ◌∙◌, arith}
use Rattle.std.specs.List.{sum_by, range_with_len, concat}
use Rattle.std.proofs.lemmas.List.Sums.{sum_by-cons}
use Rattle.neph_accounts.specs.Holdings.{times}
use Rattle.neph_accounts.proofs.Times.{one_at, one_self, one_else, same_or_not, times_cons, times_both, times_head}

-- the sum of sums
pub sum_plus : {A : Type 0} (f g : A → ℕ) (ds : List A)
    → sum_by (λ d. f d + g d) ds ≡ sum_by f ds + sum_by g ds
sum_plus f g [] = refl
sum_plus {A} f g (d ∷ ds) =
    omega (
      arith,
      sum_by-cons (λ (k : A). f k + g k) d ds,
      sum_by-cons f d ds,
      sum_by-cons g d ds,
      sum_plus f g ds,
    )

pub sum_none : {A : Type 0} (ds : List A) → sum_by (λ d. 0) ds ≡ 0
sum_none [] = refl
sum_none {A} (d ∷ ds) = omega (arith, sum_by-cons (λ (k : A). 0) d ds, sum_none ds)

-- the same numbers have the same sum
pub same_in : (f g : ℕ → ℕ) (a n : ℕ) → ((d : ℕ) → a ≤ d → d < a + n → f d ≡ g d)
    → sum_by f (range_with_len a n) ≡ sum_by g (range_with_len a n)
same_in f g a zero h = refl
same_in f g a (suc n) h =
    let first = h a (omega arith) (omega arith) in
    let rest = same_in f g (a + 1) n (λ d le lt. h d (omega arith) (omega arith)) in
    omega (
      arith,
      sum_by-cons f a (range_with_len (a + 1) n),
      sum_by-cons g a (range_with_len (a + 1) n),
      first,
      rest,
    )

pub ones : (a n : ℕ) → sum_by (λ d. 1) (range_with_len a n) ≡ n
ones a zero = refl
ones a (suc n) =
    omega (arith, sum_by-cons (λ (d : ℕ). 1) a (range_with_len (a + 1) n), ones (a + 1) n)

-- sums may be taken in either order
pub swap : {A B : Type 0} (g : A → B → ℕ) (xs : List A) (ds : List B)
    → sum_by (λ d. sum_by (λ x. g x d) xs) ds ≡ sum_by (λ x. sum_by (g x) ds) xs
swap g [] ds = sum_none ds
swap {A} {B} g (x ∷ xs) ds = go ds ∙ sum_plus (g x) (λ d. sum_by (λ y. g y d) xs) ds
    ∙ omega (arith, swap g xs ds, sum_by-cons (λ (y : A). sum_by (g y) ds) x xs) where
      go : (es : List B)
          → sum_by (λ d. sum_by (λ y. g y d)
          (x ∷ xs)) es ≡ sum_by (λ d. g x d + sum_by (λ y. g y d) xs) es
      go [] = refl
      go (e ∷ es) =
          omega (
            arith,
            go es,
            sum_by-cons (λ (d : B). sum_by (λ y. g y d) (x ∷ xs)) e es,
            sum_by-cons (λ (d : B). g x d + sum_by (λ y. g y d) xs) e es,
            sum_by-cons (λ (y : A). g y e) x xs,
          )

one_none : (k a n : ℕ) → k < a → sum_by (λ r. one_at k r) (range_with_len a n) ≡ 0
one_none k a zero lt = refl
one_none k a (suc n) lt =
    omega (
      arith,
      one_else k a (λ e. omega arith),
      sum_by-cons (λ (r : ℕ). one_at k r) a (range_with_len (a + 1) n),
      one_none k (a + 1) n (omega arith),
    )

-- a number is once in a range
pub one_in : (k a n : ℕ) → a ≤ k → k < a + n → sum_by (λ r. one_at k r) (range_with_len a n) ≡ 1
one_in k a zero le lt = absurd (omega arith)
one_in k a (suc n) le lt = elim (same_or_not k a) [
  | inl e ↦ (let o : one_at k a ≡ 1 = ap (one_at k) (sym e) ∙ one_self k in
      omega (
        arith,
        o,
        sum_by-cons (λ (r : ℕ). one_at k r) a (range_with_len (a + 1) n),
        one_none k (a + 1) n (omega (arith, e)),
      ))
  | inr ne ↦ omega (
    arith,
    one_else k a ne,
    sum_by-cons (λ (r : ℕ). one_at k r) a (range_with_len (a + 1) n),
    one_in k (a + 1) n (omega arith) (omega arith),
  )
]

-- numbers below n, each counted for itself
pub sum_times : (n : ℕ) (xs : List ℕ) → ((f : ℕ) → 0 < times f xs → f < n)
    → sum_by (λ f. times f xs) (range_with_len 0 n) ≡ length xs
sum_times n [] small = sum_none (range_with_len 0 n)
sum_times n (x ∷ xs) small =
    let fs : List ℕ = range_with_len 0 n in
    let cut : sum_by (λ f. times f (x ∷ xs)) fs ≡ sum_by (λ f. one_at x f + times f xs) fs =
    same_in (λ f. times f (x ∷ xs))
    (λ f. one_at x f + times f xs) 0 n (λ f le lt. times_cons f x xs) in
    let here : x < n = small x (times_head x xs) in
    omega (
      arith,
      cut,
      sum_plus (λ f. one_at x f) (λ f. times f xs) fs,
      one_in x 0 n (omega arith)
          (omega arith),
      sum_times n xs (λ f lt. small f (omega (arith, times_cons f x xs))),
    )

-- where a sum is not 0, a term isn't
pub some_term : {A : Type 0} (g : A → ℕ) (xs : List A) (d : A) → 0 < sum_by g xs
    → (i : ℕ) × (i < length xs) × (0 < g (get_or xs i d))
some_term g [] d h = absurd (omega arith)
some_term {A} g (x ∷ xs) d h = by (g x) refl (λ lt. some_term g xs d lt) where
  by : (n : ℕ) → g x ≡ n → (0 < sum_by g xs → (i : ℕ) × (i < length xs) × (0 < g (get_or xs i d)))
      → (i : ℕ) × (i < length (x ∷ xs)) × (0 < g (get_or (x ∷ xs) i d))
  by zero e more = let t = more (omega (arith, sum_by-cons g x xs, e)) in
      (suc t.0, omega (arith, t.1), t.2)
  by (suc n) e more = (zero, omega arith, omega (arith, e))

-- a term is no more than the sum, and nor are two
pub one_term : {A : Type 0} (g : A → ℕ) (xs : List A) (i : ℕ) (d : A) → i < length xs
    → g (get_or xs i d) ≤ sum_by g xs
one_term g [] i d a = absurd (omega arith)
one_term g (x ∷ xs) zero d a = omega (arith, sum_by-cons g x xs)
one_term g (x ∷ xs) (suc i) d a = let k = one_term g xs i d (omega arith) in
    omega (arith, k, sum_by-cons g x xs)

pub two_terms : {A : Type 0} (g : A → ℕ) (xs : List A) (i j : ℕ) (d : A) → i < length xs
    → j < length xs → (i ≡ j → ⊥) → g (get_or xs i d) + g (get_or xs j d) ≤ sum_by g xs
two_terms g [] i j d a b ne = absurd (omega arith)
two_terms g (x ∷ xs) zero zero d a b ne = absurd (ne refl)
two_terms g (x ∷ xs) zero (suc j) d a b ne = let k = one_term g xs j d (omega arith) in
    omega (arith, k, sum_by-cons g x xs)
two_terms g (x ∷ xs) (suc i) zero d a b ne = let k = one_term g xs i d (omega arith) in
    omega (arith, k, sum_by-cons g x xs)
two_terms g (x ∷ xs) (suc i) (suc j) d a b ne = let k =
    two_terms g xs i j d (omega arith) (omega arith) (λ e. ne (ap suc e)) in
    omega (arith, k, sum_by-cons g x xs)

-- nor is a term that is 0 past the end
pub any_term : {A : Type 0} (g : A → ℕ) (xs : List A) (i : ℕ) (d : A) → g d ≡ 0
    → g (get_or xs i d) ≤ sum_by g xs
any_term g [] i d z = omega (arith, z)
any_term g (x ∷ xs) zero d z = omega (arith, sum_by-cons g x xs)
any_term g (x ∷ xs) (suc i) d z = omega (arith, any_term g xs i d z, sum_by-cons g x xs)

-- a sum over a list, by the numbers of its places
pub sum_places : {A : Type 0} (g : A → ℕ) (xs : List A) (d : A) (a : ℕ) (h : ℕ → ℕ)
    → ((i : ℕ) → i < length xs → h (a + i) ≡ g (get_or xs i d))
    → sum_by h (range_with_len a (length xs)) ≡ sum_by g xs
sum_places g [] d a h at = refl
sum_places g (x ∷ xs) d a h at =
    let first : h a ≡ g x = ap h (omega arith) ∙ at 0 (omega arith) in
    omega (
      arith,
      first,
      sum_by-cons g x xs,
      sum_by-cons h a (range_with_len (a + 1) (length xs)),
      sum_places g xs d (a + 1) h (λ i lt. ap h (omega arith) ∙ at (suc i) (omega arith)),
    )

-- how often a number is in lists one behind another
pub times_concat : {A : Type 0} (g : A → List ℕ) (xs : List A) (c : ℕ)
    → times c (concat (map g xs)) ≡ sum_by (λ x. times c (g x)) xs
times_concat g [] c = refl
times_concat {A} g (x ∷ xs) c =
    omega (
      arith,
      times_concat g xs c,
      times_both c (g x) (concat (map g xs)),
      sum_by-cons (λ (y : A). times c (g y)) x xs,
    )
