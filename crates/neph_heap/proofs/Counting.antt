-- How often lists name a number.
use Rattle.std.proofs.Common.{◌≡◌, ◌≢◌, ℕ, zero, suc, ◌+◌, ◌<◌, ◌≤◌, ◌==◌, List, [], ◌∷◌, ◌++◌, length, take, drop, reverse, set, get_or, refl, sym, ap, ◌∙◌, arith, eq-eqb, ne_eqb, if◌then◌else◌, inl, inr}
use Rattle.std.specs.List.{sum_by, flat_map, range_with_len}
use Rattle.std.proofs.lemmas.List.Sums.{sum_by-cons, sum_by-append, sum_by-set, sum_by_more, sum_by-take-le, sum_by-take-drop, get_or-le-sum_by}
use Rattle.std.proofs.lemmas.List.Sorted.{sum_by-IsPermutation, IsPermutation-reverse}
use Rattle.neph_pool.proofs.Rows.{same_or_not}
use Rattle.neph_heap.specs.Holds.{times}

-- 1 where the numbers are the same, else 0
unfoldable pub one_at : ℕ → ℕ → ℕ
one_at f x = if x == f then 1 else 0

pub one_same : (f x : ℕ) → x ≡ f → one_at f x ≡ 1
unfolding one_at
one_same f x e = rw (eq-eqb x f e) refl

pub one_else : (f x : ℕ) → x ≢ f → one_at f x ≡ 0
unfolding one_at
one_else f x n = rw (ne_eqb x f n) refl

pub times_cons : (f x : ℕ) (xs : List ℕ) → times f (x ∷ xs) ≡ one_at f x + times f xs
unfolding one_at
times_cons f x xs = sum_by-cons (one_at f) x xs

pub times_append : (f : ℕ) (xs ys : List ℕ) → times f (xs ++ ys) ≡ times f xs + times f ys
unfolding one_at
times_append f xs ys = sum_by-append (one_at f) xs ys

pub times_more : (f : ℕ) (xs : List ℕ) (i d : ℕ) → i < length xs → times f (take (i + 1) xs) ≡ times f (take i xs) + one_at f (get_or xs i d)
unfolding one_at
times_more f xs i d lt = sum_by_more (one_at f) xs i d lt

pub times_take : (f : ℕ) (xs : List ℕ) (i : ℕ) → times f (take i xs) ≤ times f xs
unfolding one_at
times_take f xs i = sum_by-take-le (one_at f) xs i

pub times_split : (f : ℕ) (xs : List ℕ) (i : ℕ) → times f (take i xs) + times f (drop i xs) ≡ times f xs
unfolding one_at
times_split f xs i = sum_by-take-drop (one_at f) xs i

pub times_at : (xs : List ℕ) (i f : ℕ) → i < length xs → f ≡ get_or xs i f → 0 < times f xs
times_at xs i f lt e = omega (arith, times_more f xs i f lt, one_same f (get_or xs i f) (sym e), times_take f xs (i + 1))

pub times_one : (f : ℕ) → 0 < times f (f ∷ [])
times_one f = omega (arith, times_cons f f [], one_same f f refl)

-- lists that are joined end to end
pub times_flat : {X : Type 0} (f : ℕ) (g : X → List ℕ) (xss : List X) → times f (flat_map g xss) ≡ sum_by (λ x. times f (g x)) xss
times_flat f g [] = refl
times_flat {X} f g (x ∷ xss) = omega (arith, times_append f (g x) (flat_map g xss), times_flat f g xss, sum_by-cons (λ (y : X). times f (g y)) x xss)

-- one of them changes
pub times_set : {X : Type 0} (f : ℕ) (g : X → List ℕ) (xss : List X) (i : ℕ) (y d : X) → i < length xss → times f (flat_map g (set xss i y)) + times f (g (get_or xss i d)) ≡ times f (flat_map g xss) + times f (g y)
times_set {X} f g xss i y d lt = omega (arith, times_flat f g (set xss i y), times_flat f g xss, sum_by-set (λ (x : X). times f (g x)) xss i y d lt)

-- one of them names no more than all
pub times_in : {X : Type 0} (f : ℕ) (g : X → List ℕ) (xss : List X) (i : ℕ) (d : X) → i < length xss → times f (g (get_or xss i d)) ≤ times f (flat_map g xss)
times_in {X} f g xss i d lt = omega (arith, times_flat f g xss, get_or-le-sum_by (λ (x : X). times f (g x)) xss i d lt)

some_same : (f x n : ℕ) → 0 < one_at f x + n → (n ≡ 0) → x ≡ f
some_same f x n lt e = elim (same_or_not x f) [ inl s ↦ s | inr ne ↦ absurd (let z = one_else f x ne in omega arith) ]

-- sums over a range
sum_plus : (f g : ℕ → ℕ) (ds : List ℕ) → sum_by (λ d. f d + g d) ds ≡ sum_by f ds + sum_by g ds
sum_plus f g [] = refl
sum_plus f g (d ∷ ds) = omega (arith, sum_by-cons (λ (k : ℕ). f k + g k) d ds, sum_by-cons f d ds, sum_by-cons g d ds, sum_plus f g ds)

sum_none : (ds : List ℕ) → sum_by (λ d. 0) ds ≡ 0
sum_none [] = refl
sum_none (d ∷ ds) = omega (arith, sum_by-cons (λ (k : ℕ). 0) d ds, sum_none ds)

sum_same : (f g : ℕ → ℕ) (ds : List ℕ) → ((d : ℕ) → f d ≡ g d) → sum_by f ds ≡ sum_by g ds
sum_same f g [] h = refl
sum_same f g (d ∷ ds) h = omega (arith, sum_by-cons f d ds, sum_by-cons g d ds, h d, sum_same f g ds h)

sum_most : (f : ℕ → ℕ) (a n : ℕ) → ((d : ℕ) → f d ≤ 1) → sum_by f (range_with_len a n) ≤ n
sum_most f a zero h = omega arith
sum_most f a (suc n) h = omega (arith, sum_by-cons f a (range_with_len (a + 1) n), h a, sum_most f (a + 1) n h)

one_in : (k a n : ℕ) → a ≤ k → k < a + n → 1 ≤ sum_by (λ r. one_at r k) (range_with_len a n)
one_in k a zero le lt = absurd (omega arith)
one_in k a (suc n) le lt = elim (same_or_not k a) [
  | inl e ↦ omega (arith, sum_by-cons (λ (r : ℕ). one_at r k) a (range_with_len (a + 1) n), one_same a k e)
  | inr ne ↦ omega (arith, sum_by-cons (λ (r : ℕ). one_at r k) a (range_with_len (a + 1) n), one_in k (a + 1) n (omega arith) (omega arith))
]

length_sum : (n : ℕ) (xs : List ℕ) → ((f : ℕ) → 0 < times f xs → f < n) → length xs ≤ sum_by (λ f. times f xs) (range_with_len 0 n)
length_sum n [] small = omega arith
length_sum n (x ∷ xs) small =
    let fs : List ℕ = range_with_len 0 n in
    let cut : sum_by (λ f. times f (x ∷ xs)) fs ≡ sum_by (λ f. one_at f x + times f xs) fs = sum_same (λ f. times f (x ∷ xs)) (λ f. one_at f x + times f xs) fs (λ f. times_cons f x xs) in
    let here : x < n = small x (omega (arith, times_cons x x xs, one_same x x refl)) in
    omega (arith, cut, sum_plus (λ f. one_at f x) (λ f. times f xs) fs, one_in x 0 n (omega arith) (omega arith), length_sum n xs (λ f lt. small f (omega (arith, times_cons f x xs))))

-- different numbers below n are at most n
pub few_of : (n : ℕ) (xs : List ℕ) → ((f : ℕ) → times f xs ≤ 1) → ((f : ℕ) → 0 < times f xs → f < n) → length xs ≤ n
few_of n xs once small = omega (arith, length_sum n xs small, sum_most (λ f. times f xs) 0 n once)

none_in : (f a n : ℕ) → f < a → times f (range_with_len a n) ≡ 0
none_in f a zero lt = refl
none_in f a (suc n) lt = omega (arith, times_cons f a (range_with_len (a + 1) n), one_else f a (λ e. omega arith), none_in f (a + 1) n (omega arith))

range_from : (f a n : ℕ) → a ≤ f → f < a + n → times f (range_with_len a n) ≡ 1
range_from f a zero le lt = absurd (omega arith)
range_from f a (suc n) le lt = elim (same_or_not a f) [
  | inl e ↦ omega (arith, times_cons f a (range_with_len (a + 1) n), one_same f a e, none_in f (a + 1) n (omega arith))
  | inr ne ↦ omega (arith, times_cons f a (range_with_len (a + 1) n), one_else f a ne, range_from f (a + 1) n (omega arith) (omega arith))
]

range_past : (f a n : ℕ) → a + n ≤ f → times f (range_with_len a n) ≡ 0
range_past f a zero le = refl
range_past f a (suc n) le = omega (arith, times_cons f a (range_with_len (a + 1) n), one_else f a (λ e. omega arith), range_past f (a + 1) n (omega arith))

times_reverse : (f : ℕ) (xs : List ℕ) → times f (reverse xs) ≡ times f xs
unfolding one_at
times_reverse f xs = sum_by-IsPermutation (one_at f) xs (reverse xs) (IsPermutation-reverse xs)

-- the numbers below n, the highest first, are each named once
pub down_in : (f n : ℕ) → f < n → times f (reverse (range_with_len 0 n)) ≡ 1
down_in f n lt = times_reverse f (range_with_len 0 n) ∙ range_from f 0 n (omega arith) (omega arith)

pub down_out : (f n : ℕ) → n ≤ f → times f (reverse (range_with_len 0 n)) ≡ 0
down_out f n le = times_reverse f (range_with_len 0 n) ∙ range_past f 0 n (omega arith)

pub range_once : (f a n : ℕ) → times f (range_with_len a n) ≤ 1
range_once f a zero = omega arith
range_once f a (suc n) = elim (same_or_not a f) [
  | inl e ↦ omega (arith, times_cons f a (range_with_len (a + 1) n), one_same f a e, none_in f (a + 1) n (omega arith))
  | inr ne ↦ omega (arith, times_cons f a (range_with_len (a + 1) n), one_else f a ne, range_once f (a + 1) n)
]

pub range_more : (a n : ℕ) → range_with_len a (suc n) ≡ range_with_len a n ++ (a + n) ∷ []
range_more a zero = let e : a + 0 ≡ a = omega arith in ap (λ (k : ℕ). k ∷ []) (sym e)
range_more a (suc n) = let e : (a + 1) + n ≡ a + suc n = omega arith in ap (λ (xs : List ℕ). a ∷ xs) (range_more (a + 1) n ∙ ap (λ (k : ℕ). range_with_len (a + 1) n ++ k ∷ []) e)
