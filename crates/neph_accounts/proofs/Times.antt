-- How often a number is in a list.
use Rattle.std.proofs.Common.{◌≡◌, ◌≢◌, ℕ, zero, suc, ◌+◌, ◌<◌, ◌≤◌, ◌⊎◌, inl, inr, cond, eqb, List, [], ◌∷◌, ◌++◌, length, set, get_or, refl, sym, ap, ◌∙◌, arith}
use Rattle.std.specs.List.{range_with_len}
use Rattle.std.proofs.lemmas.Bool.Decides.{eqb_tells}
use Rattle.std.proofs.lemmas.List.Sums.{sum_by-cons, sum_by-append}
use Rattle.neph_accounts.specs.Holdings.{times}

-- 1 where two numbers are the same, 0 otherwise
unfoldable pub one_at : ℕ → ℕ → ℕ
one_at x f = cond (eqb x f) 1 0

-- two numbers are the same, or they are not
pub same_or_not : (x f : ℕ) → (x ≡ f) ⊎ (x ≢ f)
same_or_not x f = elim (eqb_tells x f) [ inl h ↦ inl h.1 | inr h ↦ inr h.1 ]

pub one_self : (f : ℕ) → one_at f f ≡ 1
unfolding one_at
one_self f = elim (eqb_tells f f) [ inl h ↦ ap (λ b. cond b 1 0) h.0 | inr h ↦ absurd (h.1 refl) ]

pub one_else : (x f : ℕ) → x ≢ f → one_at x f ≡ 0
unfolding one_at
one_else x f n = elim (eqb_tells x f) [ inl h ↦ absurd (n h.1) | inr h ↦ ap (λ b. cond b 1 0) h.0 ]

pub times_cons : (f x : ℕ) (xs : List ℕ) → times f (x ∷ xs) ≡ one_at x f + times f xs
unfolding one_at
times_cons f x xs = sum_by-cons (λ y. cond (eqb y f) 1 0) x xs

pub times_both : (f : ℕ) (xs ys : List ℕ) → times f (xs ++ ys) ≡ times f xs + times f ys
times_both f xs ys = sum_by-append (λ y. cond (eqb y f) 1 0) xs ys

pub times_one : (f x : ℕ) → times f (x ∷ []) ≡ one_at x f
times_one f x = omega (arith, times_cons f x [])

pub times_push : (f : ℕ) (xs : List ℕ) (x : ℕ) → times f (xs ++ x ∷ []) ≡ times f xs + one_at x f
times_push f xs x = omega (arith, times_both f xs (x ∷ []), times_one f x)

-- another number in a place
pub times_set : (f : ℕ) (xs : List ℕ) (i y : ℕ) → i < length xs
    → times f (set xs i y) + one_at (get_or xs i 0) f ≡ times f xs + one_at y f
times_set f [] i y lt = absurd (omega arith)
times_set f (x ∷ xs) zero y lt = omega (arith, times_cons f x xs, times_cons f y xs)
times_set f (x ∷ xs) (suc i) y lt = let there : i < length xs = omega arith in
    omega (arith, times_set f xs i y there, times_cons f x (set xs i y), times_cons f x xs)

-- the first number of a list is in it, and so is that of each place
pub times_head : (x : ℕ) (xs : List ℕ) → 0 < times x (x ∷ xs)
times_head x xs = omega (arith, times_cons x x xs, one_self x)

pub times_in : (xs : List ℕ) (i : ℕ) → i < length xs → 0 < times (get_or xs i 0) xs
times_in [] i lt = absurd (omega arith)
times_in (x ∷ xs) zero lt = times_head x xs
times_in (x ∷ xs) (suc i) lt = let k = times_in xs i (omega arith) in
    omega (arith, k, times_cons (get_or xs i 0) x xs)

-- no number of the list is one that it doesn't have
pub not_head : (f x : ℕ) (xs : List ℕ) → times f (x ∷ xs) ≡ 0 → x ≢ f
not_head f x xs e q = let k = times_head x xs in let z : times x (x ∷ xs) ≡ 0 =
    ap (λ (y : ℕ). times y (x ∷ xs)) q ∙ e in omega arith

-- a number of a range is in it once, and no other
pub times_below : (f a n : ℕ) → f < a → times f (range_with_len a n) ≡ 0
times_below f a zero lt = refl
times_below f a (suc n) lt =
    omega (
      arith,
      one_else a f (λ e. omega arith),
      times_cons f a (range_with_len (a + 1) n),
      times_below f (a + 1) n (omega arith),
    )

pub times_range : (f a n : ℕ) → a ≤ f → f < a + n → times f (range_with_len a n) ≡ 1
times_range f a zero le lt = absurd (omega arith)
times_range f a (suc n) le lt = elim (same_or_not a f) [
  | inl e ↦ (let o : one_at a f ≡ 1 = ap (λ x. one_at x f) e ∙ one_self f in
      omega (
        arith,
        o,
        times_cons f a (range_with_len (a + 1) n),
        times_below f (a + 1) n (omega (arith, e)),
      ))
  | inr n' ↦ omega (
    arith,
    one_else a f n',
    times_cons f a (range_with_len (a + 1) n),
    times_range f (a + 1) n (omega arith) (omega arith),
  )
]

pub times_past : (f a n : ℕ) → a + n ≤ f → times f (range_with_len a n) ≡ 0
times_past f a zero le = refl
times_past f a (suc n) le =
    omega (
      arith,
      one_else a f (λ e. omega arith),
      times_cons f a (range_with_len (a + 1) n),
      times_past f (a + 1) n (omega arith),
    )

-- where no number is twice in a list, two places have two numbers
pub once_apart : (xs : List ℕ) (i j : ℕ) → ((f : ℕ) → times f xs ≤ 1) → i < length xs
    → j < length xs → get_or xs i 0 ≡ get_or xs j 0 → i ≡ j
once_apart [] i j once a b e = absurd (omega arith)
once_apart (x ∷ xs) zero zero once a b e = refl
once_apart (x ∷ xs) zero (suc j) once a b e = let k = times_in xs j (omega arith) in
    let z : times (get_or xs j 0) xs ≡ times x xs = ap (λ (y : ℕ). times y xs) (sym e) in let o =
    once x in absurd (omega (arith, k, z, o, times_cons x x xs, one_self x))
once_apart (x ∷ xs) (suc i) zero once a b e = let k = times_in xs i (omega arith) in
    let z : times (get_or xs i 0) xs ≡ times x xs = ap (λ (y : ℕ). times y xs) e in let o =
    once x in absurd (omega (arith, k, z, o, times_cons x x xs, one_self x))
once_apart (x ∷ xs) (suc i) (suc j) once a b e =
    ap suc (once_apart xs i j (λ f. let o = once f in omega (arith, o, times_cons f x xs))
    (omega arith) (omega arith) e)
