-- Sums of a number of each id, where the numbers of some ids change.
use Rattle.std.proofs.Common.{◌≡◌, ◌≢◌, ℕ, zero, suc, ◌+◌, ◌<◌, ◌≤◌, cond, eqb, refl, ap, arith}
use Rattle.std.specs.List.{sum_by, range_with_len}
use Rattle.neph_runs.specs.Work.{all_ids}
use Rattle.std.proofs.lemmas.Bool.Decides.{eqb_tells}
use Rattle.std.proofs.Common.{inl, inr}
use Rattle.std.proofs.lemmas.List.Sums.{sum_by-cons}

-- two numbers are the same or not
pub same_or : {P : Type 0} (i j : ℕ) → (i ≡ j → P) → (i ≢ j → P) → P
same_or i j f g = elim (eqb_tells i j) [ inl x ↦ f x.1 | inr x ↦ g x.1 ]

pub sum_le : (f g : ℕ → ℕ) (a n : ℕ) → ((j : ℕ) → a ≤ j → j < a + n → g j ≤ f j) → sum_by g (range_with_len a n) ≤ sum_by f (range_with_len a n)
sum_le f g a zero h = omega arith
sum_le f g a (suc n) h =
    let first = h a (omega arith) (omega arith) in
    let rest = sum_le f g (a + 1) n (λ j le lt. h j (omega arith) (omega arith)) in
    omega (arith, sum_by-cons f a (range_with_len (a + 1) n), sum_by-cons g a (range_with_len (a + 1) n), first, rest)

-- where one number changes and the others don't grow
pub sum_one : (f g : ℕ → ℕ) (i a n : ℕ) → a ≤ i → i < a + n → ((j : ℕ) → j ≢ i → g j ≤ f j) → sum_by g (range_with_len a n) + f i ≤ sum_by f (range_with_len a n) + g i
sum_one f g i a zero le lt h = absurd (omega arith)
sum_one f g i a (suc n) le lt h =
    let fc = sum_by-cons f a (range_with_len (a + 1) n) in
    let gc = sum_by-cons g a (range_with_len (a + 1) n) in
    same_or a i
    (λ e.
    let rest = sum_le f g (a + 1) n (λ j low high. h j (λ x. absurd (omega arith))) in
    let fe = ap f e in
    let ge = ap g e in
    omega (arith, fc, gc, rest, fe, ge))
    (λ ne.
    let rest = sum_one f g i (a + 1) n (omega arith) (omega arith) h in
    let here = h a ne in
    omega (arith, fc, gc, rest, here))

-- where one number grows by no more than this
pub sum_most : (f g : ℕ → ℕ) (i k a n : ℕ) → g i ≤ f i + k → ((j : ℕ) → j ≢ i → g j ≤ f j) → sum_by g (range_with_len a n) ≤ sum_by f (range_with_len a n) + k
sum_most f g i k a zero most h = omega arith
sum_most f g i k a (suc n) most h =
    let fc = sum_by-cons f a (range_with_len (a + 1) n) in
    let gc = sum_by-cons g a (range_with_len (a + 1) n) in
    same_or a i
    (λ e.
    let rest = sum_le f g (a + 1) n (λ j low high. h j (λ x. absurd (omega arith))) in
    let fe = ap f e in
    let ge = ap g e in
    omega (arith, fc, gc, rest, fe, ge, most))
    (λ ne.
    let rest = sum_most f g i k (a + 1) n most h in
    let here = h a ne in
    omega (arith, fc, gc, rest, here))

pub ids_le : (f g : ℕ → ℕ) → ((j : ℕ) → j < 64 → g j ≤ f j) → all_ids g ≤ all_ids f
unfolding all_ids
ids_le f g h = sum_le f g 0 64 (λ j le lt. h j (omega arith))

pub ids_one : (f g : ℕ → ℕ) (i : ℕ) → i < 64 → ((j : ℕ) → j ≢ i → g j ≤ f j) → all_ids g + f i ≤ all_ids f + g i
unfolding all_ids
ids_one f g i lt h = sum_one f g i 0 64 (omega arith) (omega arith) h

pub ids_most : (f g : ℕ → ℕ) (i k : ℕ) → g i ≤ f i + k → ((j : ℕ) → j ≢ i → g j ≤ f j) → all_ids g ≤ all_ids f + k
unfolding all_ids
ids_most f g i k most h = sum_most f g i k 0 64 most h

-- Where the numbers of two ids change and the others don't grow: that of the second grows by no more than this.
pub ids_two : (f g : ℕ → ℕ) (i c k : ℕ) → i < 64 → i ≢ c → g c ≤ k → ((j : ℕ) → j ≢ i → j ≢ c → g j ≤ f j) → all_ids g + f i ≤ all_ids f + g i + k
ids_two f g i c k lt ne most h =
    let mid : ℕ → ℕ = λ j. cond (eqb j c) 0 (g j) in
    let off : (j : ℕ) → j ≢ c → mid j ≡ g j = λ j far. elim (eqb_tells j c) as (λ x. mid j ≡ g j) [ inl x ↦ absurd (far x.1) | inr x ↦ ap (λ b. cond b 0 (g j)) x.0 ] in
    let at : mid c ≡ 0 = elim (eqb_tells c c) as (λ x. mid c ≡ 0) [ inl x ↦ ap (λ b. cond b 0 (g c)) x.0 | inr x ↦ absurd (x.1 refl) ] in
    let first = ids_one f mid i lt (λ j far. same_or {P = mid j ≤ f j} j c (λ e. let z = ap mid e in omega (arith, z, at)) (λ x. let o = off j x in let b = h j far x in omega (arith, o, b))) in
    let then = ids_most mid g c k (omega (arith, at, most)) (λ j far. let o = off j far in omega (arith, o)) in
    let here = off i ne in
    omega (arith, first, then, here)
