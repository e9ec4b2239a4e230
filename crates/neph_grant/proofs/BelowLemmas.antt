-- Numbers below a bound that pass a test.
use Rattle.std.proofs.Common.{◌≡◌, ℕ, zero, suc, ◌+◌, ◌<◌, ◌≤◌, inl, inr, Bool, true, false, cond, ◌||◌, None, Some, refl, sym, ap, ◌∙◌, arith}
use Rattle.std.specs.List.{list_any, find, range_with_len}
use Rattle.neph_grant.specs.Below.{some_below, least_below}
use Rattle.neph_grant.proofs.SlotLemmas.{same_or_other}

-- a number from a on, of which there are n, passes
abbrev Passes : (ℕ → Bool) → ℕ → ℕ → Type 0
Passes test a n = (k : ℕ) × (a ≤ k) × (k < a + n) × (test k ≡ true)

some_from : (test : ℕ → Bool) (a n : ℕ) → list_any test (range_with_len a n) ≡ true → Passes test a n
some_from test a zero e = absurd (cc)
some_from test a (suc n) e = elim (test a) as (λ b. test a ≡ b → (b || list_any test (range_with_len (a + 1) n)) ≡ true → Passes test a (suc n)) [
  | true ↦ λ t is. (a, omega arith, omega arith, t)
  | false ↦ λ t is. let p = some_from test (a + 1) n is in (p.0, omega (arith, p.1), omega (arith, p.2), p.3)
] refl e

some_passes : (test : ℕ → Bool) (a n k : ℕ) → a ≤ k → k < a + n → test k ≡ true → list_any test (range_with_len a n) ≡ true
some_passes test a zero k low high t = absurd (omega arith)
some_passes test a (suc n) k low high t = elim (same_or_other k a) [
  | inl e ↦ ap (λ b. b || list_any test (range_with_len (a + 1) n)) (ap test (sym e) ∙ t)
  | inr other ↦ elim (test a) as (λ b. (b || list_any test (range_with_len (a + 1) n)) ≡ true) [
    | true ↦ refl
    | false ↦ some_passes test (a + 1) n k (omega (arith, other)) (omega arith) t
  ]
]

-- the least number from a on that passes is k
abbrev IsLeast : (ℕ → Bool) → ℕ → ℕ → Type 0
IsLeast test a k = (test k ≡ true) × ((j : ℕ) → a ≤ j → j < k → test j ≡ false)

least_found : (test : ℕ → Bool) (a n k : ℕ) → find test (range_with_len a n) ≡ Some k → IsLeast test a k
least_found test a zero k e = absurd (cc)
least_found test a (suc n) k e = elim (test a) as (λ b. test a ≡ b → cond b (Some a) (find test (range_with_len (a + 1) n)) ≡ Some k → IsLeast test a k) [
  | true ↦ λ t is. let same : a ≡ k = cc in (ap test (sym same) ∙ t, λ j low high. absurd (omega (arith, same)))
  | false ↦ λ t is. let l = least_found test (a + 1) n k is in (
    l.0,
    λ j low high. elim (same_or_other j a) [
      | inl e ↦ ap test e ∙ t
      | inr other ↦ l.1 j (omega (arith, other)) high
    ],
  )
] refl e

none_found : (test : ℕ → Bool) (a n : ℕ) → find test (range_with_len a n) ≡ None → (j : ℕ) → a ≤ j → j < a + n → test j ≡ false
none_found test a zero e j low high = absurd (omega arith)
none_found test a (suc n) e j low high = elim (test a) as (λ b. test a ≡ b → cond b (Some a) (find test (range_with_len (a + 1) n)) ≡ None → test j ≡ false) [
  | true ↦ λ t is. absurd (cc)
  | false ↦ λ t is. elim (same_or_other j a) [
    | inl e ↦ ap test e ∙ t
    | inr other ↦ none_found test (a + 1) n is j (omega (arith, other)) (omega arith)
  ]
] refl e

pub some_below_true : (n : ℕ) (test : ℕ → Bool) → some_below n test ≡ true → (k : ℕ) × (k < n) × (test k ≡ true)
unfolding some_below
some_below_true n test e = let p = some_from test 0 n e in (p.0, omega (arith, p.2), p.3)

pub some_below_at : (n : ℕ) (test : ℕ → Bool) (k : ℕ) → k < n → test k ≡ true → some_below n test ≡ true
unfolding some_below
some_below_at n test k h t = some_passes test 0 n k (omega arith) (omega arith) t

pub least_below_some : (n : ℕ) (test : ℕ → Bool) (k : ℕ) → least_below n test ≡ Some k → (test k ≡ true) × ((j : ℕ) → j < k → test j ≡ false)
unfolding least_below
least_below_some n test k e = let l = least_found test 0 n k e in (l.0, λ j h. l.1 j (omega arith) h)

pub least_below_none : (n : ℕ) (test : ℕ → Bool) → least_below n test ≡ None → (j : ℕ) → j < n → test j ≡ false
unfolding least_below
least_below_none n test e j h = none_found test 0 n e j (omega arith) (omega arith)
