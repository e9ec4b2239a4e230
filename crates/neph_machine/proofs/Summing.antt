-- Sums over the ids, and lists that have one thing for each id.
use Rattle.std.proofs.Common.{◌≡◌, ◌≢◌, ℕ, zero, suc, ◌+◌, ◌<◌, ◌≤◌, ◌==◌, ◌⊎◌, inl, inr, List, [], ◌∷◌, length, map, get_or, refl, sym, ap, ◌∙◌, arith, if◌then◌else◌, eq-eqb, ne_eqb}
use Rattle.std.specs.List.{sum_by, range_with_len}
use Rattle.std.proofs.lemmas.List.Sums.{sum_by-cons}
use Rattle.neph_accounts.proofs.Sums.{swap, sum_none, same_in}
use Rattle.neph_accounts.proofs.Times.{same_or_not}

-- what stands in the place of a number, and past the end
pub at_place : {A : Type 0} (g : ℕ → A) (a n i : ℕ) (d : A) → i < n
    → get_or (map g (range_with_len a n)) i d ≡ g (a + i)
at_place g a zero i d lt = absurd (omega arith)
at_place g a (suc n) zero d lt = ap g (omega arith)
at_place g a (suc n) (suc i) d lt = at_place g (a + 1) n i d (omega arith) ∙ ap g (omega arith)

pub past_place : {A : Type 0} (g : ℕ → A) (a n i : ℕ) (d : A) → n ≤ i
    → get_or (map g (range_with_len a n)) i d ≡ d
past_place g a zero i d le = refl
past_place g a (suc n) zero d le = absurd (omega arith)
past_place g a (suc n) (suc i) d le = past_place g (a + 1) n i d (omega arith)

pub range_long : {A : Type 0} (g : ℕ → A) (a n : ℕ) → length (map g (range_with_len a n)) ≡ n
range_long g a zero = refl
range_long g a (suc n) = ap suc (range_long g (a + 1) n)

pub map_twice : {A B C : Type 0} (g : B → C) (h : A → B) (xs : List A)
    → map g (map h xs) ≡ map (λ x. g (h x)) xs
map_twice g h [] = refl
map_twice g h (x ∷ xs) = ap (λ (ys : List _). g (h x) ∷ ys) (map_twice g h xs)

pub past_end : {A : Type 0} (xs : List A) (i : ℕ) (d : A) → length xs ≤ i → get_or xs i d ≡ d
past_end [] i d le = refl
past_end (x ∷ xs) zero d le = absurd (omega arith)
past_end (x ∷ xs) (suc i) d le = past_end xs i d (omega arith)

pub sum_map : {A B : Type 0} (g : B → ℕ) (h : A → B) (xs : List A)
    → sum_by g (map h xs) ≡ sum_by (λ x. g (h x)) xs
sum_map g h [] = refl
sum_map {A} {B} g h (x ∷ xs) = omega (
  arith,
  sum_map g h xs,
  sum_by-cons g (h x) (map h xs),
  sum_by-cons (λ (y : A). g (h y)) x xs,
)

-- a sum with no term, and one with a single term
all_none : (g : ℕ → ℕ) (a n : ℕ) → ((i : ℕ) → a ≤ i → i < a + n → g i ≡ 0)
    → sum_by g (range_with_len a n) ≡ 0
all_none g a n none = same_in g (λ i. 0) a n none ∙ sum_none (range_with_len a n)

single_from : (a n k : ℕ) (g : ℕ → ℕ) → a ≤ k → k < a + n
    → ((i : ℕ) → i < a + n → i ≢ k → g i ≡ 0) → sum_by g (range_with_len a n) ≡ g k
single_from a zero k g le lt none = absurd (omega arith)
single_from a (suc n) k g le lt none = elim (same_or_not a k) [
  | inl e ↦
      (let rest = all_none g (a + 1) n (λ i low high. none i (omega arith) (λ q. omega (arith, q, e))) in
      let first : g a ≡ g k = ap g e in
      omega (arith, rest, first, sum_by-cons g a (range_with_len (a + 1) n)))
  | inr ne ↦
      (let first = none a (omega arith) ne in
      let low : a + 1 ≤ k = above ne le in
      omega (
        arith,
        first,
        single_from (a + 1) n k g low (omega arith) (λ i l q. none i (omega arith) q),
        sum_by-cons g a (range_with_len (a + 1) n),
      ))
] where
  above : {a k : ℕ} → a ≢ k → a ≤ k → a + 1 ≤ k
  above {a} {k} ne le = by a k ne le where
    by : (a k : ℕ) → a ≢ k → a ≤ k → a + 1 ≤ k
    by zero zero ne le = absurd (ne refl)
    by zero (suc k) ne le = omega arith
    by (suc a) zero ne le = absurd (omega arith)
    by (suc a) (suc k) ne le = omega (arith, by a k (λ e. ne (ap suc e)) (omega arith))

pub sum_single : (n k : ℕ) (g : ℕ → ℕ) → k < n → ((i : ℕ) → i < n → i ≢ k → g i ≡ 0)
    → sum_by g (range_with_len 0 n) ≡ g k
sum_single n k g lt none =
    single_from 0 n k g (omega arith) (omega arith) (λ i l q. none i (omega arith) q)

-- a number of the first of some ids
abbrev pub of_first : (ℕ → ℕ) → List ℕ → ℕ
of_first g [] = 0
of_first g (c ∷ cs) = g c

abbrev hit : (ℕ → ℕ) → List ℕ → ℕ → ℕ
hit g [] c = 0
hit g (x ∷ xs) c = if x == c then g c else 0

hit_none : (g : ℕ → ℕ) (xs : List ℕ) (c : ℕ) → g c ≡ 0 → hit g xs c ≡ 0
hit_none g [] c z = refl
hit_none g (x ∷ xs) c z = elim (same_or_not x c) [
  | inl e ↦ rw (eq-eqb x c e) z
  | inr n ↦ rw (ne_eqb x c n) refl
]

hit_here : (g : ℕ → ℕ) (c : ℕ) → hit g (c ∷ []) c ≡ g c
hit_here g c = rw (eq-eqb c c refl) refl

hit_else : (g : ℕ → ℕ) (x c : ℕ) → x ≢ c → hit g (x ∷ []) c ≡ 0
hit_else g x c n = rw (ne_eqb x c n) refl

-- Some ids below n have one child below n, whose parent each is. A number of the children is a sum
-- over the parents, where those that are no child have 0.
module _ (n : ℕ) (g : ℕ → ℕ) (b : ℕ → List ℕ) (parent : ℕ → ℕ)
    (has : (id : ℕ) → id < n
    → (b id ≡ []) ⊎ ((c : ℕ) × (c < n) × (b id ≡ c ∷ []) × (parent c ≡ id)))
    (is : (c : ℕ) → c < n → (g c ≡ 0) ⊎ ((parent c < n) × (b (parent c) ≡ c ∷ []))) where
  of_parent : (id : ℕ) → id < n → of_first g (b id) ≡ sum_by (hit g (b id)) (range_with_len 0 n)
  of_parent id lt = elim (has id lt) [
    | inl e ↦ rw e (sym (sum_none (range_with_len 0 n)))
    | inr t ↦
        (let e = t.2 in
        rw e (sym (sum_single n t.0 (hit g (t.0 ∷ [])) t.1 (λ i l q. hit_else g t.0 i (λ s. q (sym s)))
        ∙ hit_here g t.0)))
  ]

  apart_hit : (c id : ℕ) → id < n → id ≢ parent c → hit g (b id) c ≡ 0
  apart_hit c id lt ne = elim (has id lt) [
    | inl e ↦ ap (λ (xs : List ℕ). hit g xs c) e
    | inr t ↦ ap (λ (xs : List ℕ). hit g xs c) t.2
        ∙ hit_else g t.0 c (λ s. ne (sym t.3 ∙ ap parent s))
  ]

  of_child : (c : ℕ) → c < n → sum_by (λ id. hit g (b id) c) (range_with_len 0 n) ≡ g c
  of_child c lt = elim (is c lt) [
    | inl z ↦ all_none (λ id. hit g (b id) c) 0 n (λ id low high. hit_none g (b id) c z) ∙ sym z
    | inr t ↦ sum_single n (parent c) (λ id. hit g (b id) c) t.0 (λ id l ne. apart_hit c id l ne)
        ∙ ap (λ (xs : List ℕ). hit g xs c) t.1 ∙ hit_here g c
  ]

  pub by_parents : sum_by (λ id. of_first g (b id)) (range_with_len 0 n)
      ≡ sum_by g (range_with_len 0 n)
  by_parents =
      same_in _ (λ id. sum_by (hit g (b id)) (range_with_len 0 n)) 0 n (λ id low lt. of_parent id (omega arith))
      ∙ swap (λ c id. hit g (b id) c) (range_with_len 0 n) (range_with_len 0 n)
      ∙ same_in _ g 0 n (λ c low lt. of_child c (omega arith))
