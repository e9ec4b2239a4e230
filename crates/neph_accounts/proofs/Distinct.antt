-- A list has as many different numbers as the list of what they are mapped to, where no two are
-- mapped to one.
use Rattle.std.proofs.Common.{◌≡◌, ℕ, zero, suc, ◌+◌, ◌<◌, inl, inr, nat_lt, List, [], ◌∷◌, ◌++◌, map, refl, sym, ap, ◌∙◌, arith}
use Rattle.std.specs.List.{sum_by, range_with_len, concat}
use Rattle.std.proofs.lemmas.List.{map-append}
use Rattle.neph_accounts.specs.Holdings.{times}
use Rattle.neph_accounts.specs.Places.{frames_with}
use Rattle.neph_accounts.proofs.Times.{one_at, one_self, one_else, same_or_not, times_cons, times_head}
use Rattle.neph_accounts.proofs.Sums.{sum_plus, sum_none, same_in, one_in}
use Rattle.neph_accounts.proofs.Frames.{bit, some_bit, none_bit}

-- how many different numbers below n are in the list
abbrev kinds : ℕ → List ℕ → ℕ
kinds n xs = frames_with n (λ f. times f xs)

new_at : (x f : ℕ) (xs : List ℕ) → times x xs ≡ 0
    → bit (nat_lt 0 (times f (x ∷ xs))) ≡ bit (nat_lt 0 (times f xs)) + one_at x f
new_at x f xs none = elim (same_or_not x f) [
  | inl e ↦
      (let z : times f xs ≡ 0 = ap (λ (k : ℕ). times k xs) (sym e) ∙ none in
      let o : one_at x f ≡ 1 = ap (λ (k : ℕ). one_at k f) e ∙ one_self f in
      omega (
        arith,
        o,
        none_bit (times f xs) z,
        some_bit (times f (x ∷ xs))
            (omega (arith, o, times_cons f x xs)),
      ))
  | inr n ↦ (let o = one_else x f n in let z : times f (x ∷ xs) ≡ times f xs =
      omega (arith, o, times_cons f x xs) in omega (arith, o, ap (λ (k : ℕ). bit (nat_lt 0 k)) z))
]

old_at : (x f : ℕ) (xs : List ℕ) → 0 < times x xs
    → bit (nat_lt 0 (times f (x ∷ xs))) ≡ bit (nat_lt 0 (times f xs))
old_at x f xs some = elim (same_or_not x f) [
  | inl e ↦ (let z : 0 < times f xs = rw e at some in
      some_bit (times f (x ∷ xs)) (omega (arith, z, times_cons f x xs))
      ∙ sym (some_bit (times f xs) z))
  | inr n ↦ (let z : times f (x ∷ xs) ≡ times f xs =
      omega (arith, one_else x f n, times_cons f x xs) in ap (λ (k : ℕ). bit (nat_lt 0 k)) z)
]

-- one more number is of a new kind or of an old one
new_kind : (n x : ℕ) (xs : List ℕ) → x < n → times x xs ≡ 0 → kinds n (x ∷ xs) ≡ kinds n xs + 1
unfolding frames_with
new_kind n x xs lt none =
    let fs : List ℕ = range_with_len 0 n in
    let cut : kinds n (x ∷ xs) ≡ sum_by (λ f. bit (nat_lt 0 (times f xs)) + one_at x f) fs =
    same_in (λ f. bit (nat_lt 0 (times f (x ∷ xs))))
    (λ f. bit (nat_lt 0 (times f xs)) + one_at x f) 0 n (λ f le l. new_at x f xs none) in
    omega (
      arith,
      cut,
      sum_plus (λ f. bit (nat_lt 0 (times f xs))) (λ f. one_at x f) fs,
      one_in x 0 n (omega arith) (omega arith),
    )

old_kind : (n x : ℕ) (xs : List ℕ) → 0 < times x xs → kinds n (x ∷ xs) ≡ kinds n xs
unfolding frames_with
old_kind n x xs some =
    same_in (λ f. bit (nat_lt 0 (times f (x ∷ xs))))
    (λ f. bit (nat_lt 0 (times f xs))) 0 n (λ f le l. old_at x f xs some)

no_kind : (n : ℕ) → kinds n [] ≡ 0
unfolding frames_with
no_kind n = same_in (λ f. bit (nat_lt 0 0)) (λ f. 0) 0 n (λ f le l. refl)
    ∙ sum_none (range_with_len 0 n)

-- what maps the numbers of this list apart from this one
abbrev pub IsApartAt : (ℕ → ℕ) → ℕ → List ℕ → Type 0
IsApartAt φ c xs = (d : ℕ) → 0 < times d xs → φ d ≡ φ c → d ≡ c

-- a number is as often there as what it is mapped to
pub times_map : (φ : ℕ → ℕ) (c : ℕ) (xs : List ℕ) → IsApartAt φ c xs
    → times (φ c) (map φ xs) ≡ times c xs
times_map φ c [] h = refl
times_map φ c (x ∷ xs) h =
    let rest = times_map φ c xs (λ d lt. h d (omega (arith, times_cons d x xs))) in
    let one : one_at (φ x) (φ c) ≡ one_at x c = elim (same_or_not x c) [
      | inl e ↦ ap (λ (k : ℕ). one_at k (φ c)) (ap φ e) ∙ one_self (φ c)
          ∙ sym (ap (λ (k : ℕ). one_at k c) e ∙ one_self c)
      | inr n ↦ one_else (φ x) (φ c) (λ same. n (h x (times_head x xs) same)) ∙ sym (one_else x c n)
    ] in
    omega (arith, rest, one, times_cons (φ c) (φ x) (map φ xs), times_cons c x xs)

pub kinds_map : (φ : ℕ → ℕ) (n k : ℕ) (xs : List ℕ) → ((c : ℕ) → 0 < times c xs → c < n)
    → ((f : ℕ) → 0 < times f (map φ xs) → f < k) → ((c : ℕ) → 0 < times c xs → IsApartAt φ c xs)
    → kinds k (map φ xs) ≡ kinds n xs
kinds_map φ n k [] small fits apart = no_kind k ∙ sym (no_kind n)
kinds_map φ n k (x ∷ xs) small fits apart =
    let more : (c : ℕ) → 0 < times c xs → 0 < times c (x ∷ xs) =
    λ c lt. omega (arith, times_cons c x xs) in
    by (times x xs) refl
    (kinds_map φ n k xs (λ c lt. small c (more c lt))
    (λ f lt. fits f (omega (arith, times_cons f (φ x) (map φ xs))))
    (λ c lt d l e. apart c (more c lt) d (more d l) e))
    (times_map φ x xs (λ d lt e. apart x (times_head x xs) d (more d lt) e))
  where
    by : (t : ℕ) → times x xs ≡ t → kinds k (map φ xs) ≡ kinds n xs
        → times (φ x) (map φ xs) ≡ times x xs → kinds k (φ x ∷ map φ xs) ≡ kinds n (x ∷ xs)
    by zero e r s =
        omega (
          arith,
          r,
          new_kind n x xs (small x (times_head x xs)) e,
          new_kind k (φ x) (map φ xs)
              (fits (φ x) (times_head (φ x) (map φ xs))) (s ∙ e),
        )
    by (suc t) e r s =
        omega (
          arith,
          r,
          old_kind n x xs (omega (arith, e)),
          old_kind k (φ x) (map φ xs)
              (omega (arith, s, e)),
        )

-- lists one behind another, mapped
pub concat_map : {A : Type 0} (φ : ℕ → ℕ) (g : A → List ℕ) (xs : List A)
    → concat (map (λ x. map φ (g x)) xs) ≡ map φ (concat (map g xs))
concat_map φ g [] = refl
concat_map φ g (x ∷ xs) = ap (λ (zs : List ℕ). map φ (g x) ++ zs) (concat_map φ g xs)
    ∙ sym (map-append φ (g x) (concat (map g xs)))

-- the same counts
pub same_kinds : (n : ℕ) (f g : ℕ → ℕ) → ((k : ℕ) → f k ≡ g k) → frames_with n f ≡ frames_with n g
same_kinds n f g e = let same : f ≡ g = λ i k. e k i in ap (frames_with n) same

-- counts that are some at the same numbers
pub some_kinds : (n : ℕ) (f g : ℕ → ℕ) → ((k : ℕ) → 0 < f k → 0 < g k)
    → ((k : ℕ) → 0 < g k → 0 < f k) → frames_with n f ≡ frames_with n g
unfolding frames_with
some_kinds n f g to from =
    same_in (λ k. bit (nat_lt 0 (f k)))
    (λ k. bit (nat_lt 0 (g k))) 0 n (λ k le lt. by (f k) (g k) (to k) (from k)) where
      by : (a b : ℕ) → (0 < a → 0 < b) → (0 < b → 0 < a) → bit (nat_lt 0 a) ≡ bit (nat_lt 0 b)
      by zero zero h k = refl
      by zero (suc b) h k = absurd (let z = k (omega arith) in omega arith)
      by (suc a) b h k = some_bit (suc a) (omega arith) ∙ sym (some_bit b (h (omega arith)))
