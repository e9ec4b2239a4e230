-- Lists that the start of a machine makes piece by piece.
use Rattle.std.proofs.Common.{◌≡◌, ℕ, Bool, false, zero, suc, ◌+◌, ◌-◌, ◌≤◌, ◌<◌, length, drop, drop-cons, sum_by, List, [], ◌∷◌, ◌++◌, replicate, sym, ap, ◌∙◌, arith, append_assoc}
use Rattle.std.specs.List.{range_with_len}
use Rattle.std.proofs.lemmas.List.{replicate_more}
use Rattle.std.proofs.lemmas.List.Sums.{sum_by-append, sum_by-cons}
use Rattle.neph_model.specs.declared.script.Start.{Start}
use Rattle.neph_model.specs.Machine.{Exposed}
use Rattle.neph_model.specs.Start.{of_starts, start_exposed}
use Rattle.neph_model.specs.Births.{none_alone}

range_on : (a n : ℕ) → range_with_len a (suc n) ≡ range_with_len a n ++ (a + n) ∷ []
range_on a zero = let k : a + 0 ≡ a = omega arith in ap (λ m. m ∷ []) (sym k)
range_on a (suc n) = let k : a + 1 + n ≡ a + suc n = omega arith in ap (λ (xs : List ℕ). a ∷ xs) (range_on (a + 1) n ∙ ap (λ m. range_with_len (a + 1) n ++ m ∷ []) k)

pub range_more : (n : ℕ) → range_with_len 0 (n + 1) ≡ range_with_len 0 n ++ n ∷ []
range_more n =
    let k : n + 1 ≡ suc n = omega arith in
    let z : 0 + n ≡ n = omega arith in
    ap (range_with_len 0) k ∙ range_on 0 n ∙ ap (λ m. range_with_len 0 n ++ m ∷ []) z

pub one_none_more : {A : Type 0} (xs all : List A) (x y : A) (low n : ℕ) → low ≤ n → xs ≡ x ∷ (all ++ replicate (n - low) y) → xs ++ y ∷ [] ≡ x ∷ (all ++ replicate (n + 1 - low) y)
one_none_more {A = A} xs all x y low n le is =
    let k : n + 1 - low ≡ (n - low) + 1 = omega arith in
    rw (is, k) (ap (λ (ys : List A). x ∷ ys) (append_assoc all (replicate (n - low) y) (y ∷ []) ∙ ap (λ (ys : List A). all ++ ys) (replicate_more (n - low) y)))

pub four_more : {A : Type 0} (xs : List A) (a b c d y : A) (n : ℕ) → 4 ≤ n → xs ≡ a ∷ b ∷ c ∷ d ∷ replicate (n - 4) y → xs ++ y ∷ [] ≡ a ∷ b ∷ c ∷ d ∷ replicate (n + 1 - 4) y
four_more {A = A} xs a b c d y n le is =
    let k : n + 1 - 4 ≡ (n - 4) + 1 = omega arith in
    rw (is, k) (ap (λ (ys : List A). a ∷ b ∷ c ∷ d ∷ ys) (replicate_more (n - 4) y))

-- one more that isn't known to be alone
pub false_more : (alone list new : List Bool) (i : ℕ) → i < length alone → new ≡ list ++ false ∷ [] → list ++ none_alone (drop i alone) ≡ none_alone alone → new ++ none_alone (drop (i + 1) alone) ≡ none_alone alone
false_more alone list new i lt e h =
    let k : i + 1 ≡ suc i = omega arith in
    let cut : none_alone (drop i alone) ≡ false ∷ none_alone (drop (suc i) alone) = ap none_alone (drop-cons alone i false lt) in
    rw (e, k) (append_assoc list (false ∷ []) (none_alone (drop (suc i) alone)) ∙ ap (λ (xs : List Bool). list ++ xs) (sym cut) ∙ h)

-- a sum over the first numbers, and one more
pub sum_more : (f : ℕ → ℕ) (n : ℕ) → sum_by f (range_with_len 0 (n + 1)) ≡ sum_by f (range_with_len 0 n) + f n
sum_more f n = ap (sum_by f) (range_more n) ∙ sum_by-append f (range_with_len 0 n) (n ∷ []) ∙ ap (λ k. sum_by f (range_with_len 0 n) + k) (sum_by-cons f n [] ∙ one (f n)) where
  one : (k : ℕ) → k + sum_by f [] ≡ k
  one k = omega arith

-- one more starting domain with its exposed pages
pub exposed_more : (starts : List Start) (list new all : List Exposed) (i : ℕ) → i < length starts → new ≡ list ++ start_exposed ∷ [] → list ++ of_starts (λ n t. start_exposed) (i + 1) (drop i starts) ≡ all → new ++ of_starts (λ n t. start_exposed) (i + 1 + 1) (drop (i + 1) starts) ≡ all
exposed_more starts list new all i lt e h =
    let none : Start = record { program = 0; pages = 0; limit = 0 } in
    let k : i + 1 ≡ suc i = omega arith in
    let rest : List Exposed = of_starts (λ n t. start_exposed) (i + 1 + 1) (drop (suc i) starts) in
    let cut : of_starts (λ n t. start_exposed) (i + 1) (drop i starts) ≡ start_exposed ∷ rest = ap (of_starts (λ n t. start_exposed) (i + 1)) (drop-cons starts i none lt) in
    let same : drop (i + 1) starts ≡ drop (suc i) starts = ap (λ n. drop n starts) k in
    ap (λ (ts : List Start). new ++ of_starts (λ n t. start_exposed) (i + 1 + 1) ts) same ∙ ap (λ (xs : List Exposed). xs ++ rest) e ∙ append_assoc list (start_exposed ∷ []) rest ∙ ap (λ (xs : List Exposed). list ++ xs) (sym cut) ∙ h
