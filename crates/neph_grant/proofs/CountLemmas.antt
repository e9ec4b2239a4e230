-- How often a page is named, as entries come and go.
use Rattle.std.proofs.Common.{◌≡◌, ◌≢◌, ℕ, ◌+◌, ◌-◌, ◌<◌, ◌≤◌, inl, inr, Bool, true, false, cond, nat_lt, List, [], ◌∷◌, length, get_or, set, replicate, count_by, Option, None, Some, refl, sym, ap, ◌∙◌, arith, eq-eqb, ne_eqb, length-set, zero-add, mul-zero, ◌||◌}
use Rattle.std.specs.List.{list_any}
use Rattle.std.proofs.lemmas.List.{get_or-set_same, get_or-set_other, get_or-replicate, length-replicate}
use Rattle.std.proofs.lemmas.List.Sums.{sum_by-cons, sum_by-set}
use Rattle.std.proofs.lemmas.List.Folds.{sum_by-replicate}
use Rattle.std.proofs.lemmas.Bool.Decides.{nat_tests}
use Rattle.neph_grant.specs.declared.entry.GrantEntry.{GrantEntry}
use Rattle.neph_grant.specs.Uses.{is_of_page, IsCounted}
use Rattle.neph_grant.proofs.SlotLemmas.{same_or_other}

positive : (n : ℕ) → nat_lt 0 (1 + n) ≡ true
positive n = grind (arith, nat_tests)

-- there is one where the count isn't 0
pub any_counted : {X : Type 0} (test : X → Bool) (xs : List X) → nat_lt 0 (count_by test xs) ≡ list_any test xs
any_counted test [] = refl
any_counted test (x ∷ xs) = ap (nat_lt 0) (sum_by-cons (λ y. cond (test y) 1 0) x xs) ∙ elim (test x) as (λ b. nat_lt 0 (cond b 1 0 + count_by test xs) ≡ (b || list_any test xs)) [
  | true ↦ positive (count_by test xs)
  | false ↦ ap (nat_lt 0) (zero-add (count_by test xs)) ∙ any_counted test xs
]

count_none : (p n : ℕ) → count_by (is_of_page p) (replicate n None) ≡ 0
count_none p n = sum_by-replicate (λ o. cond (is_of_page p o) 1 0) n None ∙ mul-zero n

-- no entries, and no uses
pub blank_counted : IsCounted (replicate 64 None) (replicate 1024 0)
blank_counted = record {
  slots = length-replicate {A = Option GrantEntry} 64 None;
  pages = length-replicate {A = ℕ} 1024 0;
  counted = λ p h. get_or-replicate 1024 p 0 0 h ∙ sym (count_none p 64);
}

share : ℕ → Option GrantEntry → ℕ
share p o = cond (is_of_page p o) 1 0

share_yes : (p : ℕ) (e : GrantEntry) → e.pfn ≡ p → share p (Some e) ≡ 1
unfolding share
share_yes p e h = ap (λ b. cond b 1 0) (eq-eqb e.pfn p h)

share_no : (p : ℕ) (e : GrantEntry) → e.pfn ≢ p → share p (Some e) ≡ 0
unfolding share
share_no p e h = ap (λ b. cond b 1 0) (ne_eqb e.pfn p h)

share_none : (p : ℕ) → share p None ≡ 0
unfolding share
share_none p = refl

-- a slot is written
count_set : (p : ℕ) (entries : List (Option GrantEntry)) (r : ℕ) (old new : Option GrantEntry) → r < length entries → get_or entries r None ≡ old
    → count_by (is_of_page p) (set entries r new) + share p old ≡ count_by (is_of_page p) entries + share p new
unfolding share
count_set p entries r old new fit was =
    ap (λ o. count_by (is_of_page p) (set entries r new) + cond (is_of_page p o) 1 0) (sym was) ∙ sum_by-set (λ o. cond (is_of_page p o) 1 0) entries r new None fit

-- an entry comes
pub one_more_use : (entries : List (Option GrantEntry)) (uses : List ℕ) (r p : ℕ) (e : GrantEntry) → IsCounted entries uses → r < 64 → p < 1024 → get_or entries r None ≡ None → e.pfn ≡ p
    → IsCounted (set entries r (Some e)) (set uses p (get_or uses p 0 + 1))
one_more_use entries uses r p e h fit page free is = record {
  slots = length-set entries r (Some e) ∙ h.slots;
  pages = length-set uses p (get_or uses p 0 + 1) ∙ h.pages;
  counted = λ q below. let change = count_set q entries r None (Some e) (omega (arith, h.slots)) free in let was = h.counted q below in elim (same_or_other q p) [
    | inl same ↦ let now = share_yes q e (is ∙ sym same) in
        ap (λ k. get_or (set uses p (get_or uses p 0 + 1)) k 0) same ∙ get_or-set_same uses p (get_or uses p 0 + 1) 0 (omega (arith, h.pages)) ∙ ap (λ k. get_or uses k 0 + 1) (sym same) ∙ omega (arith, change, was, now, share_none q)
    | inr other ↦ let now = share_no q e (λ k. other (sym k ∙ is)) in
        get_or-set_other uses p q (get_or uses p 0 + 1) 0 other ∙ omega (arith, change, was, now, share_none q)
  ];
}

-- an entry that is there counts
pub is_used : (entries : List (Option GrantEntry)) (uses : List ℕ) (r p : ℕ) (e : GrantEntry) → IsCounted entries uses → r < 64 → p < 1024 → get_or entries r None ≡ Some e → e.pfn ≡ p → 1 ≤ get_or uses p 0
is_used entries uses r p e h fit page there is =
    let change = count_set p entries r (Some e) None (omega (arith, h.slots)) there in
    let was = h.counted p page in
    let now = share_yes p e is in
    omega (arith, change, was, now, share_none p)

-- an entry goes
pub one_use_less : (entries : List (Option GrantEntry)) (uses : List ℕ) (r p : ℕ) (e : GrantEntry) → IsCounted entries uses → r < 64 → p < 1024 → get_or entries r None ≡ Some e → e.pfn ≡ p
    → IsCounted (set entries r None) (set uses p (get_or uses p 0 - 1))
one_use_less entries uses r p e h fit page there is = record {
  slots = length-set entries r None ∙ h.slots;
  pages = length-set uses p (get_or uses p 0 - 1) ∙ h.pages;
  counted = λ q below. let change = count_set q entries r (Some e) None (omega (arith, h.slots)) there in let was = h.counted q below in elim (same_or_other q p) [
    | inl same ↦ let now = share_yes q e (is ∙ sym same) in
        ap (λ k. get_or (set uses p (get_or uses p 0 - 1)) k 0) same ∙ get_or-set_same uses p (get_or uses p 0 - 1) 0 (omega (arith, h.pages)) ∙ ap (λ k. get_or uses k 0 - 1) (sym same) ∙ omega (arith, change, was, now, share_none q)
    | inr other ↦ let now = share_no q e (λ k. other (sym k ∙ is)) in
        get_or-set_other uses p q (get_or uses p 0 - 1) 0 other ∙ omega (arith, change, was, now, share_none q)
  ];
}
