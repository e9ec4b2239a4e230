-- How many leaf tables the list of an own half has.
use Rattle.std.proofs.Common.{◌≡◌, ◌≢◌, ◌<◌, ◌+◌, ◌==◌, ◌||◌, ◌⊎◌, inl, inr, if◌then◌else◌, ℕ, zero, suc, Bool, true, false, List, [], ◌∷◌, length, is_some, refl, sym, ap, ◌∙◌, arith, eq-eqb, ne_eqb}
use Rattle.std.specs.declared.option.Option.{Option}
use Rattle.std.specs.Ordering.{nat_cmp}
use Rattle.std.specs.FinMap as map
use Rattle.neph_model.specs.declared.memory.Mapping.{Mapping}
use Rattle.neph_pool.specs.declared.entry.Entry.{Entry}
use Rattle.neph_pool.specs.Handing.{is_among, AreDistinct}
use Rattle.neph_pool.specs.World.{World}
use Rattle.neph_pool.proofs.Rows.{same_or_not}
use Rattle.neph_ptab.specs.Tables.{leaf_at}
use Rattle.neph_memory.specs.declared.dom_local.DomLocal.{DomLocal}
use Rattle.neph_memory.specs.Memory.{leaf_count_below}
use Rattle.neph_memory.specs.Domains.{domain_leaf, domain_leaf_count}
use Rattle.neph_memory.specs.OwnHalf.{IsMemoryOf}

abbrev bit : Bool → ℕ
bit b = if b then 1 else 0

-- how many numbers below n pass
unfoldable passing : (ℕ → Bool) → ℕ → ℕ
passing b zero = 0
passing b (suc n) = bit (b n) + passing b n

passing_next : (b : ℕ → Bool) (n : ℕ) → passing b (suc n) ≡ bit (b n) + passing b n
unfolding passing
passing_next b n = refl

passing_same : (b c : ℕ → Bool) (n : ℕ) → ((g : ℕ) → g < n → c g ≡ b g) → passing c n ≡ passing b n
unfolding passing
passing_same b c zero h = refl
passing_same b c (suc n) h = ap (λ (k : ℕ). k + passing c n) (ap bit (h n (omega arith))) ∙ ap (λ (k : ℕ). bit (b n) + k) (passing_same b c n (λ g lt. h g (omega (arith, lt))))

passing_none : (b : ℕ → Bool) (n : ℕ) → ((g : ℕ) → b g ≡ false) → passing b n ≡ 0
unfolding passing
passing_none b zero h = refl
passing_none b (suc n) h = ap (λ (k : ℕ). k + passing b n) (ap bit (h n)) ∙ (let up = passing_none b n h in omega (arith, up))

-- one number more
passing_more : (b c : ℕ → Bool) (x n : ℕ) → x < n → b x ≡ false → c x ≡ true → ((g : ℕ) → g ≢ x → c g ≡ b g) → passing c n ≡ suc (passing b n)
passing_more b c x zero lt l t h = absurd (omega (arith, lt))
passing_more b c x (suc n) lt l t h = by_case (same_or_not n x) (λ k. passing_more b c x n k l t h) where
  by_case : (n ≡ x) ⊎ (n ≢ x) → (x < n → passing c n ≡ suc (passing b n)) → passing c (suc n) ≡ suc (passing b (suc n))
  by_case (inl e) up =
      let one : bit (c n) ≡ 1 = ap (λ (k : ℕ). bit (c k)) e ∙ ap bit t in
      let none : bit (b n) ≡ 0 = ap (λ (k : ℕ). bit (b k)) e ∙ ap bit l in
      let rest : passing c n ≡ passing b n = passing_same b c n (λ g less. h g (λ s. omega (arith, s, less, e))) in
      let after = passing_next c n in
      let before = passing_next b n in
      omega (arith, one, none, rest, after, before)
  by_case (inr d) up =
      let same : bit (c n) ≡ bit (b n) = ap bit (h n d) in
      let rest = up (omega (arith, lt, d)) in
      let after = passing_next c n in
      let before = passing_next b n in
      omega (arith, same, rest, after, before)

or_right : (b c : Bool) → c ≡ true → (b || c) ≡ true
or_right true c e = refl
or_right false c e = e

-- a list of different numbers below n
distinct_count : (xs : List ℕ) (n : ℕ) → AreDistinct xs → ((g : ℕ) → is_among g xs ≡ true → g < n) → passing (λ g. is_among g xs) n ≡ length xs
distinct_count [] n d low = passing_none (λ g. is_among g []) n (λ g. refl)
distinct_count (x ∷ xs) n d low =
    let here : is_among x (x ∷ xs) ≡ true = ap (λ (b : Bool). b || is_among x xs) (eq-eqb x x refl) in
    passing_more (λ g. is_among g xs) (λ g. is_among g (x ∷ xs)) x n (low x here) d.0 here (λ g k. ap (λ (b : Bool). b || is_among g xs) (ne_eqb x g (λ e. k (sym e))))
    ∙ ap suc (distinct_count xs n d.1 (λ g m. low g (or_right (x == g) (is_among g xs) m)))

below_passing : (es : List (Option Entry)) (root n : ℕ) → leaf_count_below es root n ≡ passing (λ g. is_some (leaf_at es root g)) n
unfolding leaf_count_below passing
below_passing es root zero = refl
below_passing es root (suc n) = ap (λ (k : ℕ). bit (is_some (leaf_at es root n)) + k) (below_passing es root n)

module _ {Pool Seat : Type 0} (W : World Pool Seat) (p : Pool) (d : DomLocal Pool Seat) (pages : List (Option (List ℕ))) (vmap : map.FinMap nat_cmp Mapping) (leaves : List ℕ) where
  -- they are as many as the domain has
  pub leaves_counted : IsMemoryOf W p d pages vmap leaves → length leaves ≡ domain_leaf_count W p d
  leaves_counted m =
      sym (distinct_count leaves 512 m.once m.low)
      ∙ passing_same (λ g. is_some (domain_leaf W p d g)) (λ g. is_among g leaves) 512 m.group
      ∙ sym (below_passing (W.entries p d.seat) d.tables.root 512)
