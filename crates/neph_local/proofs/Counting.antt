-- How many pages of a fork are still to be shared.
use Rattle.std.proofs.Common.{◌≡◌, ◌≢◌, ◌<◌, ◌≤◌, ◌+◌, ◌-◌, ◌&&◌, ◌⊎◌, inl, inr, nat_lt, ℕ, zero, suc, Bool, true, false, cond, List, length, is_some, Some, None, IsSome, refl, sym, ap, ◌∙◌, arith, ne_eqb}
use Rattle.std.specs.Prelude.{not, count_by}
use Rattle.std.specs.List.{range_with_len}
use Rattle.std.specs.declared.option.Option.{Option}
use Rattle.std.proofs.lemmas.List.Sums.{sum_by-cons}
use Rattle.neph_model.specs.declared.own.Own.{Own as Half}
use Rattle.neph_model.specs.Own.{page_of}
use Rattle.neph_model.specs.Books.{goes_shared, shared_count}
use Rattle.neph_pool.specs.declared.entry.Entry.{Entry}
use Rattle.neph_pool.specs.World.{World}
use Rattle.neph_memory.specs.declared.dom_local.DomLocal.{DomLocal}
use Rattle.neph_memory.specs.Pages.{frame_at}
use Rattle.neph_memory.specs.Memory.{bytes_for}
use Rattle.neph_memory.specs.OwnHalf.{IsMemoryOf}
use Rattle.neph_memory.proofs.Places.{some_small}
use Rattle.neph_local.specs.Forks.{IsNextPage, NoPageLeft}
use Rattle.neph_local.proofs.Sprouted.{frame_past}
use Rattle.neph_local.proofs.Tabling.{none_is}
use Rattle.neph_pool.proofs.Rows.{same_or_not}
use Rattle.std.proofs.lemmas.Bool.{ltb-true, ltb-false}

-- how many pages from the page `next` on a clone lets share a frame
abbrev pub left_to_share : Half → ℕ → ℕ
left_to_share o next = count_by (goes_shared o) (range_with_len next (length o.pages - next))

abbrev test : (ℕ → Bool) → ℕ → ℕ
test f n = cond (f n) 1 0

count_next : (f : ℕ → Bool) (a n : ℕ) (b : Bool) → f a ≡ b → count_by f (range_with_len a (suc n)) ≡ cond b 1 0 + count_by f (range_with_len (a + 1) n)
count_next f a n b e = sum_by-cons (test f) a (range_with_len (a + 1) n) ∙ ap (λ (t : Bool). cond t 1 0 + count_by f (range_with_len (a + 1) n)) e

count_none : (f : ℕ → Bool) (a n : ℕ) → ((q : ℕ) → a ≤ q → f q ≡ false) → count_by f (range_with_len a n) ≡ 0
count_none f a zero h = refl
count_none f a (suc n) h = count_next f a n false (h a (omega arith)) ∙ (let up = count_none f (a + 1) n (λ q l. h q (omega (arith, l))) in omega (arith, up))

one_more : (n : ℕ) → 1 + n ≡ suc n
one_more n = omega arith

none_more : (n : ℕ) → 0 + n ≡ n
none_more n = omega arith

zero_left : (b : Bool) (m : ℕ) → cond b 1 0 + m ≡ 0 → b ≡ false
zero_left true m e = absurd (omega (arith, e))
zero_left false m e = refl

zero_right : (k m : ℕ) → k + m ≡ 0 → m ≡ 0
zero_right k m e = omega (arith, e)

-- none passes
count_zero : (f : ℕ → Bool) (a n : ℕ) → count_by f (range_with_len a n) ≡ 0 → (q : ℕ) → a ≤ q → q < a + n → f q ≡ false
count_zero f a zero h q l x = absurd (omega (arith, l, x))
count_zero f a (suc n) h q l x = by_case (same_or_not q a) (λ le. count_zero f (a + 1) n (zero_right (cond (f a) 1 0) _ (sym (count_next f a n (f a) refl) ∙ h)) q le (omega (arith, x))) where
  by_case : (q ≡ a) ⊎ (q ≢ a) → (a + 1 ≤ q → f q ≡ false) → f q ≡ false
  by_case (inl e) up = ap f e ∙ zero_left (f a) _ (sym (count_next f a n (f a) refl) ∙ h)
  by_case (inr d) up = up (omega (arith, l, d))

-- p is the first that passes, k numbers on
count_skip : (f : ℕ → Bool) (k a n p r : ℕ) → p ≡ a + k → n ≡ k + suc r → f p ≡ true → ((q : ℕ) → a ≤ q → q < p → f q ≡ false) → count_by f (range_with_len a n) ≡ suc (count_by f (range_with_len (p + 1) r))
count_skip f zero a n p r e h t none =
    let at : p ≡ a = omega (arith, e) in
    ap (λ (j : ℕ). count_by f (range_with_len a j)) (h ∙ none_more (suc r)) ∙ count_next f a r true (ap f (sym at) ∙ t) ∙ one_more (count_by f (range_with_len (a + 1) r)) ∙ ap (λ (j : ℕ). suc (count_by f (range_with_len (j + 1) r))) (sym at)
count_skip f (suc k) a n p r e h t none =
    let is : n ≡ suc (k + suc r) = omega (arith, h) in
    ap (λ (j : ℕ). count_by f (range_with_len a j)) is ∙ count_next f a (k + suc r) false (none a (omega arith) (omega (arith, e)))
    ∙ none_more (count_by f (range_with_len (a + 1) (k + suc r))) ∙ count_skip f k (a + 1) (k + suc r) p r (omega (arith, e)) refl t (λ q l x. none q (omega (arith, l)) x)

some_bytes : (es : List (Option Entry)) (x : Option ℕ) → is_some (bytes_for es x) ≡ is_some x
some_bytes es None = refl
some_bytes es (Some f) = refl

some_is : (x : Option ℕ) → IsSome x → is_some x ≡ true
some_is None h = h
some_is (Some f) h = refl

module _ {Pool Seat : Type 0} (W : World Pool Seat) (p : Pool) (d : DomLocal Pool Seat) (o : Half) (m : IsMemoryOf W p d o.pages o.vmap o.leaves) where
  -- a clone lets a page share a frame exactly where the page is local and not the identity page
  pub shares_local : (q : ℕ) → 1 ≤ q → goes_shared o q ≡ is_some (frame_at d.own.map.pages q)
  shares_local q le =
      ap (λ (b : Bool). not b && is_some (page_of o q)) (ne_eqb q 0 (λ e. omega (arith, e, le)))
      ∙ ap is_some (m.page q) ∙ some_bytes (W.entries p d.seat) (frame_at d.own.map.pages q)

  -- one page fewer behind the next page
  pub next_shared : (next now : ℕ) → 1 ≤ next → 1 ≤ now → IsNextPage d.own.map.pages next (now - 1) → left_to_share o next ≡ suc (left_to_share o now)
  next_shared next now le some n =
      let small : now - 1 < length d.own.map.pages = some_small d.own.map.pages (now - 1) n.local in
      let r : ℕ = length o.pages - now in
      let same : (now - 1) + 1 ≡ now = omega (arith, some) in
      count_skip (goes_shared o) ((now - 1) - next) next (length o.pages - next) (now - 1) r (let l = n.late in omega (arith, l)) (let l = n.late in let k = m.count in omega (arith, l, small, k, some))
      (shares_local (now - 1) (let l = n.late in omega (arith, l, le)) ∙ some_is _ n.local) (λ q l x. shares_local q (omega (arith, l, le)) ∙ ap is_some (n.first q l x))
      ∙ ap (λ (j : ℕ). suc (count_by (goes_shared o) (range_with_len j r))) same

  -- where no page is left
  pub none_shared : (next : ℕ) → 1 ≤ next → NoPageLeft d.own.map.pages next → left_to_share o next ≡ 0
  none_shared next le n = count_none (goes_shared o) next (length o.pages - next) (λ q l. shares_local q (omega (arith, l, le)) ∙ ap is_some (n q l))

  -- and only there
  pub left_none : (next : ℕ) → 1 ≤ next → left_to_share o next ≡ 0 → NoPageLeft d.own.map.pages next
  left_none next le e q l = by_case (nat_lt q (length o.pages)) refl where
    by_case : (b : Bool) → nat_lt q (length o.pages) ≡ b → frame_at d.own.map.pages q ≡ None
    by_case true h =
        let lt = ltb-true q (length o.pages) h in
        none_is _ (sym (shares_local q (omega (arith, l, le))) ∙ count_zero (goes_shared o) next (length o.pages - next) e q l (omega (arith, lt, l)))
    by_case false h = let past = ltb-false q (length o.pages) h in let k = m.count in frame_past d.own.map.pages q (omega (arith, past, k))

-- at the first page all that a clone lets share a frame are left
pub first_shared : (o : Half) → 0 < length o.pages → left_to_share o 1 ≡ shared_count o
first_shared o some =
    let is : length o.pages ≡ suc (length o.pages - 1) = omega (arith, some) in
    sym (ap (λ (j : ℕ). count_by (goes_shared o) (range_with_len 0 j)) is ∙ count_next (goes_shared o) 0 (length o.pages - 1) false refl ∙ none_more (left_to_share o 1))
