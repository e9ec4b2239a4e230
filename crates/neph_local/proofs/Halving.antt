-- The own halves that a child's memory and a memory at its start mean.
use Rattle.std.proofs.Common.{◌≡◌, ◌≢◌, ◌<◌, ◌≤◌, ◌+◌, ◌-◌, ◌^◌, ◌==◌, ◌||◌, ◌⊎◌, inl, inr, if◌then◌else◌, nat_lt, ℕ, zero, suc, Bool, true, false, cond, List, length, set, get_or, slice_index_or, option_map, is_some, Some, None, IsSome, refl, sym, ap, subst, ◌∙◌, arith, eq-eqb, ne_eqb}
use Rattle.std.proofs.lemmas.Bool.{lt-ltb, le-ltb, ltb-true, ltb-false}
use Rattle.std.proofs.lemmas.List.{length-set, length-replicate, get_or-set_same, get_or-set_other}
use Rattle.std.specs.List.{range_with_len}
use Rattle.std.specs.declared.option.Option.{Option}
use Rattle.std.specs.Ordering.{nat_cmp}
use Rattle.std.specs.Cmp.{nat_cmp_total, unsigned_tied}
use Rattle.std.specs.FinMap as map
use Rattle.neph_model.specs.declared.memory.Mapping.{Mapping}
use Rattle.neph_model.specs.declared.script.Start.{Start}
use Rattle.neph_model.specs.Births.{child_own}
use Rattle.neph_model.specs.declared.own.Own.{Own as Half}
use Rattle.neph_model.specs.Memory.{page_with_identity, zero_page}
use Rattle.neph_model.specs.Start.{start_own, start_pages, start_vmap, start_mode, started_512s}
use Rattle.neph_pool.specs.Handing.{AreDistinct}
use Rattle.neph_pool.specs.World.{World}
use Rattle.neph_pool.proofs.Rows.{same_or_not}
use Rattle.neph_gmap.specs.GuestPages.{has_number}
use Rattle.neph_memory.specs.declared.dom_local.DomLocal.{DomLocal}
use Rattle.neph_memory.specs.Domains.{domain_page, domain_leaf}
use Rattle.neph_memory.specs.OwnHalf.{IsMemoryOf}
use Rattle.neph_local.specs.Copies.{IsChildOf}
use Rattle.neph_local.specs.Starts.{start_mapping, IsStarted}

-- a child of a parent that means this own half
module _ {Pool Seat : Type 0} (W : World Pool Seat) (p : Pool) (d : DomLocal Pool Seat) (q : Pool) (c : DomLocal Pool Seat) (o : Half) (h : IsChildOf W p d q c) (m : IsMemoryOf W p d o.pages o.vmap o.leaves) (some : 0 < length o.pages) where
  abbrev numbered : Option (List ℕ) → ℕ → Option (List ℕ)
  numbered x n = option_map (λ page. page_with_identity page c.id d.id n) x

  first : numbered (slice_index_or o.pages 0 None) (length o.pages) ≡ domain_page W q c 0
  first = ap (λ (x : Option (List ℕ)). numbered x (length o.pages)) (m.page 0) ∙ ap (numbered (domain_page W p d 0)) m.count ∙ sym h.identity

  page_by : (x : ℕ) → (x ≡ 0) ⊎ (x ≢ 0) → get_or (set o.pages 0 (numbered (slice_index_or o.pages 0 None) (length o.pages))) x None ≡ domain_page W q c x
  page_by x (inl e) =
      ap (λ (k : ℕ). get_or (set o.pages 0 (numbered (slice_index_or o.pages 0 None) (length o.pages))) k None) e
      ∙ get_or-set_same o.pages 0 (numbered (slice_index_or o.pages 0 None) (length o.pages)) None some ∙ first ∙ ap (domain_page W q c) (sym e)
  page_by x (inr n) = get_or-set_other o.pages 0 x (numbered (slice_index_or o.pages 0 None) (length o.pages)) None n ∙ m.page x ∙ sym (h.bytes x (omega (arith, n)))

  pub child_memory : IsMemoryOf W q c (child_own c.id d.id o).pages (child_own c.id d.id o).vmap (child_own c.id d.id o).leaves
  child_memory = record {
    count = length-set o.pages 0 (numbered (slice_index_or o.pages 0 None) (length o.pages)) ∙ m.count ∙ sym h.count;
    page = λ x. page_by x (same_or_not x 0);
    mapping = λ v lt. m.mapping v lt ∙ sym (h.maps v lt);
    past = m.past;
    group = λ g lt. m.group g lt ∙ sym (h.leaves g lt);
    low = m.low;
    once = m.once;
  }

abbrev shown : ℕ → Bool → Option Mapping
shown v b = if b then Some (record { pfn = v; mode = start_mode v }) else None

start_get : (n v : ℕ) → map.get (start_vmap n) v ≡ start_mapping n v
start_get zero v = map.get-empty nat_cmp v ∙ sym (ap (shown v) (le-ltb v 0 (omega arith)))
start_get (suc n) v =
    map.get-insert nat_cmp_total (start_vmap n) n (record { pfn = n; mode = start_mode n }) v
    ∙ ap (λ (t : Bool). cond t (Some (record { pfn = n; mode = start_mode n })) (map.get (start_vmap n) v)) (unsigned_tied v n)
    ∙ by_case (same_or_not v n) (start_get n v) where
      less : (b : Bool) → nat_lt v n ≡ b → v ≢ n → nat_lt v n ≡ nat_lt v (suc n)
      less true e d = let l = ltb-true v n e in e ∙ sym (lt-ltb v (suc n) (omega (arith, l)))
      less false e d = let l = ltb-false v n e in e ∙ sym (le-ltb v (suc n) (omega (arith, l, d)))

      by_case : (v ≡ n) ⊎ (v ≢ n) → map.get (start_vmap n) v ≡ start_mapping n v → cond (v == n) (Some (record { pfn = n; mode = start_mode n })) (map.get (start_vmap n) v) ≡ start_mapping (suc n) v
      by_case (inl e) up =
          ap (λ (t : Bool). cond t (Some (record { pfn = n; mode = start_mode n })) (map.get (start_vmap n) v)) (eq-eqb v n e)
          ∙ ap (λ (k : ℕ). shown k true) (sym e) ∙ sym (ap (shown v) (lt-ltb v (suc n) (omega (arith, e))))
      by_case (inr d) up =
          ap (λ (t : Bool). cond t (Some (record { pfn = n; mode = start_mode n })) (map.get (start_vmap n) v)) (ne_eqb v n d)
          ∙ up ∙ ap (shown v) (less (nat_lt v n) refl d)

-- the numbers from a on, n of them
range_has : (g a n : ℕ) → a ≤ g → g < a + n → has_number g (range_with_len a n) ≡ true
range_has g a zero le lt = absurd (omega (arith, le, lt))
range_has g a (suc n) le lt = by_case (same_or_not a g) (λ l. range_has g (a + 1) n l (omega (arith, lt))) where
  by_case : (a ≡ g) ⊎ (a ≢ g) → (a + 1 ≤ g → has_number g (range_with_len (a + 1) n) ≡ true) → ((a == g) || has_number g (range_with_len (a + 1) n)) ≡ true
  by_case (inl e) up = ap (λ (b : Bool). b || has_number g (range_with_len (a + 1) n)) (eq-eqb a g e)
  by_case (inr d) up = ap (λ (b : Bool). b || has_number g (range_with_len (a + 1) n)) (ne_eqb a g d) ∙ up (omega (arith, le, d))

range_lacks : (g a n : ℕ) → (g < a) ⊎ (a + n ≤ g) → has_number g (range_with_len a n) ≡ false
range_lacks g a zero h = refl
range_lacks g a (suc n) (inl lt) = ap (λ (b : Bool). b || has_number g (range_with_len (a + 1) n)) (ne_eqb a g (λ e. omega (arith, e, lt))) ∙ range_lacks g (a + 1) n (inl (omega (arith, lt)))
range_lacks g a (suc n) (inr le) = ap (λ (b : Bool). b || has_number g (range_with_len (a + 1) n)) (ne_eqb a g (λ e. omega (arith, e, le))) ∙ range_lacks g (a + 1) n (inr (omega (arith, le)))

range_distinct : (a n : ℕ) → AreDistinct (range_with_len a n)
range_distinct a zero = tt
range_distinct a (suc n) = (range_lacks a (a + 1) n (inl (omega arith)), range_distinct (a + 1) n)

some_is : (x : Option ℕ) → IsSome x → is_some x ≡ true
some_is None h = h
some_is (Some f) h = refl

-- a memory at its start
module _ {Pool Seat : Type 0} (W : World Pool Seat) (p : Pool) (d : DomLocal Pool Seat) (id pages : ℕ) (h : IsStarted W p d id pages) (many : 8 ≤ pages) (few : pages ≤ 1024)
    (leaves : (i : ℕ) → i < started_512s pages → IsSome (domain_leaf W p d i)) (none : (i : ℕ) → started_512s pages ≤ i → i < 512 → domain_leaf W p d i ≡ None) where
  group_by : (g : ℕ) (b : Bool) → nat_lt g (started_512s pages) ≡ b → g < 512 → has_number g (range_with_len 0 (started_512s pages)) ≡ is_some (domain_leaf W p d g)
  group_by g true e lt = let l = ltb-true g (started_512s pages) e in range_has g 0 (started_512s pages) (omega arith) (omega (arith, l)) ∙ sym (some_is _ (leaves g l))
  group_by g false e lt = let l = ltb-false g (started_512s pages) e in range_lacks g 0 (started_512s pages) (inr (omega (arith, l))) ∙ sym (ap is_some (none g l lt))

  not_both : (b : Bool) → b ≡ true → b ≡ false → ⊥
  not_both b e k = cc

  low_by : (g : ℕ) (b : Bool) → nat_lt g (started_512s pages) ≡ b → has_number g (range_with_len 0 (started_512s pages)) ≡ true → g < 512
  low_by g true e t = let l = ltb-true g (started_512s pages) e in omega (arith, l, few)
  low_by g false e t = let l = ltb-false g (started_512s pages) e in absurd (not_both _ t (range_lacks g 0 (started_512s pages) (inr (omega (arith, l)))))

  past_by : (v : ℕ) → 2 ^ 18 ≤ v → map.get (start_vmap pages) v ≡ None
  past_by v le = start_get pages v ∙ ap (shown v) (le-ltb v pages (omega (arith, le, few)))

  parts : IsMemoryOf W p d (start_pages id pages) (start_vmap pages) (range_with_len 0 (started_512s pages))
  parts = record {
    count = (let k = length-replicate (pages - 4) (Some zero_page) in omega (arith, k, many)) ∙ sym h.count;
    page = λ x. sym (h.bytes x);
    mapping = λ v lt. start_get pages v ∙ sym (h.maps v lt);
    past = past_by;
    group = λ g lt. group_by g (nat_lt g (started_512s pages)) refl lt;
    low = λ g t. low_by g (nat_lt g (started_512s pages)) refl t;
    once = range_distinct 0 (started_512s pages);
  }

  pub start_memory : (n : ℕ) (t : Start) → n ≡ id → t.pages ≡ pages → IsMemoryOf W p d (start_own n t).pages (start_own n t).vmap (start_own n t).leaves
  start_memory n t e k =
      subst (λ (j : ℕ). IsMemoryOf W p d (start_pages n j) (start_vmap j) (range_with_len 0 (started_512s j))) (sym k)
      (subst (λ (i : ℕ). IsMemoryOf W p d (start_pages i pages) (start_vmap pages) (range_with_len 0 (started_512s pages))) (sym e) parts)
