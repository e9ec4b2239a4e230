-- A virtual page comes to show a page, wherever it led before.
use Rattle.std.proofs.Common.{◌≡◌, ◌≢◌, ◌<◌, ◌^◌, ◌⊎◌, ◌↔◌, ◌==◌, if◌then◌else◌, inl, inr, ℕ, zero, suc, Bool, true, false, List, [], ◌∷◌, length, slice_index_or, length-set, Some, None, IsSome, is_some, refl, sym, ap, subst, ◌∙◌, arith, eq-eqb, ne_eqb, slice_set}
use Rattle.std.proofs.lemmas.List.{get_or-set_other, get_or-set_same}
use Rattle.std.specs.declared.option.Option.{Option}
use Rattle.neph_model.specs.declared.memory.Mapping.{Mapping}
use Rattle.neph_pool.specs.declared.entry.Entry.{Entry}
use Rattle.neph_pool.proofs.Rows.{same_or_not}
use Rattle.neph_ptab.specs.declared.walk.Walk.{Walk}
use Rattle.neph_ptab.specs.declared.walk.Walk.TheVariants.{None as Unmapped, Local, Exposed}
use Rattle.neph_ptab.specs.Bits.{NotBoth}
use Rattle.neph_ptab.specs.Tables.{walk_at, walk_by, IsRetabled}
use Rattle.neph_gmap.specs.declared.page.Page.{Page}
use Rattle.neph_gmap.specs.GuestPages.{GuestPages, vpns_at, with_number, without_number, has_number}
use Rattle.neph_memory.specs.declared.own.Own.{Own}
use Rattle.neph_memory.proofs.Numbers.{has_same, has_else, lacks_same, lacks_else}
use Rattle.neph_memory.proofs.Putting.{to, lead_page, lead_leads, lead_shows}
use Rattle.neph_memory.proofs.Remapping.{remapped_shown, remapped_bytes, remapped_made}
use Rattle.neph_memory.specs.Memory.{mode_of, mapping, pfn_by, vpn_mapping, page_bytes, LeadsTo, IsMade}
use Rattle.neph_memory.specs.Mapped.{with_vpn, without_old_vpn}

not_both : (b : Bool) → b ≡ true → b ≡ false → ⊥
not_both b h k = cc

some_eq : (a b : ℕ) → Some a ≡ Some b → a ≡ b
some_eq a b e = cc

some_none : (x : Option ℕ) (f : ℕ) → x ≡ None → x ≡ Some f → ⊥
some_none x f a b = cc

not_eqb : (a b : ℕ) → (a == b) ≡ false → a ≢ b
not_eqb a b e d = not_both (a == b) (eq-eqb a b d) e

pub same_eqb : (a b : ℕ) → (a == b) ≡ true → a ≡ b
same_eqb a b e = by_case (same_or_not a b) where
  by_case : (a ≡ b) ⊎ (a ≢ b) → a ≡ b
  by_case (inl d) = d
  by_case (inr n) = absurd (not_both (a == b) e (ne_eqb a b n))

-- what leads to a page isn't both writable and shared
pub leads_not_both : (es : List (Option Entry)) (o : Own) (w : Walk) → LeadsTo es o w → NotBoth w
leads_not_both es o Unmapped l = tt
leads_not_both es o (Local f b c) l = l.2
leads_not_both es o (Exposed p b) l = tt

-- only a list that is there has a number
has_place : (ls : List (List ℕ)) (q v : ℕ) → has_number v (slice_index_or ls q []) ≡ true → q < length ls
has_place [] q v h = absurd (not_both false h refl)
has_place (l ∷ ls) zero v h = omega arith
has_place (l ∷ ls) (suc q) v h = let k = has_place ls q v h in omega arith

-- where a virtual page is mapped, its page and its leaf table are there
pub mapped_small : (es : List (Option Entry)) (root : ℕ) (o : Own) (A : ℕ → Type 0) → IsMade es root o A → (v p : ℕ) → v < 2 ^ 18 → pfn_by o.map.pages (walk_at es root v) ≡ Some p → p < length o.map.pages
mapped_small es root o A m v p lt e = subst (λ (n : ℕ). p < n) m.lists (has_place o.map.vpns p v ((m.listed p v lt).1 e))

pub mapped_leaf : (es : List (Option Entry)) (ps : List Page) (x : Option ℕ) (w p : ℕ) → pfn_by ps (walk_by es x w) ≡ Some p → IsSome x
mapped_leaf es ps None w p e = absurd (some_none None p refl e)
mapped_leaf es ps (Some f) w p e = refl

-- what isn't mapped maps to nothing
pub not_mapped : (x : Option ℕ) (b : Bool) → x ≡ None → mapping x b ≡ None
not_mapped None b e = refl
not_mapped (Some p) b e = absurd (some_none (Some p) p e refl)

pub is_mapped : (x : Option ℕ) (b : Bool) → is_some (mapping x b) ≡ is_some x
is_mapped None b = refl
is_mapped (Some p) b = refl

module _ (m : GuestPages) (p v : ℕ) where
  pub with_at : p < length m.vpns → vpns_at (with_vpn m p v) p ≡ with_number v (vpns_at m p)
  with_at lt = get_or-set_same m.vpns p (with_number v (vpns_at m p)) [] lt

  pub with_else : (x : ℕ) → x ≢ p → vpns_at (with_vpn m p v) x ≡ vpns_at m x
  with_else x n = get_or-set_other m.vpns p x (with_number v (vpns_at m p)) [] n

  pub with_has : p < length m.vpns → (x u : ℕ) → u ≢ v → (x ≡ p) ⊎ (x ≢ p) → has_number u (vpns_at (with_vpn m p v) x) ≡ has_number u (vpns_at m x)
  with_has lt x u k (inl e) = ap (λ (y : ℕ). has_number u (vpns_at (with_vpn m p v) y)) e ∙ ap (has_number u) (with_at lt) ∙ has_else v u (vpns_at m p) k ∙ sym (ap (λ (y : ℕ). has_number u (vpns_at m y)) e)
  with_has lt x u k (inr n) = ap (has_number u) (with_else x n)

  pub with_lists : length (with_vpn m p v).vpns ≡ length m.vpns
  with_lists = length-set m.vpns p (with_number v (vpns_at m p))

module _ (m : GuestPages) (q v : ℕ) where
  abbrev less : GuestPages
  less = record m { vpns = slice_set m.vpns q (without_number v (vpns_at m q)) }

  less_at : q < length m.vpns → vpns_at less q ≡ without_number v (vpns_at m q)
  less_at lt = get_or-set_same m.vpns q (without_number v (vpns_at m q)) [] lt

  less_else : (x : ℕ) → x ≢ q → vpns_at less x ≡ vpns_at m x
  less_else x n = get_or-set_other m.vpns q x (without_number v (vpns_at m q)) [] n

  less_has : q < length m.vpns → (x u : ℕ) → u ≢ v → (x ≡ q) ⊎ (x ≢ q) → has_number u (vpns_at less x) ≡ has_number u (vpns_at m x)
  less_has lt x u k (inl e) = ap (λ (y : ℕ). has_number u (vpns_at less y)) e ∙ ap (has_number u) (less_at lt) ∙ lacks_else v u (vpns_at m q) k ∙ sym (ap (λ (y : ℕ). has_number u (vpns_at m y)) e)
  less_has lt x u k (inr n) = ap (has_number u) (less_else x n)

  less_lists : length less.vpns ≡ length m.vpns
  less_lists = length-set m.vpns q (without_number v (vpns_at m q))

-- the lists after it, where the virtual page was listed at the page it was mapped to alone
module _ (m : GuestPages) (p v : ℕ) (small : p < length m.vpns) where
  abbrev more : GuestPages
  more = with_vpn m p v

  more_here : has_number v (vpns_at more p) ≡ true
  more_here = ap (has_number v) (with_at m p v small) ∙ has_same v (vpns_at m p)

  listed_by : (from : Option ℕ) → ((x : ℕ) → has_number v (vpns_at m x) ≡ true → from ≡ Some x) → ((x : ℕ) → from ≡ Some x → has_number v (vpns_at m x) ≡ true)
      → (length (without_old_vpn more from p v).vpns ≡ length m.vpns)
      × ((x : ℕ) → (has_number v (vpns_at (without_old_vpn more from p v) x) ≡ true) ↔ (x ≡ p))
      × ((x u : ℕ) → u ≢ v → has_number u (vpns_at (without_old_vpn more from p v) x) ≡ has_number u (vpns_at m x))
  listed_by None only all = (with_lists m p v, (λ x. (λ h. by_page x (same_or_not x p) h, λ e. ap (λ (y : ℕ). has_number v (vpns_at more y)) e ∙ more_here)), λ x u k. with_has m p v small x u k (same_or_not x p)) where
    by_page : (x : ℕ) → (x ≡ p) ⊎ (x ≢ p) → has_number v (vpns_at more x) ≡ true → x ≡ p
    by_page x (inl e) h = e
    by_page x (inr n) h = absurd (some_none None x refl (only x (sym (ap (has_number v) (with_else m p v x n)) ∙ h)))
  listed_by (Some q) only all = by_case (q == p) refl where
    stays : (q == p) ≡ true → (x : ℕ) → (x ≡ p) ⊎ (x ≢ p) → has_number v (vpns_at more x) ≡ true → x ≡ p
    stays e x (inl d) h = d
    stays e x (inr n) h = sym (some_eq q x (only x (sym (ap (has_number v) (with_else m p v x n)) ∙ h))) ∙ same_eqb q p e

    place : q < length more.vpns
    place = subst (λ (n : ℕ). q < n) (sym (with_lists m p v)) (has_place m.vpns q v (all q refl))

    goes : (q == p) ≡ false → (x : ℕ) → (x ≡ p) ⊎ (x ≢ p) → (x ≡ q) ⊎ (x ≢ q) → has_number v (vpns_at (less more q v) x) ≡ true → x ≡ p
    goes e x (inl d) y h = d
    goes e x (inr n) (inl d) h = absurd (not_both (has_number v (vpns_at (less more q v) x)) h (ap (λ (y : ℕ). has_number v (vpns_at (less more q v) y)) d ∙ ap (has_number v) (less_at more q v place) ∙ lacks_same v (vpns_at more q)))
    goes e x (inr n) (inr k) h = absurd (k (sym (some_eq q x (only x (sym (ap (has_number v) (less_else more q v x k ∙ with_else m p v x n)) ∙ h)))))

    by_case : (b : Bool) → (q == p) ≡ b
        → (length (if b then more else less more q v).vpns ≡ length m.vpns)
        × ((x : ℕ) → (has_number v (vpns_at (if b then more else less more q v) x) ≡ true) ↔ (x ≡ p))
        × ((x u : ℕ) → u ≢ v → has_number u (vpns_at (if b then more else less more q v) x) ≡ has_number u (vpns_at m x))
    by_case true e = (with_lists m p v, (λ x. (λ h. stays e x (same_or_not x p) h, λ d. ap (λ (y : ℕ). has_number v (vpns_at more y)) d ∙ more_here)), λ x u k. with_has m p v small x u k (same_or_not x p))
    by_case false e =
        let n : p ≢ q = λ d. not_eqb q p e (sym d) in (
          less_lists more q v ∙ with_lists m p v,
          (λ x. (λ h. goes e x (same_or_not x p) (same_or_not x q) h, λ d. ap (λ (y : ℕ). has_number v (vpns_at (less more q v) y)) d ∙ ap (has_number v) (less_else more q v p n) ∙ more_here)),
          λ x u k. less_has more q v place x u k (same_or_not x q) ∙ with_has m p v small x u k (same_or_not x p),
        )

module _ (es : List (Option Entry)) (root : ℕ) (o : Own) (A : ℕ → Type 0) (m : IsMade es root o A) (p : ℕ) (rw : Bool) (small : p < length o.map.pages)
    (fs : List (Option Entry)) (o' : Own) (r : IsRetabled es fs root) (v : ℕ) (lt : v < 2 ^ 18) (from : Option ℕ) (was : from ≡ pfn_by o.map.pages (walk_at es root v))
    (walks : (u : ℕ) → u < 2 ^ 18 → walk_at fs root u ≡ (if u == v then to es root o A m p rw small else walk_at es root u))
    (map : o'.map ≡ without_old_vpn (with_vpn o.map p v) from p v) (marks : o'.marks.items ≡ o.marks.items) where
  pages_by : (x : Option ℕ) → (without_old_vpn (with_vpn o.map p v) x p v).pages ≡ o.map.pages
  pages_by None = refl
  pages_by (Some q) = by_case (q == p) where
    by_case : (b : Bool) → (if b then with_vpn o.map p v else less (with_vpn o.map p v) q v).pages ≡ o.map.pages
    by_case true = refl
    by_case false = refl

  pub relisted_pages : o'.map.pages ≡ o.map.pages
  relisted_pages = ap (λ (k : GuestPages). k.pages) map ∙ pages_by from

  small_list : p < length o.map.vpns
  small_list = subst (λ (n : ℕ). p < n) (sym m.lists) small

  facts : (length (without_old_vpn (with_vpn o.map p v) from p v).vpns ≡ length o.map.vpns)
      × ((x : ℕ) → (has_number v (vpns_at (without_old_vpn (with_vpn o.map p v) from p v) x) ≡ true) ↔ (x ≡ p))
      × ((x u : ℕ) → u ≢ v → has_number u (vpns_at (without_old_vpn (with_vpn o.map p v) from p v) x) ≡ has_number u (vpns_at o.map x))
  facts = listed_by o.map p v small_list from (λ x h. was ∙ (m.listed x v lt).0 h) (λ x e. (m.listed x v lt).1 (sym was ∙ e))

  abbrev lead : Walk
  lead = to es root o A m p rw small

  page : pfn_by o.map.pages lead ≡ Some p
  page = lead_page es root o A m p rw small

  here : (x : ℕ) → (has_number v (vpns_at o'.map x) ≡ true) ↔ (pfn_by o.map.pages lead ≡ Some x)
  here x = (λ h. page ∙ ap Some (sym ((facts.1 x).0 (sym (ap (λ (k : GuestPages). has_number v (vpns_at k x)) map) ∙ h))), λ h. ap (λ (k : GuestPages). has_number v (vpns_at k x)) map ∙ (facts.1 x).1 (some_eq x p (sym h ∙ page)))

  others : (x u : ℕ) → u ≢ v → has_number u (vpns_at o'.map x) ≡ has_number u (vpns_at o.map x)
  others x u k = ap (λ (k : GuestPages). has_number u (vpns_at k x)) map ∙ facts.2 x u k

  lists : length o'.map.vpns ≡ length o.map.vpns
  lists = ap (λ (k : GuestPages). length k.vpns) map ∙ facts.0

  pub relisted_made : IsMade fs root o' A
  relisted_made = remapped_made es fs root o o' A m r v lead (lead_leads es root o A m p rw small) walks relisted_pages lists marks here others

  pub relisted_shown : (u : ℕ) → u < 2 ^ 18 → vpn_mapping fs root o'.map.pages u ≡ (if u == v then Some (record { pfn = p; mode = mode_of rw }) else vpn_mapping es root o.map.pages u)
  relisted_shown u l = remapped_shown es fs root o o' A m r v lead (lead_leads es root o A m p rw small) walks relisted_pages lists marks here others u l
      ∙ ap (λ (x : Option Mapping). if u == v then x else vpn_mapping es root o.map.pages u) (lead_shows es root o A m p rw small)

  pub relisted_bytes : (q : ℕ) → page_bytes fs o'.map.pages q ≡ page_bytes es o.map.pages q
  relisted_bytes = remapped_bytes es fs root o o' A m r v lead (lead_leads es root o A m p rw small) walks relisted_pages lists marks here others

-- what is mapped nowhere is dropped by no change
pub dropped_nothing : (es : List (Option Entry)) (root : ℕ) (ps : List Page) (v u : ℕ) → vpn_mapping es root ps v ≡ None → vpn_mapping es root ps u ≡ (if u == v then None else vpn_mapping es root ps u)
dropped_nothing es root ps v u e = by_case (u == v) refl where
  by_case : (b : Bool) → (u == v) ≡ b → vpn_mapping es root ps u ≡ (if b then None else vpn_mapping es root ps u)
  by_case true h = ap (λ (k : ℕ). vpn_mapping es root ps k) (same_eqb u v h) ∙ e
  by_case false h = refl
