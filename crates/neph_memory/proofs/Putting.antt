-- A virtual page comes to show a page, or to show nothing.
use Rattle.std.proofs.Common.{◌≡◌, ◌≢◌, ◌<◌, ◌^◌, ◌⊎◌, ◌↔◌, ◌||◌, ◌&&◌, ◌==◌, if◌then◌else◌, inl, inr, ℕ, zero, suc, Bool, true, false, List, [], ◌∷◌, length, set, slice_get, slice_index_or, length-set, Some, None, refl, sym, ap, subst, ◌∙◌, arith}
use Rattle.std.proofs.lemmas.List.{get_or-set_other, get_or-set_same}
use Rattle.std.specs.declared.option.Option.{Option}
use Rattle.neph_model.specs.declared.memory.Mapping.{Mapping}
use Rattle.neph_pool.specs.declared.entry.Entry.{Entry}
use Rattle.neph_pool.proofs.Rows.{same_or_not}
use Rattle.neph_ptab.specs.declared.walk.Walk.{Walk}
use Rattle.neph_ptab.specs.declared.walk.Walk.TheVariants.{None as Unmapped}
use Rattle.neph_ptab.specs.Tables.{walk_at, IsRetabled}
use Rattle.neph_gmap.specs.declared.page.Page.{Page}
use Rattle.neph_gmap.specs.declared.page.Page.TheVariants.{Local as At, Exposed as Away}
use Rattle.neph_gmap.specs.GuestPages.{GuestPages, vpns_at, with_number, without_number, has_number}
use Rattle.neph_memory.specs.declared.own.Own.{Own}
use Rattle.neph_memory.proofs.Places.{page_in_at}
use Rattle.neph_memory.proofs.Numbers.{has_same, has_else, lacks_same, lacks_else}
use Rattle.neph_memory.proofs.Remapping.{remapped_shown, remapped_bytes, remapped_made}
use Rattle.neph_memory.specs.Pages.{frame_of, frame_at}
use Rattle.neph_memory.specs.Memory.{mode_of, mapping, pfn_by, wanted_by, vpn_mapping, page_bytes, is_marked, LeadsTo, IsMade}
use Rattle.neph_memory.specs.Building.{lead_to}

or_false : (b : Bool) → (b || false) ≡ b
or_false true = refl
or_false false = refl

and_false : (b : Bool) → (b && false) ≡ false
and_false true = refl
and_false false = refl

none_past : (ps : List Page) (p : ℕ) → p < length ps → slice_get ps p ≡ None → ⊥
none_past [] p lt e = absurd (omega arith)
none_past (x ∷ ps) zero lt e = cc
none_past (x ∷ ps) (suc p) lt e = none_past ps p (omega arith) e

frame_is : (ps : List Page) (p f : ℕ) → slice_get ps p ≡ Some (At f) → frame_at ps p ≡ Some f
unfolding frame_at
frame_is ps p f e = ap frame_of e

none_some : (x : Option ℕ) (f : ℕ) → x ≡ None → x ≡ Some f → ⊥
none_some x f a b = cc

not_true : false ≡ true → ⊥
not_true e = cc

same_some : (a b : ℕ) → Some a ≡ Some b → a ≡ b
same_some a b e = cc

module _ (es : List (Option Entry)) (root : ℕ) (o : Own) (A : ℕ → Type 0) (m : IsMade es root o A) (p : ℕ) (rw : Bool) (small : p < length o.map.pages) where
  lead_page_by : (x : Option Page) (b : Bool) → slice_get o.map.pages p ≡ x → pfn_by o.map.pages (lead_to x b p rw) ≡ Some p
  lead_page_by None b e = absurd (none_past o.map.pages p small e)
  lead_page_by (Some (At f)) true e = let h = frame_is o.map.pages p f e in page_in_at o.map.pages p f h (λ q k. m.apart q p f k h)
  lead_page_by (Some (At f)) false e = let h = frame_is o.map.pages p f e in page_in_at o.map.pages p f h (λ q k. m.apart q p f k h)
  lead_page_by (Some Away) b e = refl

  lead_wanted_by : (x : Option Page) (b : Bool) → slice_get o.map.pages p ≡ x → wanted_by (lead_to x b p rw) ≡ rw
  lead_wanted_by None b e = absurd (none_past o.map.pages p small e)
  lead_wanted_by (Some (At f)) true e = or_false rw
  lead_wanted_by (Some (At f)) false e = refl
  lead_wanted_by (Some Away) b e = refl

  lead_leads_by : (x : Option Page) (b : Bool) → slice_get o.map.pages p ≡ x → is_marked o p ≡ b → LeadsTo es o (lead_to x b p rw)
  lead_leads_by None b e h = tt
  lead_leads_by (Some (At f)) true e h = let k = frame_is o.map.pages p f e in ((p, k), λ _. (m.sole p f k).0 h, and_false rw)
  lead_leads_by (Some (At f)) false e h = ((p, frame_is o.map.pages p f e), λ t. absurd (not_true t), refl)
  lead_leads_by (Some Away) b e h = e

  abbrev pub to : Walk
  to = lead_to (slice_get o.map.pages p) (is_marked o p) p rw

  pub lead_page : pfn_by o.map.pages to ≡ Some p
  lead_page = lead_page_by (slice_get o.map.pages p) (is_marked o p) refl

  pub lead_leads : LeadsTo es o to
  lead_leads = lead_leads_by (slice_get o.map.pages p) (is_marked o p) refl refl

  pub lead_shows : mapping (pfn_by o.map.pages to) (wanted_by to) ≡ Some (record { pfn = p; mode = mode_of rw })
  lead_shows = ap (λ (x : Option ℕ). mapping x (wanted_by to)) lead_page ∙ ap (λ (b : Bool). mapping (Some p) b) (lead_wanted_by (slice_get o.map.pages p) (is_marked o p) refl)

  module _ (fs : List (Option Entry)) (o' : Own) (r : IsRetabled es fs root) (v : ℕ) (lt : v < 2 ^ 18) (none : walk_at es root v ≡ Unmapped)
      (walks : (u : ℕ) → u < 2 ^ 18 → walk_at fs root u ≡ (if u == v then to else walk_at es root u))
      (map : o'.map ≡ record o.map { vpns = set o.map.vpns p (with_number v (vpns_at o.map p)) }) (marks : o'.marks.items ≡ o.marks.items) where
    pages : o'.map.pages ≡ o.map.pages
    pages = ap (λ (m : GuestPages). m.pages) map

    vpns : o'.map.vpns ≡ set o.map.vpns p (with_number v (vpns_at o.map p))
    vpns = ap (λ (m : GuestPages). m.vpns) map

    lists : length o'.map.vpns ≡ length o.map.vpns
    lists = ap (λ (ls : List (List ℕ)). length ls) vpns ∙ length-set o.map.vpns p (with_number v (vpns_at o.map p))

    at_page : vpns_at o'.map p ≡ with_number v (vpns_at o.map p)
    at_page = ap (λ (ls : List (List ℕ)). slice_index_or ls p []) vpns ∙ get_or-set_same o.map.vpns p (with_number v (vpns_at o.map p)) [] (subst (λ (n : ℕ). p < n) (sym m.lists) small)

    pub put_else : (q : ℕ) → q ≢ p → vpns_at o'.map q ≡ vpns_at o.map q
    put_else q n = ap (λ (ls : List (List ℕ)). slice_index_or ls q []) vpns ∙ get_or-set_other o.map.vpns p q (with_number v (vpns_at o.map p)) [] n

    not_listed : (q : ℕ) → has_number v (vpns_at o.map q) ≡ true → ⊥
    not_listed q h = none_some _ q (ap (pfn_by o.map.pages) none) ((m.listed q v lt).0 h)

    here_by : (q : ℕ) → (q ≡ p) ⊎ (q ≢ p) → (has_number v (vpns_at o'.map q) ≡ true) ↔ (pfn_by o.map.pages to ≡ Some q)
    here_by q (inl e) = (λ _. lead_page ∙ ap Some (sym e), λ _. ap (λ (k : ℕ). has_number v (vpns_at o'.map k)) e ∙ ap (has_number v) at_page ∙ has_same v (vpns_at o.map p))
    here_by q (inr n) = (λ h. absurd (not_listed q (sym (ap (has_number v) (put_else q n)) ∙ h)), λ h. absurd (n (same_some q p (sym h ∙ lead_page))))

    else_by : (q u : ℕ) → u ≢ v → (q ≡ p) ⊎ (q ≢ p) → has_number u (vpns_at o'.map q) ≡ has_number u (vpns_at o.map q)
    else_by q u k (inl e) = ap (λ (x : ℕ). has_number u (vpns_at o'.map x)) e ∙ ap (has_number u) at_page ∙ has_else v u (vpns_at o.map p) k ∙ sym (ap (λ (x : ℕ). has_number u (vpns_at o.map x)) e)
    else_by q u k (inr n) = ap (has_number u) (put_else q n)

    pub put_made : IsMade fs root o' A
    put_made = remapped_made es fs root o o' A m r v to lead_leads walks pages lists marks (λ q. here_by q (same_or_not q p)) (λ q u k. else_by q u k (same_or_not q p))

    pub put_shown : (u : ℕ) → u < 2 ^ 18 → vpn_mapping fs root o'.map.pages u ≡ (if u == v then Some (record { pfn = p; mode = mode_of rw }) else vpn_mapping es root o.map.pages u)
    put_shown u l = remapped_shown es fs root o o' A m r v to lead_leads walks pages lists marks (λ q. here_by q (same_or_not q p)) (λ q x k. else_by q x k (same_or_not q p)) u l
        ∙ ap (λ (x : Option Mapping). if u == v then x else vpn_mapping es root o.map.pages u) lead_shows

    pub put_bytes : (q : ℕ) → page_bytes fs o'.map.pages q ≡ page_bytes es o.map.pages q
    put_bytes = remapped_bytes es fs root o o' A m r v to lead_leads walks pages lists marks (λ q. here_by q (same_or_not q p)) (λ q u k. else_by q u k (same_or_not q p))

-- the page p is no more at the virtual page
module _ (es fs : List (Option Entry)) (root : ℕ) (o o' : Own) (A : ℕ → Type 0) (m : IsMade es root o A) (r : IsRetabled es fs root) (v p : ℕ) (lt : v < 2 ^ 18) (was : pfn_by o.map.pages (walk_at es root v) ≡ Some p)
    (small : p < length o.map.pages)
    (walks : (u : ℕ) → u < 2 ^ 18 → walk_at fs root u ≡ (if u == v then Unmapped else walk_at es root u))
    (map : o'.map ≡ record o.map { vpns = set o.map.vpns p (without_number v (vpns_at o.map p)) }) (marks : o'.marks.items ≡ o.marks.items) where
  drop_pages : o'.map.pages ≡ o.map.pages
  drop_pages = ap (λ (m : GuestPages). m.pages) map

  drop_vpns : o'.map.vpns ≡ set o.map.vpns p (without_number v (vpns_at o.map p))
  drop_vpns = ap (λ (m : GuestPages). m.vpns) map

  drop_lists : length o'.map.vpns ≡ length o.map.vpns
  drop_lists = ap (λ (ls : List (List ℕ)). length ls) drop_vpns ∙ length-set o.map.vpns p (without_number v (vpns_at o.map p))

  drop_here : vpns_at o'.map p ≡ without_number v (vpns_at o.map p)
  drop_here = ap (λ (ls : List (List ℕ)). slice_index_or ls p []) drop_vpns ∙ get_or-set_same o.map.vpns p (without_number v (vpns_at o.map p)) [] (subst (λ (n : ℕ). p < n) (sym m.lists) small)

  drop_else : (q : ℕ) → q ≢ p → vpns_at o'.map q ≡ vpns_at o.map q
  drop_else q n = ap (λ (ls : List (List ℕ)). slice_index_or ls q []) drop_vpns ∙ get_or-set_other o.map.vpns p q (without_number v (vpns_at o.map p)) [] n

  bool_not : (b : Bool) → b ≡ true → b ≡ false → ⊥
  bool_not b h k = cc

  lacks_by : (q : ℕ) → (q ≡ p) ⊎ (q ≢ p) → has_number v (vpns_at o'.map q) ≡ true → ⊥
  lacks_by q (inl e) h = bool_not _ h (ap (λ (k : ℕ). has_number v (vpns_at o'.map k)) e ∙ ap (has_number v) drop_here ∙ lacks_same v (vpns_at o.map p))
  lacks_by q (inr n) h = n (same_some q p (sym ((m.listed q v lt).0 (sym (ap (has_number v) (drop_else q n)) ∙ h)) ∙ was))

  none_is : (q : ℕ) → None ≡ Some q → ⊥
  none_is q e = cc

  nowhere : (q : ℕ) → (has_number v (vpns_at o'.map q) ≡ true) ↔ (pfn_by o.map.pages Unmapped ≡ Some q)
  nowhere q = (λ h. absurd (lacks_by q (same_or_not q p) h), λ h. absurd (none_is q h))

  drop_by : (q u : ℕ) → u ≢ v → (q ≡ p) ⊎ (q ≢ p) → has_number u (vpns_at o'.map q) ≡ has_number u (vpns_at o.map q)
  drop_by q u k (inl e) = ap (λ (x : ℕ). has_number u (vpns_at o'.map x)) e ∙ ap (has_number u) drop_here ∙ lacks_else v u (vpns_at o.map p) k ∙ sym (ap (λ (x : ℕ). has_number u (vpns_at o.map x)) e)
  drop_by q u k (inr n) = ap (has_number u) (drop_else q n)

  pub drop_made : IsMade fs root o' A
  drop_made = remapped_made es fs root o o' A m r v Unmapped tt walks drop_pages drop_lists marks nowhere (λ q u k. drop_by q u k (same_or_not q p))

  pub drop_shown : (u : ℕ) → u < 2 ^ 18 → vpn_mapping fs root o'.map.pages u ≡ (if u == v then None else vpn_mapping es root o.map.pages u)
  drop_shown u l = remapped_shown es fs root o o' A m r v Unmapped tt walks drop_pages drop_lists marks nowhere (λ q x k. drop_by q x k (same_or_not q p)) u l

  pub drop_bytes : (q : ℕ) → page_bytes fs o'.map.pages q ≡ page_bytes es o.map.pages q
  drop_bytes = remapped_bytes es fs root o o' A m r v Unmapped tt walks drop_pages drop_lists marks nowhere (λ q u k. drop_by q u k (same_or_not q p))
