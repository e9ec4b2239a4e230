-- One virtual page leads elsewhere.
use Rattle.std.proofs.Common.{◌≡◌, ◌≢◌, ◌<◌, ◌^◌, ◌≤◌, slice_index_or, slice_get, ◌⊎◌, ◌↔◌, ◌==◌, inl, inr, ℕ, Bool, true, false, List, length, Some, None, refl, sym, ap, subst, ◌∙◌, if◌then◌else◌, eq-eqb, ne_eqb}
use Rattle.std.specs.declared.option.Option.{Option}
use Rattle.neph_pool.specs.declared.entry.Entry.{Entry}
use Rattle.neph_pool.specs.Entries.{is_here, weight_of}
use Rattle.neph_pool.proofs.Rows.{same_or_not}
use Rattle.neph_ptab.specs.declared.walk.Walk.{Walk}
use Rattle.neph_ptab.specs.declared.walk.Walk.TheVariants.{None as Unmapped, Local, Exposed}
use Rattle.neph_ptab.specs.Tables.{walk_at, IsTable, IsRetabled}
use Rattle.neph_gmap.specs.declared.page.Page.{Page}
use Rattle.neph_gmap.specs.GuestPages.{vpns_at, has_number}
use Rattle.neph_memory.specs.declared.own.Own.{Own}
use Rattle.neph_memory.proofs.Moves.{same_tables}
use Rattle.neph_pool.specs.Bytes.{bytes_of}
use Rattle.neph_memory.specs.Pages.{frame_at}
use Rattle.neph_memory.specs.Memory.{mapping, pfn_by, wanted_by, vpn_mapping, bytes_for, page_bytes, is_marked, IsPageAt, LeadsTo, IsMade}

module _ (es fs : List (Option Entry)) (root : ℕ) (o o' : Own) (A : ℕ → Type 0) (m : IsMade es root o A) (r : IsRetabled es fs root) (v : ℕ) (to : Walk) (leads : LeadsTo es o to)
    (walks : (u : ℕ) → u < 2 ^ 18 → walk_at fs root u ≡ (if u == v then to else walk_at es root u))
    (pages : o'.map.pages ≡ o.map.pages) (lists : length o'.map.vpns ≡ length o.map.vpns) (marks : o'.marks.items ≡ o.marks.items)
    (here : (q : ℕ) → (has_number v (vpns_at o'.map q) ≡ true) ↔ (pfn_by o.map.pages to ≡ Some q))
    (else_listed : (q u : ℕ) → u ≢ v → has_number u (vpns_at o'.map q) ≡ has_number u (vpns_at o.map q)) where
  walk_here : (u : ℕ) → u < 2 ^ 18 → u ≡ v → walk_at fs root u ≡ to
  walk_here u lt e = walks u lt ∙ ap (λ (b : Bool). if b then to else walk_at es root u) (eq-eqb u v e)

  walk_else : (u : ℕ) → u < 2 ^ 18 → u ≢ v → walk_at fs root u ≡ walk_at es root u
  walk_else u lt n = walks u lt ∙ ap (λ (b : Bool). if b then to else walk_at es root u) (ne_eqb u v n)

  back : (g : ℕ) → IsTable fs root g → IsTable es root g
  back g t = same_tables es fs root g r.leaves t

  forth : (g : ℕ) → IsTable es root g → IsTable fs root g
  forth g t = same_tables fs es root g (λ i lt. sym (r.leaves i lt)) t

  frame_same : (q : ℕ) → frame_at o'.map.pages q ≡ frame_at o.map.pages q
  frame_same q = ap (λ (ps : List Page). frame_at ps q) pages

  mark_same : (q : ℕ) → is_marked o' q ≡ is_marked o q
  mark_same q = ap (λ (bs : List Bool). slice_index_or bs q false) marks

  abbrev page_still : (g : ℕ) → IsPageAt o g → IsPageAt o' g
  page_still g q = (q.0, frame_same q.0 ∙ q.1)

  still : (g : ℕ) → IsTable es root g ⊎ (IsPageAt o g ⊎ A g) → IsTable fs root g ⊎ (IsPageAt o' g ⊎ A g)
  still g (inl t) = inl (forth g t)
  still g (inr (inl q)) = inr (inl (page_still g q))
  still g (inr (inr a)) = inr (inr a)

  leads_still : (w : Walk) → LeadsTo es o w → LeadsTo fs o' w
  leads_still Unmapped l = tt
  leads_still (Local x b c) l = (page_still x l.0, λ t. r.holds x ∙ l.1 t, l.2)
  leads_still (Exposed q b) l = ap (λ (ps : List Page). slice_get ps q) pages ∙ l

  leads_by : (u : ℕ) → u < 2 ^ 18 → (u ≡ v) ⊎ (u ≢ v) → LeadsTo fs o' (walk_at fs root u)
  leads_by u lt (inl e) = subst (LeadsTo fs o') (sym (walk_here u lt e)) (leads_still to leads)
  leads_by u lt (inr n) = subst (LeadsTo fs o') (sym (walk_else u lt n)) (leads_still (walk_at es root u) (m.walks u lt))

  listed_by : (q u : ℕ) → u < 2 ^ 18 → (u ≡ v) ⊎ (u ≢ v) → (has_number u (vpns_at o'.map q) ≡ true) ↔ (pfn_by o'.map.pages (walk_at fs root u) ≡ Some q)
  listed_by q u lt (inl e) =
      let p : pfn_by o'.map.pages (walk_at fs root u) ≡ pfn_by o.map.pages to = ap (λ (ps : List Page). pfn_by ps (walk_at fs root u)) pages ∙ ap (pfn_by o.map.pages) (walk_here u lt e) in
      let n : has_number u (vpns_at o'.map q) ≡ has_number v (vpns_at o'.map q) = ap (λ (k : ℕ). has_number k (vpns_at o'.map q)) e in
      (λ h. p ∙ (here q).0 (sym n ∙ h), λ h. n ∙ (here q).1 (sym p ∙ h))
  listed_by q u lt (inr n) =
      let p : pfn_by o'.map.pages (walk_at fs root u) ≡ pfn_by o.map.pages (walk_at es root u) = ap (λ (ps : List Page). pfn_by ps (walk_at fs root u)) pages ∙ ap (pfn_by o.map.pages) (walk_else u lt n) in
      let k = else_listed q u n in let w = m.listed q u lt in
      (λ h. p ∙ w.0 (sym k ∙ h), λ h. k ∙ w.1 (sym p ∙ h))

  pub remapped_shown : (u : ℕ) → u < 2 ^ 18 → vpn_mapping fs root o'.map.pages u ≡ (if u == v then mapping (pfn_by o.map.pages to) (wanted_by to) else vpn_mapping es root o.map.pages u)
  remapped_shown u lt = ap (λ (ps : List Page). vpn_mapping fs root ps u) pages ∙ by_case (u == v) refl where
    by_case : (b : Bool) → (u == v) ≡ b → vpn_mapping fs root o.map.pages u ≡ (if b then mapping (pfn_by o.map.pages to) (wanted_by to) else vpn_mapping es root o.map.pages u)
    by_case true e = ap (λ (w : Walk). mapping (pfn_by o.map.pages w) (wanted_by w)) (walks u lt ∙ ap (λ (b : Bool). if b then to else walk_at es root u) e)
    by_case false e = ap (λ (w : Walk). mapping (pfn_by o.map.pages w) (wanted_by w)) (walks u lt ∙ ap (λ (b : Bool). if b then to else walk_at es root u) e)

  bytes_by : (q : ℕ) (x : Option ℕ) → frame_at o.map.pages q ≡ x → bytes_for fs x ≡ bytes_for es x
  bytes_by q None e = refl
  bytes_by q (Some g) e = ap (λ (ws : List ℕ). Some (bytes_of ws)) (r.words g (λ t. m.plain q g e t))

  pub remapped_bytes : (q : ℕ) → page_bytes fs o'.map.pages q ≡ page_bytes es o.map.pages q
  remapped_bytes q = ap (bytes_for fs) (frame_same q) ∙ bytes_by q (frame_at o.map.pages q) refl

  pub remapped_made : IsMade fs root o' A
  remapped_made = record {
    tables = r.tables;
    few = subst (λ (ps : List Page). length ps ≤ 1024) (sym pages) m.few;
    lists = lists ∙ m.lists ∙ sym (ap (λ (ps : List Page). length ps) pages);
    marks = ap (λ (bs : List Bool). length bs) marks ∙ m.marks ∙ sym (ap (λ (ps : List Page). length ps) pages);
    held = λ q g h. ap weight_of (r.holds g) ∙ m.held q g (sym (frame_same q) ∙ h);
    plain = λ q g h t. m.plain q g (sym (frame_same q) ∙ h) (back g t);
    apart = λ q x g h l. m.apart q x g (sym (frame_same q) ∙ h) (sym (frame_same x) ∙ l);
    sole = λ q g h. let w = m.sole q g (sym (frame_same q) ∙ h) in (λ x. r.holds g ∙ w.0 (sym (mark_same q) ∙ x), λ x. mark_same q ∙ w.1 (sym (r.holds g) ∙ x));
    once = λ g a. ap weight_of (r.holds g) ∙ m.once g a;
    unused = λ g a t. m.unused g a (back g t);
    blank = λ q g a h. m.blank q g a (sym (frame_same q) ∙ h);
    only = λ g h. still g (m.only g (ap is_here (sym (r.holds g)) ∙ h));
    walks = λ u lt. leads_by u lt (same_or_not u v);
    listed = λ q u lt. listed_by q u lt (same_or_not u v);
  }
