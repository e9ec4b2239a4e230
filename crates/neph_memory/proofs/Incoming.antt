-- A page that was exposed comes back: its frame comes from another seat.
use Rattle.std.proofs.Common.{◌≡◌, ◌≢◌, ◌<◌, ◌^◌, ◌&&◌, ◌⊎◌, ◌↔◌, inl, inr, ◌≤◌, ℕ, Bool, true, false, List, [], length, set, slice_get, slice_index_or, Some, None, IsSome, refl, sym, ap, subst, ◌∙◌, if◌then◌else◌, length-set}
use Rattle.std.proofs.lemmas.List.{get_or-set_other, get_or-set_same}
use Rattle.std.specs.declared.option.Option.{Option}
use Rattle.neph_pool.specs.declared.entry.Entry.{Entry}
use Rattle.neph_pool.specs.declared.entry.Hold.TheVariants.{Sole}
use Rattle.neph_pool.specs.Entries.{hold_at, words_at, is_here, weight_of, IsOnceAt, IsSoleAt}
use Rattle.neph_pool.specs.Bytes.{bytes_of, bytes_at}
use Rattle.neph_pool.proofs.Entries.{once_here}
use Rattle.neph_pool.proofs.Rows.{same_or_not}
use Rattle.neph_ptab.specs.declared.walk.Walk.{Walk}
use Rattle.neph_ptab.specs.declared.walk.Walk.TheVariants.{None as Unmapped, Local, Exposed}
use Rattle.neph_ptab.specs.Tables.{leaf_at, walk_at, IsTable, IsTables, IsRetabled}
use Rattle.neph_ptab.proofs.Changing.{IsBeside, leaves_stay, walks_stay, tables_stay}
use Rattle.neph_gmap.specs.declared.page.Page.{Page}
use Rattle.neph_gmap.specs.declared.page.Page.TheVariants.{Local as At, Exposed as Away}
use Rattle.neph_gmap.specs.GuestPages.{vpns_at, has_number, page_in}
use Rattle.neph_memory.specs.declared.own.Own.{Own}
use Rattle.neph_memory.specs.Pages.{frame_at}
use Rattle.neph_memory.specs.Memory.{mapping, pfn_by, wanted_by, vpn_mapping, bytes_for, page_bytes, is_marked, IsPageAt, IsSpareAt, LeadsTo, IsMemory}
use Rattle.neph_memory.specs.Exposed.{turned, walk_turned}
use Rattle.neph_memory.proofs.Places.{some_same, frame_set, frame_else, place_else, away_not, page_in_at}
use Rattle.neph_memory.proofs.Placing.{away_small}
use Rattle.neph_memory.proofs.Leading.{on}
use Rattle.neph_memory.proofs.Moves.{same_tables}
use Rattle.neph_memory.proofs.Turning.{wanted_turned, some_walk}

not_both : (b : Bool) → b ≡ true → b ≡ false → ⊥
not_both b h k = cc

and_false : (b : Bool) → (b && false) ≡ false
and_false true = refl
and_false false = refl

module _ (es es' : List (Option Entry)) (root : ℕ) (o : Own) (m : IsMemory es root o) (p f : ℕ) (away : slice_get o.map.pages p ≡ Some Away) (absent : hold_at es f ≡ None) (here : hold_at es' f ≡ Some Sole)
    (holds : (g : ℕ) → g ≢ f → hold_at es' g ≡ hold_at es g) (words : (g : ℕ) → g ≢ f → words_at es' g ≡ words_at es g) where
  page_not : (q g : ℕ) → frame_at o.map.pages q ≡ Some g → g ≢ f
  page_not q g h d = not_both _ (once_here es g (m.made.held q g h)) (ap is_here (ap (hold_at es) d ∙ absent))

  sole_not : (g : ℕ) → IsSoleAt es g → g ≢ f
  sole_not g s d = let z : None ≡ Some Sole = sym (ap (hold_at es) d ∙ absent) ∙ s in cc

  table_sole : (g : ℕ) → IsTable es root g → IsSoleAt es g
  table_sole g (inl d) = ap (hold_at es) d ∙ m.made.tables.top
  table_sole g (inr x) = m.made.tables.leaves x.0 g x.1 x.2

  table_not : (g : ℕ) → IsTable es root g → g ≢ f
  table_not g t = sole_not g (table_sole g t)

  beside : IsBeside es es' root
  beside = record { holds = λ g t. holds g (table_not g t); words = λ g t. words g (table_not g t) }

  pub in_tables : IsTables es' root
  in_tables = tables_stay es es' root m.made.tables beside

  in_walks : (u : ℕ) → u < 2 ^ 18 → walk_at es' root u ≡ walk_at es root u
  in_walks = walks_stay es es' root m.made.tables beside

  pub in_leaves : (i : ℕ) → leaf_at es' root i ≡ leaf_at es root i
  in_leaves = leaves_stay es es' root m.made.tables beside

  pub in_mapped : (u : ℕ) → u < 2 ^ 18 → has_number u (vpns_at o.map p) ≡ true → walk_at es' root u ≢ Unmapped
  in_mapped u lt h d = some_walk o.map.pages p (walk_at es root u) ((m.made.listed p u lt).0 h) (sym (in_walks u lt) ∙ d)

  module _ (fs : List (Option Entry)) (o' : Own) (r : IsRetabled es' fs root)
      (moved : (u : ℕ) → u < 2 ^ 18 → walk_at fs root u ≡ walk_turned (At f) p (vpns_at o.map p) u (walk_at es' root u))
      (pages : o'.map.pages ≡ set o.map.pages p (At f)) (vpns : o'.map.vpns ≡ o.map.vpns) (marks : o'.marks.items ≡ set o.marks.items p true) (spare : o'.spare ≡ o.spare) where
    small : p < length o.map.pages
    small = away_small o.map.pages p away

    pub in_page : frame_at o'.map.pages p ≡ Some f
    in_page = ap (λ (ps : List Page). frame_at ps p) pages ∙ frame_set o.map.pages p (At f) small

    pub in_else : (q : ℕ) → q ≢ p → frame_at o'.map.pages q ≡ frame_at o.map.pages q
    in_else q n = ap (λ (ps : List Page). frame_at ps q) pages ∙ frame_else o.map.pages p q (At f) n

    hold_new : hold_at fs f ≡ Some Sole
    hold_new = r.holds f ∙ here

    hold_else : (g : ℕ) → g ≢ f → hold_at fs g ≡ hold_at es g
    hold_else g n = r.holds g ∙ holds g n

    table_mid : (g : ℕ) → IsTable es' root g → IsTable es root g
    table_mid g t = same_tables es es' root g (λ i lt. in_leaves i) t

    table_back : (g : ℕ) → IsTable fs root g → IsTable es root g
    table_back g t = table_mid g (same_tables es' fs root g r.leaves t)

    table_forth : (g : ℕ) → IsTable es root g → IsTable fs root g
    table_forth g t = same_tables fs es root g (λ i lt. sym (r.leaves i lt ∙ in_leaves i)) t

    -- the page with its frame, or another with its own
    Case : ℕ → ℕ → Type 0
    Case q g = ((q ≡ p) × (g ≡ f)) ⊎ ((q ≢ p) × (g ≢ f) × (frame_at o.map.pages q ≡ Some g))

    case_by : (q g : ℕ) → (q ≡ p) ⊎ (q ≢ p) → frame_at o'.map.pages q ≡ Some g → Case q g
    unfolding Case
    case_by q g (inl e) h = inl (e, some_same g f (sym h ∙ ap (frame_at o'.map.pages) e ∙ in_page))
    case_by q g (inr n) h = let h' = sym (in_else q n) ∙ h in inr (n, page_not q g h', h')

    case_of : (q g : ℕ) → frame_at o'.map.pages q ≡ Some g → Case q g
    case_of q g h = case_by q g (same_or_not q p) h

    held_in : (q g : ℕ) → Case q g → IsOnceAt fs g
    unfolding Case
    held_in q g (inl e) = ap (λ (x : ℕ). weight_of (hold_at fs x)) e.1 ∙ ap weight_of hold_new
    held_in q g (inr h) = ap weight_of (hold_else g h.1) ∙ m.made.held q g h.2

    plain_in : (q g : ℕ) → Case q g → IsTable es root g → ⊥
    unfolding Case
    plain_in q g (inl e) t = table_not g t e.1
    plain_in q g (inr h) t = m.made.plain q g h.2 t

    apart_in : (q x g : ℕ) → Case q g → Case x g → q ≡ x
    unfolding Case
    apart_in q x g (inl e) (inl d) = e.0 ∙ sym d.0
    apart_in q x g (inl e) (inr h) = absurd (h.1 e.1)
    apart_in q x g (inr h) (inl e) = absurd (h.1 e.1)
    apart_in q x g (inr h) (inr l) = m.made.apart q x g h.2 l.2

    mark_new : is_marked o' p ≡ true
    mark_new = ap (λ (bs : List Bool). slice_index_or bs p false) marks ∙ get_or-set_same o.marks.items p true false (subst (λ (n : ℕ). p < n) (sym m.made.marks) small)

    mark_else : (q : ℕ) → q ≢ p → is_marked o' q ≡ is_marked o q
    mark_else q n = ap (λ (bs : List Bool). slice_index_or bs q false) marks ∙ get_or-set_other o.marks.items p q true false n

    sole_in : (q g : ℕ) → Case q g → (is_marked o' q ≡ true) ↔ IsSoleAt fs g
    unfolding Case
    sole_in q g (inl e) = (λ _. ap (hold_at fs) e.1 ∙ hold_new, λ _. ap (is_marked o') e.0 ∙ mark_new)
    sole_in q g (inr h) = let w = m.made.sole q g h.2 in (λ x. hold_else g h.1 ∙ w.0 (sym (mark_else q h.0) ∙ x), λ x. mark_else q h.0 ∙ w.1 (sym (hold_else g h.1) ∙ x))

    spare_was : (g : ℕ) → o'.spare ≡ Some g → o.spare ≡ Some g
    spare_was g h = sym spare ∙ h

    spare_not : (g : ℕ) → o.spare ≡ Some g → g ≢ f
    spare_not g s = sole_not g (m.spare g s)

    spare_sole : (g : ℕ) → o'.spare ≡ Some g → IsSoleAt fs g
    spare_sole g h = hold_else g (spare_not g (spare_was g h)) ∙ m.spare g (spare_was g h)

    blank_in : (q g : ℕ) → o.spare ≡ Some g → Case q g → ⊥
    unfolding Case
    blank_in q g s (inl e) = spare_not g s e.1
    blank_in q g s (inr h) = m.made.blank q g s h.2

    abbrev page_still : (q g : ℕ) → frame_at o.map.pages q ≡ Some g → IsPageAt o' g
    page_still q g e = (q, in_else q (λ d. away_not o.map.pages p g away (ap (frame_at o.map.pages) (sym d) ∙ e)) ∙ e)

    kept_entry : (g : ℕ) → IsTable es root g ⊎ (IsPageAt o g ⊎ IsSpareAt o g) → IsTable fs root g ⊎ (IsPageAt o' g ⊎ IsSpareAt o' g)
    kept_entry g (inl t) = inl (table_forth g t)
    kept_entry g (inr (inl q)) = inr (inl (page_still q.0 g q.1))
    kept_entry g (inr (inr s)) = inr (inr (spare ∙ s))

    only_by : (g : ℕ) → (g ≡ f) ⊎ (g ≢ f) → is_here (hold_at fs g) ≡ true → IsTable fs root g ⊎ (IsPageAt o' g ⊎ IsSpareAt o' g)
    only_by g (inl e) h = inr (inl (p, in_page ∙ ap Some (sym e)))
    only_by g (inr n) h = kept_entry g (m.made.only g (ap is_here (sym (hold_else g n)) ∙ h))

    away_still : (q : ℕ) → q ≢ p → slice_get o.map.pages q ≡ Some Away → slice_get o'.map.pages q ≡ Some Away
    away_still q n e = ap (λ (ps : List Page). slice_get ps q) pages ∙ place_else o.map.pages p q (At f) n ∙ e

    -- no virtual page of another page leads to this one
    not_shown : (u q : ℕ) (b : Bool) → u < 2 ^ 18 → walk_at es root u ≡ Exposed q b → has_number u (vpns_at o.map p) ≡ false → q ≢ p
    not_shown u q b lt e none d = not_both _ ((m.made.listed p u lt).1 (ap (pfn_by o.map.pages) e ∙ ap Some d)) none

    leads_after : (u : ℕ) (w : Walk) (b : Bool) → u < 2 ^ 18 → walk_at es root u ≡ w → has_number u (vpns_at o.map p) ≡ b → LeadsTo es o w → LeadsTo fs o' (if b then turned (At f) p w else w)
    leads_after u Unmapped true lt e h l = ((p, in_page), λ _. hold_new, refl)
    leads_after u Unmapped false lt e h l = tt
    leads_after u (Local x b c) true lt e h l = ((p, in_page), λ _. hold_new, and_false (wanted_by (Local x b c)))
    leads_after u (Local x b c) false lt e h l = (page_still l.0.0 x l.0.1, λ t. hold_else x (page_not l.0.0 x l.0.1) ∙ l.1 t, l.2)
    leads_after u (Exposed q b) true lt e h l = ((p, in_page), λ _. hold_new, and_false b)
    leads_after u (Exposed q b) false lt e h l = away_still q (not_shown u q b lt e h) l

    pub in_walk : (u : ℕ) → u < 2 ^ 18 → walk_at fs root u ≡ walk_turned (At f) p (vpns_at o.map p) u (walk_at es root u)
    in_walk u lt = moved u lt ∙ ap (λ (w : Walk). walk_turned (At f) p (vpns_at o.map p) u w) (in_walks u lt)

    page_new : page_in f o'.map.pages ≡ Some p
    page_new = page_in_at o'.map.pages p f in_page (λ q d. apart_in q p f (case_of q f d) (case_of p f in_page))

    -- the page to which a virtual page leads is the same
    same_page : (u : ℕ) (w : Walk) (b : Bool) → u < 2 ^ 18 → walk_at es root u ≡ w → has_number u (vpns_at o.map p) ≡ b → LeadsTo es o w → pfn_by o'.map.pages (if b then turned (At f) p w else w) ≡ pfn_by o.map.pages w
    same_page u Unmapped true lt e h l = page_new ∙ sym (ap (pfn_by o.map.pages) (sym e) ∙ (m.made.listed p u lt).0 h)
    same_page u Unmapped false lt e h l = refl
    same_page u (Local x b c) true lt e h l = page_new ∙ sym (ap (pfn_by o.map.pages) (sym e) ∙ (m.made.listed p u lt).0 h)
    same_page u (Local x b c) false lt e h l =
        let q = page_still l.0.0 x l.0.1 in
        page_in_at o'.map.pages l.0.0 x q.1 (λ y d. apart_in y l.0.0 x (case_of y x d) (case_of l.0.0 x q.1)) ∙ sym (on es root o m l.0.0 x l.0.1)
    same_page u (Exposed q b) true lt e h l = page_new ∙ sym (ap (pfn_by o.map.pages) (sym e) ∙ (m.made.listed p u lt).0 h)
    same_page u (Exposed q b) false lt e h l = refl

    same_wanted : (w : Walk) (b : Bool) → wanted_by (if b then turned (At f) p w else w) ≡ wanted_by w
    same_wanted w true = wanted_turned (At f) p w
    same_wanted w false = refl

    pfn_after : (u : ℕ) → u < 2 ^ 18 → pfn_by o'.map.pages (walk_at fs root u) ≡ pfn_by o.map.pages (walk_at es root u)
    pfn_after u lt = ap (pfn_by o'.map.pages) (in_walk u lt) ∙ same_page u (walk_at es root u) (has_number u (vpns_at o.map p)) lt refl refl (m.made.walks u lt)

    pub in_shown : (u : ℕ) → u < 2 ^ 18 → vpn_mapping fs root o'.map.pages u ≡ vpn_mapping es root o.map.pages u
    in_shown u lt =
        ap (λ (x : Option ℕ). mapping x (wanted_by (walk_at fs root u))) (pfn_after u lt)
        ∙ ap (mapping (pfn_by o.map.pages (walk_at es root u))) (ap wanted_by (in_walk u lt) ∙ same_wanted (walk_at es root u) (has_number u (vpns_at o.map p)))

    listed_after : (q u : ℕ) → u < 2 ^ 18 → (has_number u (vpns_at o'.map q) ≡ true) ↔ (pfn_by o'.map.pages (walk_at fs root u) ≡ Some q)
    listed_after q u lt =
        let same : has_number u (vpns_at o'.map q) ≡ has_number u (vpns_at o.map q) = ap (λ (ls : List (List ℕ)). has_number u (slice_index_or ls q [])) vpns in
        let w = m.made.listed q u lt in (λ h. pfn_after u lt ∙ w.0 (sym same ∙ h), λ h. same ∙ w.1 (sym (pfn_after u lt) ∙ h))

    bytes_else : (q : ℕ) (x : Option ℕ) → frame_at o.map.pages q ≡ x → bytes_for fs x ≡ bytes_for es x
    bytes_else q None e = refl
    bytes_else q (Some g) e = ap (λ (ws : List ℕ). Some (bytes_of ws)) (r.words g (λ t. m.made.plain q g e (table_mid g t)) ∙ words g (page_not q g e))

    pub in_bytes : (q : ℕ) → q ≢ p → page_bytes fs o'.map.pages q ≡ page_bytes es o.map.pages q
    in_bytes q n = ap (bytes_for fs) (in_else q n) ∙ bytes_else q (frame_at o.map.pages q) refl

    pub in_new : page_bytes fs o'.map.pages p ≡ Some (bytes_at es' f)
    in_new = ap (bytes_for fs) in_page ∙ ap (λ (ws : List ℕ). Some (bytes_of ws)) (r.words f (λ t. table_not f (table_mid f t) refl))

    -- a local page stays one
    pub in_local : (q : ℕ) → IsSome (frame_at o.map.pages q) → IsSome (frame_at o'.map.pages q)
    in_local q h = by (same_or_not q p) where
      by : (q ≡ p) ⊎ (q ≢ p) → IsSome (frame_at o'.map.pages q)
      by (inl e) = subst IsSome (sym (ap (frame_at o'.map.pages) e ∙ in_page)) refl
      by (inr n) = subst IsSome (sym (in_else q n)) h

    pub in_memory : IsMemory fs root o'
    in_memory = record {
      made = record {
        tables = r.tables;
        few = subst (λ (ps : List Page). length ps ≤ 1024) (sym pages) (subst (λ (n : ℕ). n ≤ 1024) (sym (length-set o.map.pages p (At f))) m.made.few);
        lists = ap (λ (ls : List (List ℕ)). length ls) vpns ∙ m.made.lists ∙ sym (ap (λ (ps : List Page). length ps) pages ∙ length-set o.map.pages p (At f));
        marks = ap (λ (bs : List Bool). length bs) marks ∙ length-set o.marks.items p true ∙ m.made.marks ∙ sym (ap (λ (ps : List Page). length ps) pages ∙ length-set o.map.pages p (At f));
        held = λ q g h. held_in q g (case_of q g h);
        plain = λ q g h t. plain_in q g (case_of q g h) (table_back g t);
        apart = λ q x g h l. apart_in q x g (case_of q g h) (case_of x g l);
        sole = λ q g h. sole_in q g (case_of q g h);
        once = λ g h. ap weight_of (spare_sole g h);
        unused = λ g h t. m.made.unused g (spare_was g h) (table_back g t);
        blank = λ q g h e. blank_in q g (spare_was g h) (case_of q g e);
        only = λ g h. only_by g (same_or_not g f) h;
        walks = λ u lt. subst (LeadsTo fs o') (sym (in_walk u lt)) (leads_after u (walk_at es root u) (has_number u (vpns_at o.map p)) lt refl refl (m.made.walks u lt));
        listed = listed_after;
      };
      spare = spare_sole;
    }
