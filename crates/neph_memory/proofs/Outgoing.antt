-- A page is exposed: its frame goes over to another seat.
use Rattle.std.proofs.Common.{◌≡◌, ◌≢◌, ◌<◌, ◌^◌, ◌⊎◌, ◌↔◌, inl, inr, ◌≤◌, ℕ, zero, suc, Bool, true, false, List, [], ◌∷◌, length, set, slice_get, slice_index_or, Some, None, refl, sym, ap, subst, ◌∙◌, arith, if◌then◌else◌, length-set}
use Rattle.std.proofs.lemmas.List.{get_or-set_other}
use Rattle.std.specs.declared.option.Option.{Option}
use Rattle.neph_pool.specs.declared.entry.Entry.{Entry}
use Rattle.neph_pool.specs.Entries.{hold_at, words_at, is_here, weight_of, IsSoleAt}
use Rattle.neph_pool.specs.Bytes.{bytes_of}
use Rattle.neph_pool.proofs.Rows.{same_or_not}
use Rattle.neph_ptab.specs.declared.walk.Walk.{Walk}
use Rattle.neph_ptab.specs.declared.walk.Walk.TheVariants.{None as Unmapped, Local, Exposed}
use Rattle.neph_ptab.specs.Tables.{leaf_at, walk_at, IsTable, IsTables, IsRetabled}
use Rattle.neph_ptab.proofs.Changing.{IsBeside, leaves_stay, walks_stay, tables_stay}
use Rattle.neph_gmap.specs.declared.page.Page.{Page}
use Rattle.neph_gmap.specs.declared.page.Page.TheVariants.{Exposed as Away}
use Rattle.neph_gmap.specs.GuestPages.{vpns_at, has_number}
use Rattle.neph_memory.specs.declared.own.Own.{Own}
use Rattle.neph_memory.specs.Pages.{frame_at}
use Rattle.neph_memory.specs.Memory.{mapping, pfn_by, wanted_by, vpn_mapping, bytes_for, page_bytes, is_marked, IsPageAt, IsSpareAt, LeadsTo, IsMemory}
use Rattle.neph_memory.specs.Exposed.{turned, walk_turned}
use Rattle.neph_memory.proofs.Places.{some_same, frame_set, frame_else, frame_small, place_else, away_not, page_in_at}
use Rattle.neph_memory.proofs.Leading.{on}
use Rattle.neph_memory.proofs.Moves.{same_tables}
use Rattle.neph_memory.proofs.Turning.{wanted_turned, some_walk}

true_not : (b : Bool) → b ≡ true → b ≡ false → ⊥
true_not b h k = cc

place_set : (ps : List Page) (p : ℕ) (x : Page) → p < length ps → slice_get (set ps p x) p ≡ Some x
place_set [] p x lt = absurd (omega arith)
place_set (y ∷ ps) zero x lt = refl
place_set (y ∷ ps) (suc p) x lt = place_set ps p x (omega arith)

module _ (es es' : List (Option Entry)) (root : ℕ) (o : Own) (m : IsMemory es root o) (p f : ℕ) (at : frame_at o.map.pages p ≡ Some f) (gone : hold_at es' f ≡ None)
    (holds : (g : ℕ) → g ≢ f → hold_at es' g ≡ hold_at es g) (words : (g : ℕ) → g ≢ f → words_at es' g ≡ words_at es g) where
  not_table : (g : ℕ) → IsTable es root g → g ≢ f
  not_table g t d = m.made.plain p f at (subst (IsTable es root) d t)

  beside : IsBeside es es' root
  beside = record { holds = λ g t. holds g (not_table g t); words = λ g t. words g (not_table g t) }

  pub out_tables : IsTables es' root
  out_tables = tables_stay es es' root m.made.tables beside

  out_walks : (u : ℕ) → u < 2 ^ 18 → walk_at es' root u ≡ walk_at es root u
  out_walks = walks_stay es es' root m.made.tables beside

  pub out_leaves : (i : ℕ) → leaf_at es' root i ≡ leaf_at es root i
  out_leaves = leaves_stay es es' root m.made.tables beside

  pub out_mapped : (u : ℕ) → u < 2 ^ 18 → has_number u (vpns_at o.map p) ≡ true → walk_at es' root u ≢ Unmapped
  out_mapped u lt h d = some_walk o.map.pages p (walk_at es root u) ((m.made.listed p u lt).0 h) (sym (out_walks u lt) ∙ d)

  module _ (fs : List (Option Entry)) (o' : Own) (r : IsRetabled es' fs root)
      (moved : (u : ℕ) → u < 2 ^ 18 → walk_at fs root u ≡ walk_turned Away p (vpns_at o.map p) u (walk_at es' root u))
      (pages : o'.map.pages ≡ set o.map.pages p Away) (vpns : o'.map.vpns ≡ o.map.vpns) (marks : o'.marks.items ≡ set o.marks.items p false) (spare : o'.spare ≡ o.spare) where
    small : p < length o.map.pages
    small = frame_small o.map.pages p f at

    new_place : slice_get o'.map.pages p ≡ Some Away
    new_place = ap (λ (ps : List Page). slice_get ps p) pages ∙ place_set o.map.pages p Away small

    pub out_page : frame_at o'.map.pages p ≡ None
    out_page = ap (λ (ps : List Page). frame_at ps p) pages ∙ frame_set o.map.pages p Away small

    pub out_else : (q : ℕ) → q ≢ p → frame_at o'.map.pages q ≡ frame_at o.map.pages q
    out_else q n = ap (λ (ps : List Page). frame_at ps q) pages ∙ frame_else o.map.pages p q Away n

    hold_else : (g : ℕ) → g ≢ f → hold_at fs g ≡ hold_at es g
    hold_else g n = r.holds g ∙ holds g n

    table_mid : (g : ℕ) → IsTable es' root g → IsTable es root g
    table_mid g t = same_tables es es' root g (λ i lt. out_leaves i) t

    table_back : (g : ℕ) → IsTable fs root g → IsTable es root g
    table_back g t = table_mid g (same_tables es' fs root g r.leaves t)

    table_forth : (g : ℕ) → IsTable es root g → IsTable fs root g
    table_forth g t = same_tables fs es root g (λ i lt. sym (r.leaves i lt ∙ out_leaves i)) t

    -- another page, in another frame
    abbrev Case : ℕ → ℕ → Type 0
    Case q g = (q ≢ p) × (g ≢ f) × (frame_at o.map.pages q ≡ Some g)

    other_frame : (q g : ℕ) → q ≢ p → frame_at o.map.pages q ≡ Some g → g ≢ f
    other_frame q g n e h = n (m.made.apart q p g e (at ∙ ap Some (sym h)))

    case_by : (q g : ℕ) → (q ≡ p) ⊎ (q ≢ p) → frame_at o'.map.pages q ≡ Some g → Case q g
    case_by q g (inl e) h = absurd (let z : None ≡ Some g = sym (ap (frame_at o'.map.pages) e ∙ out_page) ∙ h in cc)
    case_by q g (inr n) h = let h' = sym (out_else q n) ∙ h in (n, other_frame q g n h', h')

    case_of : (q g : ℕ) → frame_at o'.map.pages q ≡ Some g → Case q g
    case_of q g h = case_by q g (same_or_not q p) h

    mark_else : (q : ℕ) → q ≢ p → is_marked o' q ≡ is_marked o q
    mark_else q n = ap (λ (bs : List Bool). slice_index_or bs q false) marks ∙ get_or-set_other o.marks.items p q false false n

    sole_after : (q g : ℕ) → Case q g → (is_marked o' q ≡ true) ↔ IsSoleAt fs g
    sole_after q g k = let w = m.made.sole q g k.2 in (λ x. hold_else g k.1 ∙ w.0 (sym (mark_else q k.0) ∙ x), λ x. mark_else q k.0 ∙ w.1 (sym (hold_else g k.1) ∙ x))

    spare_was : (g : ℕ) → o'.spare ≡ Some g → o.spare ≡ Some g
    spare_was g h = sym spare ∙ h

    spare_not : (g : ℕ) → o.spare ≡ Some g → g ≢ f
    spare_not g s d = m.made.blank p g s (at ∙ ap Some (sym d))

    spare_sole : (g : ℕ) → o'.spare ≡ Some g → IsSoleAt fs g
    spare_sole g h = hold_else g (spare_not g (spare_was g h)) ∙ m.spare g (spare_was g h)

    here_not : (g : ℕ) → is_here (hold_at fs g) ≡ true → g ≢ f
    here_not g h d = let z : false ≡ true = sym (ap is_here (ap (hold_at fs) d ∙ r.holds f ∙ gone)) ∙ h in cc

    abbrev page_still : (q g : ℕ) → g ≢ f → frame_at o.map.pages q ≡ Some g → IsPageAt o' g
    page_still q g n e = (q, out_else q (λ d. n (some_same g f (sym e ∙ ap (frame_at o.map.pages) d ∙ at))) ∙ e)

    kept_entry : (g : ℕ) → g ≢ f → IsTable es root g ⊎ (IsPageAt o g ⊎ IsSpareAt o g) → IsTable fs root g ⊎ (IsPageAt o' g ⊎ IsSpareAt o' g)
    kept_entry g n (inl t) = inl (table_forth g t)
    kept_entry g n (inr (inl q)) = inr (inl (page_still q.0 g n q.1))
    kept_entry g n (inr (inr s)) = inr (inr (spare ∙ s))

    not_listed : (u h : ℕ) (b c : Bool) → u < 2 ^ 18 → walk_at es root u ≡ Local h b c → has_number u (vpns_at o.map p) ≡ false → h ≢ f
    not_listed u h b c lt e absent eq =
        true_not _ ((m.made.listed p u lt).1 (ap (pfn_by o.map.pages) e ∙ on es root o m p h (at ∙ ap Some (sym eq)))) absent

    away_still : (q : ℕ) → slice_get o.map.pages q ≡ Some Away → slice_get o'.map.pages q ≡ Some Away
    away_still q e = ap (λ (ps : List Page). slice_get ps q) pages ∙ place_else o.map.pages p q Away (λ d. away_not o.map.pages p f (ap (slice_get o.map.pages) (sym d) ∙ e) at) ∙ e

    leads_after : (u : ℕ) (w : Walk) (b : Bool) → u < 2 ^ 18 → walk_at es root u ≡ w → has_number u (vpns_at o.map p) ≡ b → LeadsTo es o w → LeadsTo fs o' (if b then turned Away p w else w)
    leads_after u Unmapped true lt e h l = new_place
    leads_after u Unmapped false lt e h l = tt
    leads_after u (Local x b c) true lt e h l = new_place
    leads_after u (Local x b c) false lt e h l = let n = not_listed u x b c lt e h in (page_still l.0.0 x n l.0.1, λ t. hold_else x n ∙ l.1 t, l.2)
    leads_after u (Exposed q b) true lt e h l = new_place
    leads_after u (Exposed q b) false lt e h l = away_still q l

    pub out_walk : (u : ℕ) → u < 2 ^ 18 → walk_at fs root u ≡ walk_turned Away p (vpns_at o.map p) u (walk_at es root u)
    out_walk u lt = moved u lt ∙ ap (λ (w : Walk). walk_turned Away p (vpns_at o.map p) u w) (out_walks u lt)

    -- the page to which a virtual page leads is the same
    same_page : (u : ℕ) (w : Walk) (b : Bool) → u < 2 ^ 18 → walk_at es root u ≡ w → has_number u (vpns_at o.map p) ≡ b → LeadsTo es o w → pfn_by o'.map.pages (if b then turned Away p w else w) ≡ pfn_by o.map.pages w
    same_page u Unmapped true lt e h l = sym (ap (pfn_by o.map.pages) (sym e) ∙ (m.made.listed p u lt).0 h)
    same_page u Unmapped false lt e h l = refl
    same_page u (Local x b c) true lt e h l = sym (ap (pfn_by o.map.pages) (sym e) ∙ (m.made.listed p u lt).0 h)
    same_page u (Local x b c) false lt e h l =
        let q = page_still l.0.0 x (not_listed u x b c lt e h) l.0.1 in
        page_in_at o'.map.pages l.0.0 x q.1 (λ y d. m.made.apart y l.0.0 x (case_of y x d).2 l.0.1) ∙ sym (on es root o m l.0.0 x l.0.1)
    same_page u (Exposed q b) true lt e h l = sym (ap (pfn_by o.map.pages) (sym e) ∙ (m.made.listed p u lt).0 h)
    same_page u (Exposed q b) false lt e h l = refl

    same_wanted : (w : Walk) (b : Bool) → wanted_by (if b then turned Away p w else w) ≡ wanted_by w
    same_wanted w true = wanted_turned Away p w
    same_wanted w false = refl

    pfn_after : (u : ℕ) → u < 2 ^ 18 → pfn_by o'.map.pages (walk_at fs root u) ≡ pfn_by o.map.pages (walk_at es root u)
    pfn_after u lt = ap (pfn_by o'.map.pages) (out_walk u lt) ∙ same_page u (walk_at es root u) (has_number u (vpns_at o.map p)) lt refl refl (m.made.walks u lt)

    pub out_shown : (u : ℕ) → u < 2 ^ 18 → vpn_mapping fs root o'.map.pages u ≡ vpn_mapping es root o.map.pages u
    out_shown u lt =
        ap (λ (x : Option ℕ). mapping x (wanted_by (walk_at fs root u))) (pfn_after u lt)
        ∙ ap (mapping (pfn_by o.map.pages (walk_at es root u))) (ap wanted_by (out_walk u lt) ∙ same_wanted (walk_at es root u) (has_number u (vpns_at o.map p)))

    listed_after : (q u : ℕ) → u < 2 ^ 18 → (has_number u (vpns_at o'.map q) ≡ true) ↔ (pfn_by o'.map.pages (walk_at fs root u) ≡ Some q)
    listed_after q u lt =
        let same : has_number u (vpns_at o'.map q) ≡ has_number u (vpns_at o.map q) = ap (λ (ls : List (List ℕ)). has_number u (slice_index_or ls q [])) vpns in
        let w = m.made.listed q u lt in (λ h. pfn_after u lt ∙ w.0 (sym same ∙ h), λ h. same ∙ w.1 (sym (pfn_after u lt) ∙ h))

    bytes_else : (q : ℕ) (x : Option ℕ) → q ≢ p → frame_at o.map.pages q ≡ x → bytes_for fs x ≡ bytes_for es x
    bytes_else q None n e = refl
    bytes_else q (Some g) n e = ap (λ (ws : List ℕ). Some (bytes_of ws)) (r.words g (λ t. m.made.plain q g e (table_mid g t)) ∙ words g (other_frame q g n e))

    pub out_bytes : (q : ℕ) → q ≢ p → page_bytes fs o'.map.pages q ≡ page_bytes es o.map.pages q
    out_bytes q n = ap (bytes_for fs) (out_else q n) ∙ bytes_else q (frame_at o.map.pages q) n refl

    pub out_none : page_bytes fs o'.map.pages p ≡ None
    out_none = ap (bytes_for fs) out_page

    pub out_memory : IsMemory fs root o'
    out_memory = record {
      made = record {
        tables = r.tables;
        few = subst (λ (ps : List Page). length ps ≤ 1024) (sym pages) (subst (λ (n : ℕ). n ≤ 1024) (sym (length-set o.map.pages p Away)) m.made.few);
        lists = ap (λ (ls : List (List ℕ)). length ls) vpns ∙ m.made.lists ∙ sym (ap (λ (ps : List Page). length ps) pages ∙ length-set o.map.pages p Away);
        marks = ap (λ (bs : List Bool). length bs) marks ∙ length-set o.marks.items p false ∙ m.made.marks ∙ sym (ap (λ (ps : List Page). length ps) pages ∙ length-set o.map.pages p Away);
        held = λ q g h. ap weight_of (hold_else g (case_of q g h).1) ∙ m.made.held q g (case_of q g h).2;
        plain = λ q g h t. m.made.plain q g (case_of q g h).2 (table_back g t);
        apart = λ q x g h l. m.made.apart q x g (case_of q g h).2 (case_of x g l).2;
        sole = λ q g h. sole_after q g (case_of q g h);
        once = λ g h. ap weight_of (spare_sole g h);
        unused = λ g h t. m.made.unused g (spare_was g h) (table_back g t);
        blank = λ q g h e. m.made.blank q g (spare_was g h) (case_of q g e).2;
        only = λ g h. kept_entry g (here_not g h) (m.made.only g (ap is_here (sym (hold_else g (here_not g h))) ∙ h));
        walks = λ u lt. subst (LeadsTo fs o') (sym (out_walk u lt)) (leads_after u (walk_at es root u) (has_number u (vpns_at o.map p)) lt refl refl (m.made.walks u lt));
        listed = listed_after;
      };
      spare = spare_sole;
    }
