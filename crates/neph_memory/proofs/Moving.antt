-- A page that several domains have moves into the spare.
use Rattle.std.proofs.Common.{◌≡◌, ◌≢◌, ◌<◌, ◌^◌, ◌||◌, ◌&&◌, ◌⊎◌, ◌↔◌, inl, inr, ◌≤◌, ℕ, Bool, true, false, List, [], length, set, slice_get, slice_index_or, Some, None, IsSome, refl, sym, ap, subst, ◌∙◌, if◌then◌else◌, length-set}
use Rattle.std.proofs.lemmas.List.{get_or-set_other, get_or-set_same}
use Rattle.std.specs.declared.option.Option.{Option}
use Rattle.neph_pool.specs.declared.entry.Entry.{Entry}
use Rattle.neph_pool.specs.declared.entry.Hold.TheVariants.{Sole}
use Rattle.neph_pool.specs.Entries.{hold_at, words_at, is_here, weight_of, with_words, IsOnceAt, IsSoleAt}
use Rattle.neph_pool.proofs.Entries.{hold_at-with_words, words_at-with_words, words_at-with_words_other}
use Rattle.neph_pool.proofs.Rows.{same_or_not}
use Rattle.neph_ptab.specs.declared.walk.Walk.{Walk}
use Rattle.neph_ptab.specs.declared.walk.Walk.TheVariants.{None as Unmapped, Local, Exposed}
use Rattle.neph_ptab.specs.Tables.{leaf_at, walk_at, IsTable, IsTables, IsRetabled}
use Rattle.neph_ptab.proofs.Changing.{IsBeside, leaves_stay, walks_stay, tables_stay}
use Rattle.neph_gmap.specs.declared.page.Page.{Page}
use Rattle.neph_gmap.specs.declared.page.Page.TheVariants.{Local as At, Exposed as Away}
use Rattle.neph_gmap.specs.GuestPages.{vpns_at, has_number}
use Rattle.neph_memory.specs.declared.own.Own.{Own}
use Rattle.neph_memory.proofs.Places.{some_same, frame_set, frame_else, frame_small, place_else, away_not, page_in_at}
use Rattle.neph_memory.proofs.Leading.{on}
use Rattle.neph_memory.proofs.Moves.{same_tables, moved_to}
use Rattle.neph_pool.specs.Bytes.{bytes_of}
use Rattle.neph_memory.specs.Pages.{frame_at}
use Rattle.neph_memory.specs.Memory.{mapping, pfn_by, wanted_by, vpn_mapping, bytes_for, page_bytes, is_marked, IsPageAt, IsSpareAt, LeadsTo, IsMemory}
use Rattle.neph_ptab.specs.Moves.{IsLocal}

or_false : (b : Bool) → (b || false) ≡ b
or_false true = refl
or_false false = refl

and_false : (b : Bool) → (b && false) ≡ false
and_false true = refl
and_false false = refl

true_not : (b : Bool) → b ≡ true → b ≡ false → ⊥
true_not b h k = cc

-- the entries after the copy and the release: es' beside es
pub record IsCopied (es es' : List (Option Entry)) (f s : ℕ) (last : Bool) : Type 0 where
  pub left : hold_at es' f ≡ (if last then Some Sole else None)
  pub holds : (g : ℕ) → g ≢ f → hold_at es' g ≡ hold_at es g
  pub words : (g : ℕ) → g ≢ f → g ≢ s → words_at es' g ≡ words_at es g
  pub copied : words_at es' s ≡ words_at es f

pub spare_apart : (es : List (Option Entry)) (root : ℕ) (o : Own) → IsMemory es root o → (p f s : ℕ) → frame_at o.map.pages p ≡ Some f → o.spare ≡ Some s → s ≢ f
spare_apart es root o m p f s at sp e = m.made.blank p s sp (at ∙ ap Some (sym e))

pub is_copied : (es es1 es' : List (Option Entry)) (f s : ℕ) (last : Bool) → s ≢ f → is_here (hold_at es s) ≡ true → es1 ≡ with_words es s (words_at es f) → hold_at es' f ≡ (if last then Some Sole else None)
    → ((g : ℕ) → g ≢ f → hold_at es' g ≡ hold_at es1 g) → ((g : ℕ) → g ≢ f → words_at es' g ≡ words_at es1 g) → IsCopied es es' f s last
is_copied es es1 es' f s last n here e left holds words = record {
  left = left;
  holds = λ g d. holds g d ∙ ap (λ (xs : List (Option Entry)). hold_at xs g) e ∙ hold_at-with_words es s (words_at es f) g;
  words = λ g d q. words g d ∙ ap (λ (xs : List (Option Entry)). words_at xs g) e ∙ words_at-with_words_other es s (words_at es f) g q;
  copied = words s n ∙ ap (λ (xs : List (Option Entry)). words_at xs s) e ∙ words_at-with_words es s (words_at es f) here;
}

module _ (es es' : List (Option Entry)) (root : ℕ) (o : Own) (m : IsMemory es root o) (p f s : ℕ) (last : Bool) (at : frame_at o.map.pages p ≡ Some f) (sp : o.spare ≡ Some s) (k : IsCopied es es' f s last) where
  pub apart_frames : s ≢ f
  apart_frames e = m.made.blank p s sp (at ∙ ap Some (sym e))

  not_table : (g : ℕ) → IsTable es root g → (g ≢ f) × (g ≢ s)
  not_table g t = (λ e. m.made.plain p f at (subst (IsTable es root) e t), λ e. m.made.unused s sp (subst (IsTable es root) e t))

  beside : IsBeside es es' root
  beside = record {
    holds = λ g t. k.holds g (not_table g t).0;
    words = λ g t. k.words g (not_table g t).0 (not_table g t).1;
  }

  pub copied_tables : IsTables es' root
  copied_tables = tables_stay es es' root m.made.tables beside

  pub copied_walks : (u : ℕ) → u < 2 ^ 18 → walk_at es' root u ≡ walk_at es root u
  copied_walks = walks_stay es es' root m.made.tables beside

  pub copied_leaves : (i : ℕ) → leaf_at es' root i ≡ leaf_at es root i
  copied_leaves = leaves_stay es es' root m.made.tables beside

  -- a virtual page of the page leads to a page of the domain's own
  local_walk : (w : Walk) → pfn_by o.map.pages w ≡ Some p → LeadsTo es o w → IsLocal w
  local_walk Unmapped e l = absurd (cc)
  local_walk (Local h b c) e l = tt
  local_walk (Exposed q b) e l = absurd (away_not o.map.pages p f (ap (slice_get o.map.pages) (sym (some_same q p e)) ∙ l) at)

  pub listed_local : (u : ℕ) → u < 2 ^ 18 → has_number u (vpns_at o.map p) ≡ true → IsLocal (walk_at es' root u)
  listed_local u lt h = subst IsLocal (sym (copied_walks u lt)) (local_walk (walk_at es root u) ((m.made.listed p u lt).0 h) (m.made.walks u lt))

  module _ (fs : List (Option Entry)) (o' : Own) (r : IsRetabled es' fs root)
      (moved : (u : ℕ) → u < 2 ^ 18 → walk_at fs root u ≡ (if has_number u (vpns_at o.map p) then moved_to s (walk_at es' root u) else walk_at es' root u))
      (pages : o'.map.pages ≡ set o.map.pages p (At s)) (vpns : o'.map.vpns ≡ o.map.vpns) (marks : o'.marks.items ≡ set o.marks.items p true) (spare : o'.spare ≡ (if last then Some f else None)) where
    small : p < length o.map.pages
    small = frame_small o.map.pages p f at

    pub new_page : frame_at o'.map.pages p ≡ Some s
    new_page = ap (λ (ps : List Page). frame_at ps p) pages ∙ frame_set o.map.pages p (At s) small

    pub old_page : (q : ℕ) → q ≢ p → frame_at o'.map.pages q ≡ frame_at o.map.pages q
    old_page q n = ap (λ (ps : List Page). frame_at ps q) pages ∙ frame_else o.map.pages p q (At s) n

    hold_new : hold_at fs s ≡ Some Sole
    hold_new = r.holds s ∙ k.holds s apart_frames ∙ m.spare s sp

    hold_else : (g : ℕ) → g ≢ f → hold_at fs g ≡ hold_at es g
    hold_else g n = r.holds g ∙ k.holds g n

    table_mid : (g : ℕ) → IsTable es' root g → IsTable es root g
    table_mid g t = same_tables es es' root g (λ i lt. copied_leaves i) t

    table_back : (g : ℕ) → IsTable fs root g → IsTable es root g
    table_back g t = table_mid g (same_tables es' fs root g r.leaves t)

    table_forth : (g : ℕ) → IsTable es root g → IsTable fs root g
    table_forth g t = same_tables fs es root g (λ i lt. sym (r.leaves i lt ∙ copied_leaves i)) t

    -- the page with its new frame, or another with its old one
    Case : ℕ → ℕ → Type 0
    Case q g = ((q ≡ p) × (g ≡ s)) ⊎ ((q ≢ p) × (g ≢ f) × (frame_at o.map.pages q ≡ Some g))

    other_frame : (q g : ℕ) → q ≢ p → frame_at o.map.pages q ≡ Some g → g ≢ f
    other_frame q g n e h = n (m.made.apart q p g e (at ∙ ap Some (sym h)))

    case_by : (q g : ℕ) → (q ≡ p) ⊎ (q ≢ p) → frame_at o'.map.pages q ≡ Some g → Case q g
    unfolding Case
    case_by q g (inl e) h = inl (e, some_same g s (sym h ∙ ap (frame_at o'.map.pages) e ∙ new_page))
    case_by q g (inr n) h = let h' = sym (old_page q n) ∙ h in inr (n, other_frame q g n h', h')

    case_of : (q g : ℕ) → frame_at o'.map.pages q ≡ Some g → Case q g
    case_of q g h = case_by q g (same_or_not q p) h

    held_in : (q g : ℕ) → Case q g → IsOnceAt fs g
    unfolding Case
    held_in q g (inl e) = ap (λ (x : ℕ). weight_of (hold_at fs x)) e.1 ∙ ap weight_of hold_new
    held_in q g (inr h) = ap weight_of (hold_else g h.1) ∙ m.made.held q g h.2

    plain_in : (q g : ℕ) → Case q g → IsTable es root g → ⊥
    unfolding Case
    plain_in q g (inl e) t = m.made.unused s sp (subst (IsTable es root) e.1 t)
    plain_in q g (inr h) t = m.made.plain q g h.2 t

    apart_in : (q x g : ℕ) → Case q g → Case x g → q ≡ x
    unfolding Case
    apart_in q x g (inl e) (inl d) = e.0 ∙ sym d.0
    apart_in q x g (inl e) (inr h) = absurd (m.made.blank x s sp (h.2 ∙ ap Some e.1))
    apart_in q x g (inr h) (inl e) = absurd (m.made.blank q s sp (h.2 ∙ ap Some e.1))
    apart_in q x g (inr h) (inr l) = m.made.apart q x g h.2 l.2

    page_by : (q : ℕ) → (q ≡ p) ⊎ (q ≢ p) → IsSome (frame_at o.map.pages q) → IsSome (frame_at o'.map.pages q)
    page_by q (inl e) h = subst IsSome (sym (ap (frame_at o'.map.pages) e ∙ new_page)) refl
    page_by q (inr n) h = subst IsSome (sym (old_page q n)) h

    -- a local page stays one
    pub local_after : (q : ℕ) → IsSome (frame_at o.map.pages q) → IsSome (frame_at o'.map.pages q)
    local_after q h = page_by q (same_or_not q p) h

    mark_new : is_marked o' p ≡ true
    mark_new = ap (λ (bs : List Bool). slice_index_or bs p false) marks ∙ get_or-set_same o.marks.items p true false (subst (λ (n : ℕ). p < n) (sym m.made.marks) small)

    pub marked : is_marked o' p ≡ true
    marked = mark_new

    mark_else : (q : ℕ) → q ≢ p → is_marked o' q ≡ is_marked o q
    mark_else q n = ap (λ (bs : List Bool). slice_index_or bs q false) marks ∙ get_or-set_other o.marks.items p q true false n

    sole_in : (q g : ℕ) → Case q g → (is_marked o' q ≡ true) ↔ IsSoleAt fs g
    unfolding Case
    sole_in q g (inl e) = (λ _. ap (hold_at fs) e.1 ∙ hold_new, λ _. ap (is_marked o') e.0 ∙ mark_new)
    sole_in q g (inr h) = let w = m.made.sole q g h.2 in (λ x. hold_else g h.1 ∙ w.0 (sym (mark_else q h.0) ∙ x), λ x. mark_else q h.0 ∙ w.1 (sym (hold_else g h.1) ∙ x))

    spare_is : (b : Bool) (g : ℕ) → last ≡ b → o'.spare ≡ Some g → (b ≡ true) × (g ≡ f)
    spare_is true g e h = (refl, some_same g f (sym h ∙ spare ∙ ap (λ (b : Bool). if b then Some f else None) e))
    spare_is false g e h = absurd (let z : None ≡ Some g = sym (spare ∙ ap (λ (b : Bool). if b then Some f else None) e) ∙ h in cc)

    spare_frame : (g : ℕ) → o'.spare ≡ Some g → g ≡ f
    spare_frame g h = (spare_is last g refl h).1

    spare_sole : (g : ℕ) → o'.spare ≡ Some g → IsSoleAt fs g
    spare_sole g h = let w = spare_is last g refl h in ap (hold_at fs) w.1 ∙ r.holds f ∙ k.left ∙ ap (λ (b : Bool). if b then Some Sole else None) w.0

    blank_in : (q g : ℕ) → g ≡ f → Case q g → ⊥
    unfolding Case
    blank_in q g e (inl d) = apart_frames (sym d.1 ∙ e)
    blank_in q g e (inr h) = h.1 e

    here_last : (b : Bool) → last ≡ b → is_here (hold_at fs f) ≡ true → b ≡ true
    here_last true e h = refl
    here_last false e h = absurd (let z : is_here (hold_at fs f) ≡ false = ap is_here (r.holds f ∙ k.left ∙ ap (λ (b : Bool). if b then Some Sole else None) e) in cc)

    abbrev page_still : (q g : ℕ) → g ≢ f → frame_at o.map.pages q ≡ Some g → IsPageAt o' g
    page_still q g n e = (q, old_page q (λ d. n (some_same g f (sym e ∙ ap (frame_at o.map.pages) d ∙ at))) ∙ e)

    kept_entry : (g : ℕ) → g ≢ f → IsTable es root g ⊎ (IsPageAt o g ⊎ IsSpareAt o g) → IsTable fs root g ⊎ (IsPageAt o' g ⊎ IsSpareAt o' g)
    kept_entry g n (inl t) = inl (table_forth g t)
    kept_entry g n (inr (inl q)) = inr (inl (page_still q.0 g n q.1))
    kept_entry g n (inr (inr h)) = inr (inl (p, new_page ∙ sym sp ∙ h))

    only_by : (g : ℕ) → (g ≡ f) ⊎ (g ≢ f) → is_here (hold_at fs g) ≡ true → IsTable fs root g ⊎ (IsPageAt o' g ⊎ IsSpareAt o' g)
    only_by g (inl e) h = inr (inr (spare ∙ ap (λ (b : Bool). if b then Some f else None) (here_last last refl (ap (λ (x : ℕ). is_here (hold_at fs x)) (sym e) ∙ h)) ∙ ap Some (sym e)))
    only_by g (inr n) h = kept_entry g n (m.made.only g (ap is_here (sym (hold_else g n)) ∙ h))

    -- no other page is mapped where this one is
    not_listed : (u h : ℕ) (b c : Bool) → u < 2 ^ 18 → walk_at es root u ≡ Local h b c → has_number u (vpns_at o.map p) ≡ false → h ≢ f
    not_listed u h b c lt e absent eq =
        true_not _ ((m.made.listed p u lt).1 (ap (pfn_by o.map.pages) e ∙ on es root o m p h (at ∙ ap Some (sym eq)))) absent

    away_still : (q : ℕ) → slice_get o.map.pages q ≡ Some Away → slice_get o'.map.pages q ≡ Some Away
    away_still q e = ap (λ (ps : List Page). slice_get ps q) pages ∙ place_else o.map.pages p q (At s) (λ d. away_not o.map.pages p f (ap (slice_get o.map.pages) (sym d) ∙ e) at) ∙ e

    leads_after : (u : ℕ) (w : Walk) (b : Bool) → u < 2 ^ 18 → walk_at es root u ≡ w → has_number u (vpns_at o.map p) ≡ b → LeadsTo es o w → LeadsTo fs o' (if b then moved_to s w else w)
    leads_after u Unmapped true lt e h l = tt
    leads_after u Unmapped false lt e h l = tt
    leads_after u (Local x b c) true lt e h l = ((p, new_page), λ _. hold_new, and_false (b || c))
    leads_after u (Local x b c) false lt e h l = let n = not_listed u x b c lt e h in (page_still l.0.0 x n l.0.1, λ t. hold_else x n ∙ l.1 t, l.2)
    leads_after u (Exposed q b) true lt e h l = away_still q l
    leads_after u (Exposed q b) false lt e h l = away_still q l

    walk_after : (u : ℕ) → u < 2 ^ 18 → walk_at fs root u ≡ (if has_number u (vpns_at o.map p) then moved_to s (walk_at es root u) else walk_at es root u)
    walk_after u lt = moved u lt ∙ ap (λ (w : Walk). if has_number u (vpns_at o.map p) then moved_to s w else w) (copied_walks u lt)

    -- the page to which a virtual page leads is the same
    same_page : (u : ℕ) (w : Walk) (b : Bool) → u < 2 ^ 18 → walk_at es root u ≡ w → has_number u (vpns_at o.map p) ≡ b → LeadsTo es o w → pfn_by o'.map.pages (if b then moved_to s w else w) ≡ pfn_by o.map.pages w
    same_page u Unmapped true lt e h l = refl
    same_page u Unmapped false lt e h l = refl
    same_page u (Local x b c) true lt e h l =
        page_in_at o'.map.pages p s new_page (λ q d. apart_in q p s (case_of q s d) (case_of p s new_page)) ∙ sym (ap (pfn_by o.map.pages) (sym e) ∙ (m.made.listed p u lt).0 h)
    same_page u (Local x b c) false lt e h l =
        let n = not_listed u x b c lt e h in
        let q = page_still l.0.0 x n l.0.1 in
        page_in_at o'.map.pages l.0.0 x q.1 (λ y d. apart_in y l.0.0 x (case_of y x d) (case_of l.0.0 x q.1)) ∙ sym (on es root o m l.0.0 x l.0.1)
    same_page u (Exposed q b) true lt e h l = refl
    same_page u (Exposed q b) false lt e h l = refl

    same_wanted : (w : Walk) (b : Bool) → wanted_by (if b then moved_to s w else w) ≡ wanted_by w
    same_wanted Unmapped true = refl
    same_wanted Unmapped false = refl
    same_wanted (Local x b c) true = or_false (b || c)
    same_wanted (Local x b c) false = refl
    same_wanted (Exposed q b) true = refl
    same_wanted (Exposed q b) false = refl

    pfn_after : (u : ℕ) → u < 2 ^ 18 → pfn_by o'.map.pages (walk_at fs root u) ≡ pfn_by o.map.pages (walk_at es root u)
    pfn_after u lt = ap (pfn_by o'.map.pages) (walk_after u lt) ∙ same_page u (walk_at es root u) (has_number u (vpns_at o.map p)) lt refl refl (m.made.walks u lt)

    pub shown_after : (u : ℕ) → u < 2 ^ 18 → vpn_mapping fs root o'.map.pages u ≡ vpn_mapping es root o.map.pages u
    shown_after u lt =
        ap (λ (x : Option ℕ). mapping x (wanted_by (walk_at fs root u))) (pfn_after u lt)
        ∙ ap (mapping (pfn_by o.map.pages (walk_at es root u))) (ap wanted_by (walk_after u lt) ∙ same_wanted (walk_at es root u) (has_number u (vpns_at o.map p)))

    listed_after : (q u : ℕ) → u < 2 ^ 18 → (has_number u (vpns_at o'.map q) ≡ true) ↔ (pfn_by o'.map.pages (walk_at fs root u) ≡ Some q)
    listed_after q u lt =
        let same : has_number u (vpns_at o'.map q) ≡ has_number u (vpns_at o.map q) = ap (λ (ls : List (List ℕ)). has_number u (slice_index_or ls q [])) vpns in
        let w = m.made.listed q u lt in (λ h. pfn_after u lt ∙ w.0 (sym same ∙ h), λ h. same ∙ w.1 (sym (pfn_after u lt) ∙ h))

    words_else : (q g : ℕ) → q ≢ p → frame_at o.map.pages q ≡ Some g → words_at fs g ≡ words_at es g
    words_else q g n e = r.words g (λ t. m.made.plain q g e (table_mid g t)) ∙ k.words g (other_frame q g n e) (λ d. m.made.blank q s sp (e ∙ ap Some d))

    bytes_else : (q : ℕ) (x : Option ℕ) → q ≢ p → frame_at o.map.pages q ≡ x → bytes_for fs x ≡ bytes_for es x
    bytes_else q None n e = refl
    bytes_else q (Some g) n e = ap (λ (ws : List ℕ). Some (bytes_of ws)) (words_else q g n e)

    bytes_by : (q : ℕ) → (q ≡ p) ⊎ (q ≢ p) → page_bytes fs o'.map.pages q ≡ page_bytes es o.map.pages q
    bytes_by q (inl e) =
        ap (λ (x : ℕ). page_bytes fs o'.map.pages x) e ∙ ap (bytes_for fs) new_page
        ∙ ap (λ (ws : List ℕ). Some (bytes_of ws)) (r.words s (λ t. m.made.unused s sp (table_mid s t)) ∙ k.copied)
        ∙ sym (ap (λ (x : ℕ). page_bytes es o.map.pages x) e ∙ ap (bytes_for es) at)
    bytes_by q (inr n) = ap (bytes_for fs) (old_page q n) ∙ bytes_else q (frame_at o.map.pages q) n refl

    pub bytes_after : (q : ℕ) → page_bytes fs o'.map.pages q ≡ page_bytes es o.map.pages q
    bytes_after q = bytes_by q (same_or_not q p)

    pub memory_after : IsMemory fs root o'
    memory_after = record {
      made = record {
        tables = r.tables;
        few = subst (λ (ps : List Page). length ps ≤ 1024) (sym pages) (subst (λ (n : ℕ). n ≤ 1024) (sym (length-set o.map.pages p (At s))) m.made.few);
        lists = ap (λ (ls : List (List ℕ)). length ls) vpns ∙ m.made.lists ∙ sym (ap (λ (ps : List Page). length ps) pages ∙ length-set o.map.pages p (At s));
        marks = ap (λ (bs : List Bool). length bs) marks ∙ length-set o.marks.items p true ∙ m.made.marks ∙ sym (ap (λ (ps : List Page). length ps) pages ∙ length-set o.map.pages p (At s));
        held = λ q g h. held_in q g (case_of q g h);
        plain = λ q g h t. plain_in q g (case_of q g h) (table_back g t);
        apart = λ q x g h l. apart_in q x g (case_of q g h) (case_of x g l);
        sole = λ q g h. sole_in q g (case_of q g h);
        once = λ g h. ap weight_of (spare_sole g h);
        unused = λ g h t. m.made.plain p f at (subst (IsTable es root) (spare_frame g h) (table_back g t));
        blank = λ q g h e. blank_in q g (spare_frame g h) (case_of q g e);
        only = λ g h. only_by g (same_or_not g f) h;
        walks = λ u lt. subst (LeadsTo fs o') (sym (walk_after u lt)) (leads_after u (walk_at es root u) (has_number u (vpns_at o.map p)) lt refl refl (m.made.walks u lt));
        listed = listed_after;
      };
      spare = spare_sole;
    }
