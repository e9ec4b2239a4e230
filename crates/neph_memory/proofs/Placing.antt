-- A frame that waits becomes a page that was exposed and is mapped nowhere.
use Rattle.std.proofs.Common.{◌≡◌, ◌≢◌, ◌<◌, ◌^◌, ◌⊎◌, ◌↔◌, inl, inr, ◌≤◌, ℕ, zero, suc, Bool, true, false, List, [], ◌∷◌, length, set, slice_get, slice_index_or, Some, None, refl, sym, ap, subst, ◌∙◌, arith, length-set}
use Rattle.std.proofs.lemmas.List.{get_or-set_other, get_or-set_same}
use Rattle.std.specs.declared.option.Option.{Option}
use Rattle.neph_pool.specs.declared.entry.Entry.{Entry}
use Rattle.neph_pool.specs.Entries.{hold_at, words_at, is_here, weight_of, IsOnceAt, IsSoleAt}
use Rattle.neph_pool.proofs.Rows.{same_or_not}
use Rattle.neph_ptab.specs.declared.walk.Walk.{Walk}
use Rattle.neph_ptab.specs.declared.walk.Walk.TheVariants.{None as Unmapped, Local, Exposed}
use Rattle.neph_ptab.specs.Tables.{leaf_at, walk_at, IsTable}
use Rattle.neph_ptab.proofs.Changing.{IsBeside, leaves_stay, walks_stay, tables_stay}
use Rattle.neph_gmap.specs.declared.page.Page.{Page}
use Rattle.neph_gmap.specs.declared.page.Page.TheVariants.{Local as At, Exposed as Away}
use Rattle.neph_gmap.specs.GuestPages.{vpns_at, has_number}
use Rattle.neph_memory.specs.declared.own.Own.{Own}
use Rattle.neph_memory.proofs.Places.{some_same, frame_set, frame_else, place_else, away_not, page_in_at}
use Rattle.neph_memory.proofs.Moves.{same_tables}
use Rattle.neph_pool.specs.Bytes.{bytes_of, bytes_at}
use Rattle.neph_memory.specs.Pages.{frame_at}
use Rattle.neph_memory.specs.Memory.{mapping, pfn_by, wanted_by, vpn_mapping, bytes_for, page_bytes, is_marked, IsPageAt, LeadsTo, IsMade}

pub away_small : (ps : List Page) (p : ℕ) → slice_get ps p ≡ Some Away → p < length ps
away_small [] p e = absurd (cc)
away_small (y ∷ ps) zero e = omega arith
away_small (y ∷ ps) (suc p) e = let h = away_small ps p e in omega arith

module _ (es fs : List (Option Entry)) (root : ℕ) (o : Own) (A A' : ℕ → Type 0) (m : IsMade es root o A) (p f : ℕ) (away : slice_get o.map.pages p ≡ Some Away)
    (unlisted : (u : ℕ) → u < 2 ^ 18 → has_number u (vpns_at o.map p) ≡ true → ⊥) (took : A f) (fewer : (g : ℕ) → A' g → A g × (g ≢ f)) (rest : (g : ℕ) → A g → (g ≡ f) ⊎ A' g)
    (holds : (g : ℕ) → hold_at fs g ≡ hold_at es g) (words : (g : ℕ) → g ≢ f → words_at fs g ≡ words_at es g) (b : Bool) (sole : (b ≡ true) ↔ IsSoleAt es f)
    (o' : Own) (pages : o'.map.pages ≡ set o.map.pages p (At f)) (vpns : o'.map.vpns ≡ o.map.vpns) (marks : o'.marks.items ≡ set o.marks.items p b) where
  small : p < length o.map.pages
  small = away_small o.map.pages p away

  table_not : (g : ℕ) → IsTable es root g → g ≢ f
  table_not g t d = m.unused f took (subst (IsTable es root) d t)

  beside : IsBeside es fs root
  beside = record { holds = λ g t. holds g; words = λ g t. words g (table_not g t) }

  walks_same : (u : ℕ) → u < 2 ^ 18 → walk_at fs root u ≡ walk_at es root u
  walks_same = walks_stay es fs root m.tables beside

  pub placed_leaves : (i : ℕ) → leaf_at fs root i ≡ leaf_at es root i
  placed_leaves = leaves_stay es fs root m.tables beside

  back : (g : ℕ) → IsTable fs root g → IsTable es root g
  back g t = same_tables es fs root g (λ i lt. placed_leaves i) t

  forth : (g : ℕ) → IsTable es root g → IsTable fs root g
  forth g t = same_tables fs es root g (λ i lt. sym (placed_leaves i)) t

  pub placed_page : frame_at o'.map.pages p ≡ Some f
  placed_page = ap (λ (ps : List Page). frame_at ps p) pages ∙ frame_set o.map.pages p (At f) small

  pub placed_else : (q : ℕ) → q ≢ p → frame_at o'.map.pages q ≡ frame_at o.map.pages q
  placed_else q n = ap (λ (ps : List Page). frame_at ps q) pages ∙ frame_else o.map.pages p q (At f) n

  Case : ℕ → ℕ → Type 0
  Case q g = ((q ≡ p) × (g ≡ f)) ⊎ ((q ≢ p) × (frame_at o.map.pages q ≡ Some g))

  case_by : (q g : ℕ) → (q ≡ p) ⊎ (q ≢ p) → frame_at o'.map.pages q ≡ Some g → Case q g
  unfolding Case
  case_by q g (inl e) h = inl (e, some_same g f (sym h ∙ ap (frame_at o'.map.pages) e ∙ placed_page))
  case_by q g (inr n) h = inr (n, sym (placed_else q n) ∙ h)

  case_of : (q g : ℕ) → frame_at o'.map.pages q ≡ Some g → Case q g
  case_of q g h = case_by q g (same_or_not q p) h

  held_in : (q g : ℕ) → Case q g → IsOnceAt fs g
  unfolding Case
  held_in q g (inl e) = ap (λ (x : ℕ). weight_of (hold_at fs x)) e.1 ∙ ap weight_of (holds f) ∙ m.once f took
  held_in q g (inr h) = ap weight_of (holds g) ∙ m.held q g h.1

  plain_in : (q g : ℕ) → Case q g → IsTable es root g → ⊥
  unfolding Case
  plain_in q g (inl e) t = table_not g t e.1
  plain_in q g (inr h) t = m.plain q g h.1 t

  apart_in : (q x g : ℕ) → Case q g → Case x g → q ≡ x
  unfolding Case
  apart_in q x g (inl e) (inl d) = e.0 ∙ sym d.0
  apart_in q x g (inl e) (inr h) = absurd (m.blank x f took (h.1 ∙ ap Some e.1))
  apart_in q x g (inr h) (inl e) = absurd (m.blank q f took (h.1 ∙ ap Some e.1))
  apart_in q x g (inr h) (inr l) = m.apart q x g h.1 l.1

  pub placed_mark : is_marked o' p ≡ b
  placed_mark = ap (λ (bs : List Bool). slice_index_or bs p false) marks ∙ get_or-set_same o.marks.items p b false (subst (λ (n : ℕ). p < n) (sym m.marks) small)

  mark_else : (q : ℕ) → q ≢ p → is_marked o' q ≡ is_marked o q
  mark_else q n = ap (λ (bs : List Bool). slice_index_or bs q false) marks ∙ get_or-set_other o.marks.items p q b false n

  sole_in : (q g : ℕ) → Case q g → (is_marked o' q ≡ true) ↔ IsSoleAt fs g
  unfolding Case
  sole_in q g (inl e) =
      let k : is_marked o' q ≡ b = ap (is_marked o') e.0 ∙ placed_mark in
      let s : hold_at fs g ≡ hold_at es f = ap (hold_at fs) e.1 ∙ holds f in
      (λ x. s ∙ sole.0 (sym k ∙ x), λ x. k ∙ sole.1 (sym s ∙ x))
  sole_in q g (inr h) = let w = m.sole q g h.1 in (λ x. holds g ∙ w.0 (sym (mark_else q h.0) ∙ x), λ x. mark_else q h.0 ∙ w.1 (sym (holds g) ∙ x))

  blank_in : (q g : ℕ) → A' g → Case q g → ⊥
  unfolding Case
  blank_in q g a (inl e) = (fewer g a).1 e.1
  blank_in q g a (inr h) = m.blank q g (fewer g a).0 h.1

  not_here : (q g : ℕ) → frame_at o.map.pages q ≡ Some g → q ≢ p
  not_here q g e d = away_not o.map.pages p g away (ap (frame_at o.map.pages) (sym d) ∙ e)

  abbrev page_still : (q g : ℕ) → frame_at o.map.pages q ≡ Some g → IsPageAt o' g
  page_still q g e = (q, placed_else q (not_here q g e) ∙ e)

  waits_still : (g : ℕ) → (g ≡ f) ⊎ A' g → IsTable fs root g ⊎ (IsPageAt o' g ⊎ A' g)
  waits_still g (inl e) = inr (inl (p, placed_page ∙ ap Some (sym e)))
  waits_still g (inr a) = inr (inr a)

  still : (g : ℕ) → IsTable es root g ⊎ (IsPageAt o g ⊎ A g) → IsTable fs root g ⊎ (IsPageAt o' g ⊎ A' g)
  still g (inl t) = inl (forth g t)
  still g (inr (inl q)) = inr (inl (page_still q.0 g q.1))
  still g (inr (inr a)) = waits_still g (rest g a)

  away_still : (q : ℕ) → q ≢ p → slice_get o.map.pages q ≡ Some Away → slice_get o'.map.pages q ≡ Some Away
  away_still q n e = ap (λ (ps : List Page). slice_get ps q) pages ∙ place_else o.map.pages p q (At f) n ∙ e

  not_shown : (u q : ℕ) (c : Bool) → u < 2 ^ 18 → walk_at es root u ≡ Exposed q c → q ≢ p
  not_shown u q c lt e d = unlisted u lt ((m.listed p u lt).1 (ap (pfn_by o.map.pages) e ∙ ap Some d))

  leads_still : (u : ℕ) (w : Walk) → u < 2 ^ 18 → walk_at es root u ≡ w → LeadsTo es o w → LeadsTo fs o' w
  leads_still u Unmapped lt e l = tt
  leads_still u (Local x c d) lt e l = (page_still l.0.0 x l.0.1, λ t. holds x ∙ l.1 t, l.2)
  leads_still u (Exposed q c) lt e l = away_still q (not_shown u q c lt e) l

  same_page : (w : Walk) → LeadsTo es o w → pfn_by o'.map.pages w ≡ pfn_by o.map.pages w
  same_page Unmapped l = refl
  same_page (Local x c d) l =
      let q = page_still l.0.0 x l.0.1 in
      page_in_at o'.map.pages l.0.0 x q.1 (λ y h. apart_in y l.0.0 x (case_of y x h) (case_of l.0.0 x q.1))
      ∙ sym (page_in_at o.map.pages l.0.0 x l.0.1 (λ y h. m.apart y l.0.0 x h l.0.1))
  same_page (Exposed q c) l = refl

  pfn_still : (u : ℕ) → u < 2 ^ 18 → pfn_by o'.map.pages (walk_at fs root u) ≡ pfn_by o.map.pages (walk_at es root u)
  pfn_still u lt = ap (pfn_by o'.map.pages) (walks_same u lt) ∙ same_page (walk_at es root u) (m.walks u lt)

  pub placed_shown : (u : ℕ) → u < 2 ^ 18 → vpn_mapping fs root o'.map.pages u ≡ vpn_mapping es root o.map.pages u
  placed_shown u lt = ap (λ (x : Option ℕ). mapping x (wanted_by (walk_at fs root u))) (pfn_still u lt) ∙ ap (λ (w : Walk). mapping (pfn_by o.map.pages (walk_at es root u)) (wanted_by w)) (walks_same u lt)

  bytes_else : (q : ℕ) (x : Option ℕ) → frame_at o.map.pages q ≡ x → bytes_for fs x ≡ bytes_for es x
  bytes_else q None e = refl
  bytes_else q (Some g) e = ap (λ (ws : List ℕ). Some (bytes_of ws)) (words g (λ d. m.blank q f took (e ∙ ap Some d)))

  pub placed_bytes : (q : ℕ) → q ≢ p → page_bytes fs o'.map.pages q ≡ page_bytes es o.map.pages q
  placed_bytes q n = ap (bytes_for fs) (placed_else q n) ∙ bytes_else q (frame_at o.map.pages q) refl

  pub placed_new : page_bytes fs o'.map.pages p ≡ Some (bytes_at fs f)
  placed_new = ap (bytes_for fs) placed_page

  pub placed_made : IsMade fs root o' A'
  placed_made = record {
    tables = tables_stay es fs root m.tables beside;
    few = subst (λ (ps : List Page). length ps ≤ 1024) (sym pages) (subst (λ (n : ℕ). n ≤ 1024) (sym (length-set o.map.pages p (At f))) m.few);
    lists = ap (λ (ls : List (List ℕ)). length ls) vpns ∙ m.lists ∙ sym (ap (λ (ps : List Page). length ps) pages ∙ length-set o.map.pages p (At f));
    marks = ap (λ (bs : List Bool). length bs) marks ∙ length-set o.marks.items p b ∙ m.marks ∙ sym (ap (λ (ps : List Page). length ps) pages ∙ length-set o.map.pages p (At f));
    held = λ q g h. held_in q g (case_of q g h);
    plain = λ q g h t. plain_in q g (case_of q g h) (back g t);
    apart = λ q x g h l. apart_in q x g (case_of q g h) (case_of x g l);
    sole = λ q g h. sole_in q g (case_of q g h);
    once = λ g a. ap weight_of (holds g) ∙ m.once g (fewer g a).0;
    unused = λ g a t. m.unused g (fewer g a).0 (back g t);
    blank = λ q g a e. blank_in q g a (case_of q g e);
    only = λ g h. still g (m.only g (ap is_here (sym (holds g)) ∙ h));
    walks = λ u lt. subst (LeadsTo fs o') (sym (walks_same u lt)) (leads_still u (walk_at es root u) lt refl (m.walks u lt));
    listed = λ q u lt.
        let same : has_number u (vpns_at o'.map q) ≡ has_number u (vpns_at o.map q) = ap (λ (ls : List (List ℕ)). has_number u (slice_index_or ls q [])) vpns in
        let w = m.listed q u lt in (λ h. pfn_still u lt ∙ w.0 (sym same ∙ h), λ h. same ∙ w.1 (sym (pfn_still u lt) ∙ h));
  }
