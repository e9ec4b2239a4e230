-- A page is lent to another domain.
use Rattle.std.proofs.Common.{◌≡◌, ◌≢◌, ◌<◌, ◌^◌, ℕ, Bool, true, false, List, set, slice_get, Some, None, Vec, Global, refl, sym, ap, subst, ◌∙◌, if◌then◌else◌}
use Rattle.std.specs.declared.option.Option.{Option}
use Rattle.neph_pool.specs.declared.entry.Entry.{Entry}
use Rattle.neph_pool.specs.declared.entry.Hold.{Hold}
use Rattle.neph_pool.specs.declared.entry.Hold.TheVariants.{Sole, Counted}
use Rattle.neph_pool.specs.Entries.{hold_at, words_at, weight_of}
use Rattle.neph_ptab.specs.declared.walk.Walk.{Walk}
use Rattle.neph_ptab.specs.declared.walk.Walk.TheVariants.{None as Unmapped, Local, Exposed}
use Rattle.neph_ptab.specs.Tables.{leaf_at, walk_at, IsTable, IsTables, IsRetabled}
use Rattle.neph_ptab.proofs.Changing.{IsBeside, leaves_stay, walks_stay, tables_stay}
use Rattle.neph_gmap.specs.GuestPages.{vpns_at, has_number}
use Rattle.neph_memory.specs.declared.own.Own.{Own}
use Rattle.neph_memory.proofs.Places.{some_same, away_not}
use Rattle.neph_memory.proofs.Leading.{on}
use Rattle.neph_memory.proofs.Marking.{marked_memory}
use Rattle.neph_memory.proofs.Moves.{same_tables, shared_in}
use Rattle.neph_pool.specs.Bytes.{bytes_of}
use Rattle.neph_memory.specs.Pages.{frame_at}
use Rattle.neph_memory.specs.Memory.{mapping, pfn_by, wanted_by, vpn_mapping, bytes_for, page_bytes, LeadsTo, IsMemory}
use Rattle.neph_ptab.specs.Moves.{IsLocal}

true_not : (b : Bool) → b ≡ true → b ≡ false → ⊥
true_not b h k = cc

one_not : (h : Option Hold) → h ≡ Some (Counted 1) → h ≡ Some Sole → ⊥
one_not h a b = cc

module _ (es es' : List (Option Entry)) (root : ℕ) (o : Own) (m : IsMemory es root o) (p f : ℕ) (at : frame_at o.map.pages p ≡ Some f) (left : hold_at es' f ≡ Some (Counted 1))
    (holds : (g : ℕ) → g ≢ f → hold_at es' g ≡ hold_at es g) (words : (g : ℕ) → words_at es' g ≡ words_at es g) where
  not_table : (g : ℕ) → IsTable es root g → g ≢ f
  not_table g t d = m.made.plain p f at (subst (IsTable es root) d t)

  beside : IsBeside es es' root
  beside = record { holds = λ g t. holds g (not_table g t); words = λ g t. words g }

  pub lent_tables : IsTables es' root
  lent_tables = tables_stay es es' root m.made.tables beside

  lent_walks : (u : ℕ) → u < 2 ^ 18 → walk_at es' root u ≡ walk_at es root u
  lent_walks = walks_stay es es' root m.made.tables beside

  pub lent_leaves : (i : ℕ) → leaf_at es' root i ≡ leaf_at es root i
  lent_leaves = leaves_stay es es' root m.made.tables beside

  local_walk : (w : Walk) → pfn_by o.map.pages w ≡ Some p → LeadsTo es o w → IsLocal w
  local_walk Unmapped e l = absurd (cc)
  local_walk (Local h b c) e l = tt
  local_walk (Exposed q b) e l = absurd (away_not o.map.pages p f (ap (slice_get o.map.pages) (sym (some_same q p e)) ∙ l) at)

  pub lent_local : (u : ℕ) → u < 2 ^ 18 → has_number u (vpns_at o.map p) ≡ true → IsLocal (walk_at es' root u)
  lent_local u lt h = subst IsLocal (sym (lent_walks u lt)) (local_walk (walk_at es root u) ((m.made.listed p u lt).0 h) (m.made.walks u lt))

  module _ (fs : List (Option Entry)) (r : IsRetabled es' fs root)
      (moved : (u : ℕ) → u < 2 ^ 18 → walk_at fs root u ≡ (if has_number u (vpns_at o.map p) then shared_in f (walk_at es' root u) else walk_at es' root u))
      (ms : Vec Bool Global) (mk : ms.items ≡ set o.marks.items p false) where
    abbrev lent : Own
    lent = record { map = o.map; marks = ms; spare = o.spare }

    hold_one : hold_at fs f ≡ Some (Counted 1)
    hold_one = r.holds f ∙ left

    hold_else : (g : ℕ) → g ≢ f → hold_at fs g ≡ hold_at es g
    hold_else g n = r.holds g ∙ holds g n

    back_mid : (g : ℕ) → IsTable es' root g → IsTable es root g
    back_mid g t = same_tables es es' root g (λ i lt. lent_leaves i) t

    not_listed : (u h : ℕ) (b c : Bool) → u < 2 ^ 18 → walk_at es root u ≡ Local h b c → has_number u (vpns_at o.map p) ≡ false → h ≢ f
    not_listed u h b c lt e absent eq = true_not _ ((m.made.listed p u lt).1 (ap (pfn_by o.map.pages) e ∙ on es root o m p h (at ∙ ap Some (sym eq)))) absent

    leads_after : (u : ℕ) (w : Walk) (b : Bool) → u < 2 ^ 18 → walk_at es root u ≡ w → has_number u (vpns_at o.map p) ≡ b → LeadsTo es o w → LeadsTo fs lent (if b then shared_in f w else w)
    leads_after u Unmapped true lt e h l = tt
    leads_after u Unmapped false lt e h l = tt
    leads_after u (Local x b c) true lt e h l = ((p, at), λ t. absurd (true_not false t refl), refl)
    leads_after u (Local x b c) false lt e h l = (l.0, λ t. hold_else x (not_listed u x b c lt e h) ∙ l.1 t, l.2)
    leads_after u (Exposed q b) true lt e h l = l
    leads_after u (Exposed q b) false lt e h l = l

    walk_after : (u : ℕ) → u < 2 ^ 18 → walk_at fs root u ≡ (if has_number u (vpns_at o.map p) then shared_in f (walk_at es root u) else walk_at es root u)
    walk_after u lt = moved u lt ∙ ap (λ (w : Walk). if has_number u (vpns_at o.map p) then shared_in f w else w) (lent_walks u lt)

    same_page : (u : ℕ) (w : Walk) (b : Bool) → u < 2 ^ 18 → walk_at es root u ≡ w → has_number u (vpns_at o.map p) ≡ b → pfn_by o.map.pages (if b then shared_in f w else w) ≡ pfn_by o.map.pages w
    same_page u Unmapped true lt e h = refl
    same_page u Unmapped false lt e h = refl
    same_page u (Local x b c) true lt e h = on es root o m p f at ∙ sym (ap (pfn_by o.map.pages) (sym e) ∙ (m.made.listed p u lt).0 h)
    same_page u (Local x b c) false lt e h = refl
    same_page u (Exposed q b) true lt e h = refl
    same_page u (Exposed q b) false lt e h = refl

    same_wanted : (w : Walk) (b : Bool) → wanted_by (if b then shared_in f w else w) ≡ wanted_by w
    same_wanted Unmapped true = refl
    same_wanted Unmapped false = refl
    same_wanted (Local x b c) true = refl
    same_wanted (Local x b c) false = refl
    same_wanted (Exposed q b) true = refl
    same_wanted (Exposed q b) false = refl

    pfn_after : (u : ℕ) → u < 2 ^ 18 → pfn_by o.map.pages (walk_at fs root u) ≡ pfn_by o.map.pages (walk_at es root u)
    pfn_after u lt = ap (pfn_by o.map.pages) (walk_after u lt) ∙ same_page u (walk_at es root u) (has_number u (vpns_at o.map p)) lt refl refl

    pub lent_shown : (u : ℕ) → u < 2 ^ 18 → vpn_mapping fs root o.map.pages u ≡ vpn_mapping es root o.map.pages u
    lent_shown u lt =
        ap (λ (x : Option ℕ). mapping x (wanted_by (walk_at fs root u))) (pfn_after u lt)
        ∙ ap (mapping (pfn_by o.map.pages (walk_at es root u))) (ap wanted_by (walk_after u lt) ∙ same_wanted (walk_at es root u) (has_number u (vpns_at o.map p)))

    bytes_by : (q : ℕ) (x : Option ℕ) → frame_at o.map.pages q ≡ x → bytes_for fs x ≡ bytes_for es x
    bytes_by q None h = refl
    bytes_by q (Some g) h = ap (λ (ws : List ℕ). Some (bytes_of ws)) (r.words g (λ t. m.made.plain q g h (back_mid g t)) ∙ words g)

    pub lent_bytes : (q : ℕ) → page_bytes fs o.map.pages q ≡ page_bytes es o.map.pages q
    lent_bytes q = bytes_by q (frame_at o.map.pages q) refl

    pub lent_memory : IsMemory fs root lent
    lent_memory =
        marked_memory es fs root o m p f at false ms mk (ap weight_of hold_one) (λ x. absurd (true_not false x refl), λ x. absurd (one_not _ hold_one x)) hold_else r.tables (λ i lt. r.leaves i lt ∙ lent_leaves i)
        (λ u lt. subst (LeadsTo fs lent) (sym (walk_after u lt)) (leads_after u (walk_at es root u) (has_number u (vpns_at o.map p)) lt refl refl (m.made.walks u lt))) pfn_after
