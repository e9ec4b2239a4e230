-- One page's frame is held otherwise, and the page's mark says so.
use Rattle.std.proofs.Common.{◌≡◌, ◌≢◌, ◌<◌, ◌^◌, ◌⊎◌, ◌↔◌, inl, inr, ℕ, Bool, true, false, List, length, set, slice_index_or, Some, Vec, Global, sym, ap, subst, ◌∙◌, length-set}
use Rattle.std.proofs.lemmas.List.{get_or-set_other, get_or-set_same}
use Rattle.std.specs.declared.option.Option.{Option}
use Rattle.neph_pool.specs.declared.entry.Entry.{Entry}
use Rattle.neph_pool.specs.Entries.{hold_at, is_here, weight_of, IsOnceAt, IsSoleAt}
use Rattle.neph_pool.proofs.Rows.{same_or_not}
use Rattle.neph_ptab.specs.Tables.{leaf_at, walk_at, IsTable, IsTables}
use Rattle.neph_memory.specs.declared.own.Own.{Own}
use Rattle.neph_memory.proofs.Places.{some_same, frame_small}
use Rattle.neph_memory.proofs.Moves.{same_tables}
use Rattle.neph_memory.specs.Pages.{frame_at}
use Rattle.neph_memory.specs.Memory.{pfn_by, is_marked, IsPageAt, IsSpareAt, LeadsTo, IsMemory}

module _ (es fs : List (Option Entry)) (root : ℕ) (o : Own) (m : IsMemory es root o) (p f : ℕ) (at : frame_at o.map.pages p ≡ Some f) (b : Bool) (ms : Vec Bool Global) (mk : ms.items ≡ set o.marks.items p b) where
  abbrev marked : Own
  marked = record { map = o.map; marks = ms; spare = o.spare }

  small : p < length o.marks.items
  small = subst (λ (n : ℕ). p < n) (sym m.made.marks) (frame_small o.map.pages p f at)

  pub page_mark : is_marked marked p ≡ b
  page_mark = ap (λ (bs : List Bool). slice_index_or bs p false) mk ∙ get_or-set_same o.marks.items p b false small

  mark_else : (q : ℕ) → q ≢ p → is_marked marked q ≡ is_marked o q
  mark_else q n = ap (λ (bs : List Bool). slice_index_or bs q false) mk ∙ get_or-set_other o.marks.items p q b false n

  module _ (once : IsOnceAt fs f) (sole : (b ≡ true) ↔ IsSoleAt fs f) (others : (g : ℕ) → g ≢ f → hold_at fs g ≡ hold_at es g)
      (tables : IsTables fs root) (leaves : (i : ℕ) → i < 512 → leaf_at fs root i ≡ leaf_at es root i) where
    back : (g : ℕ) → IsTable fs root g → IsTable es root g
    back g t = same_tables es fs root g leaves t

    held_by : (q g : ℕ) → (g ≡ f) ⊎ (g ≢ f) → frame_at o.map.pages q ≡ Some g → IsOnceAt fs g
    held_by q g (inl d) h = ap (λ (x : ℕ). weight_of (hold_at fs x)) d ∙ once
    held_by q g (inr n) h = ap weight_of (others g n) ∙ m.made.held q g h

    sole_by : (q g : ℕ) → (q ≡ p) ⊎ (q ≢ p) → frame_at o.map.pages q ≡ Some g → (is_marked marked q ≡ true) ↔ IsSoleAt fs g
    sole_by q g (inl d) h =
        let same : hold_at fs g ≡ hold_at fs f = ap (hold_at fs) (some_same g f (sym h ∙ ap (frame_at o.map.pages) d ∙ at)) in
        let mark : is_marked marked q ≡ b = ap (is_marked marked) d ∙ page_mark in (λ x. same ∙ sole.0 (sym mark ∙ x), λ x. mark ∙ sole.1 (sym same ∙ x))
    sole_by q g (inr n) h =
        let rest = others g (λ d. n (m.made.apart q p g h (at ∙ ap Some (sym d)))) in
        let w = m.made.sole q g h in (λ x. rest ∙ w.0 (sym (mark_else q n) ∙ x), λ x. mark_else q n ∙ w.1 (sym rest ∙ x))

    spare_else : (g : ℕ) → IsSpareAt o g → g ≢ f
    spare_else g h d = m.made.blank p g h (at ∙ ap Some (sym d))

    still : (g : ℕ) → IsTable es root g ⊎ (IsPageAt o g ⊎ IsSpareAt o g) → IsTable fs root g ⊎ (IsPageAt marked g ⊎ IsSpareAt marked g)
    still g (inl t) = inl (same_tables fs es root g (λ i lt. sym (leaves i lt)) t)
    still g (inr h) = inr h

    only_by : (g : ℕ) → (g ≡ f) ⊎ (g ≢ f) → is_here (hold_at fs g) ≡ true → IsTable fs root g ⊎ (IsPageAt marked g ⊎ IsSpareAt marked g)
    only_by g (inl d) h = inr (inl (p, at ∙ ap Some (sym d)))
    only_by g (inr n) h = still g (m.made.only g (ap is_here (sym (others g n)) ∙ h))

    pub marked_memory : ((u : ℕ) → u < 2 ^ 18 → LeadsTo fs marked (walk_at fs root u)) → ((u : ℕ) → u < 2 ^ 18 → pfn_by o.map.pages (walk_at fs root u) ≡ pfn_by o.map.pages (walk_at es root u)) → IsMemory fs root marked
    marked_memory walks pages = record {
      made = record {
        tables = tables;
        few = m.made.few;
        lists = m.made.lists;
        marks = ap (λ (bs : List Bool). length bs) mk ∙ length-set o.marks.items p b ∙ m.made.marks;
        held = λ q g h. held_by q g (same_or_not g f) h;
        plain = λ q g h t. m.made.plain q g h (back g t);
        apart = m.made.apart;
        sole = λ q g h. sole_by q g (same_or_not q p) h;
        once = λ g h. ap weight_of (others g (spare_else g h) ∙ m.spare g h);
        unused = λ g h t. m.made.unused g h (back g t);
        blank = m.made.blank;
        only = λ g h. only_by g (same_or_not g f) h;
        walks = walks;
        listed = λ q u lt. let w = m.made.listed q u lt in (λ x. pages u lt ∙ w.0 x, λ x. w.1 (sym (pages u lt) ∙ x));
      };
      spare = λ g h. others g (spare_else g h) ∙ m.spare g h;
    }
