-- A page turns out to be the domain's alone.
use Rattle.std.proofs.Common.{◌≡◌, ◌≢◌, ◌<◌, ◌^◌, ◌⊎◌, inl, inr, ℕ, Bool, true, List, set, Some, None, Vec, Global, refl, sym, ap, subst, ◌∙◌}
use Rattle.std.specs.declared.option.Option.{Option}
use Rattle.neph_pool.specs.declared.entry.Entry.{Entry}
use Rattle.neph_pool.specs.declared.entry.Hold.TheVariants.{Sole}
use Rattle.neph_pool.specs.Entries.{hold_at, words_at, weight_of, with_hold, IsSoleAt}
use Rattle.neph_pool.proofs.Entries.{once_here, hold_at-with_hold, hold_at-with_hold_other, words_at-with_hold}
use Rattle.neph_pool.proofs.Rows.{same_or_not}
use Rattle.neph_ptab.specs.declared.walk.Walk.{Walk}
use Rattle.neph_ptab.specs.declared.walk.Walk.TheVariants.{None as Unmapped, Local, Exposed}
use Rattle.neph_ptab.specs.Tables.{walk_at, IsTable}
use Rattle.neph_ptab.proofs.Changing.{IsBeside, leaves_stay, walks_stay, tables_stay}
use Rattle.neph_memory.specs.declared.own.Own.{Own}
use Rattle.neph_memory.proofs.Marking.{page_mark, marked_memory}
use Rattle.neph_pool.specs.Bytes.{bytes_of}
use Rattle.neph_memory.specs.Pages.{frame_at}
use Rattle.neph_memory.specs.Memory.{mapping, pfn_by, wanted_by, vpn_mapping, bytes_for, page_bytes, is_marked, LeadsTo, IsMemory}

module _ (es fs : List (Option Entry)) (root : ℕ) (o : Own) (m : IsMemory es root o) (p f : ℕ) (at : frame_at o.map.pages p ≡ Some f) (e : fs ≡ with_hold es f Sole) where
  pub look_here : hold_at fs f ≡ Some Sole
  look_here = ap (λ (xs : List (Option Entry)). hold_at xs f) e ∙ hold_at-with_hold es f Sole (once_here es f (m.made.held p f at))

  hold_else : (g : ℕ) → g ≢ f → hold_at fs g ≡ hold_at es g
  hold_else g n = ap (λ (xs : List (Option Entry)). hold_at xs g) e ∙ hold_at-with_hold_other es f Sole g n

  pub look_words : (g : ℕ) → words_at fs g ≡ words_at es g
  look_words g = ap (λ (xs : List (Option Entry)). words_at xs g) e ∙ words_at-with_hold es f Sole g

  not_table : (g : ℕ) → IsTable es root g → g ≢ f
  not_table g t d = m.made.plain p f at (subst (IsTable es root) d t)

  beside : IsBeside es fs root
  beside = record { holds = λ g t. hold_else g (not_table g t); words = λ g t. look_words g }

  walks_same : (u : ℕ) → u < 2 ^ 18 → walk_at fs root u ≡ walk_at es root u
  walks_same = walks_stay es fs root m.made.tables beside

  pub look_shown : (u : ℕ) → u < 2 ^ 18 → vpn_mapping fs root o.map.pages u ≡ vpn_mapping es root o.map.pages u
  look_shown u lt = ap (λ (w : Walk). mapping (pfn_by o.map.pages w) (wanted_by w)) (walks_same u lt)

  bytes_for_same : (x : Option ℕ) → bytes_for fs x ≡ bytes_for es x
  bytes_for_same None = refl
  bytes_for_same (Some g) = ap (λ (ws : List ℕ). Some (bytes_of ws)) (look_words g)

  pub look_bytes : (q : ℕ) → page_bytes fs o.map.pages q ≡ page_bytes es o.map.pages q
  look_bytes q = bytes_for_same (frame_at o.map.pages q)

  module _ (ms : Vec Bool Global) (mk : ms.items ≡ set o.marks.items p true) where
    abbrev looked : Own
    looked = record { map = o.map; marks = ms; spare = o.spare }

    pub look_mark : is_marked looked p ≡ true
    look_mark = page_mark es fs root o m p f at true ms mk

    sole_walk : (x : ℕ) → (x ≡ f) ⊎ (x ≢ f) → IsSoleAt es x → IsSoleAt fs x
    sole_walk x (inl d) h = ap (hold_at fs) d ∙ look_here
    sole_walk x (inr n) h = hold_else x n ∙ h

    leads_still : (w : Walk) → LeadsTo es o w → LeadsTo fs looked w
    leads_still Unmapped l = tt
    leads_still (Local x b c) l = (l.0, λ t. sole_walk x (same_or_not x f) (l.1 t), l.2)
    leads_still (Exposed q b) l = l

    pub look_memory : IsMemory fs root looked
    look_memory =
        marked_memory es fs root o m p f at true ms mk (ap weight_of look_here) (λ _. look_here, λ _. refl) hold_else (tables_stay es fs root m.made.tables beside) (λ i lt. leaves_stay es fs root m.made.tables beside i)
        (λ u lt. subst (LeadsTo fs looked) (sym (walks_same u lt)) (leads_still (walk_at es root u) (m.made.walks u lt))) (λ u lt. ap (pfn_by o.map.pages) (walks_same u lt))
