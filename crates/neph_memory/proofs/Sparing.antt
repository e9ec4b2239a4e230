-- A frame comes into the seat, as the spare.
use Rattle.std.proofs.Common.{◌≡◌, ◌≢◌, ◌<◌, ◌^◌, ◌⊎◌, ◌≤◌, ◌*◌, inl, inr, ℕ, zero, suc, set, Bool, true, false, List, Some, None, refl, sym, ap, subst, ◌∙◌, arith}
use Rattle.std.proofs.lemmas.List.{get_or-set_other}
use Rattle.std.specs.declared.option.Option.{Option}
use Rattle.neph_pool.specs.declared.entry.Entry.{Entry}
use Rattle.neph_pool.specs.declared.entry.Hold.TheVariants.{Sole}
use Rattle.neph_pool.specs.Entries.{hold_at, words_at, is_here, weight_of, words_of, IsSoleAt}
use Rattle.neph_pool.proofs.Entries.{once_here}
use Rattle.neph_pool.proofs.Rows.{same_or_not}
use Rattle.neph_ptab.specs.declared.walk.Walk.{Walk}
use Rattle.neph_ptab.specs.declared.walk.Walk.TheVariants.{None as Unmapped, Local, Exposed}
use Rattle.neph_ptab.specs.Tables.{walk_at, IsTable}
use Rattle.neph_ptab.proofs.Changing.{IsBeside, leaves_stay, walks_stay, tables_stay}
use Rattle.neph_memory.specs.declared.own.Own.{Own}
use Rattle.neph_memory.proofs.Places.{some_same}
use Rattle.neph_memory.proofs.Moves.{same_tables}
use Rattle.neph_pool.specs.Bytes.{bytes_of}
use Rattle.neph_memory.specs.Pages.{frame_at}
use Rattle.neph_memory.specs.Memory.{mapping, pfn_by, wanted_by, vpn_mapping, bytes_for, page_bytes, IsPageAt, IsSpareAt, LeadsTo, IsMemory}

pub words_else : (to : List (Option Entry)) (f g : ℕ) (x : Option Entry) → g ≢ f → words_at (set to f x) g ≡ words_at to g
unfolding words_at
words_else to f g x n = ap words_of (get_or-set_other to f g x None n)

pub least : (c n : ℕ) → 1 ≤ n → c ≤ c * n
least c zero h = absurd (omega arith)
least c (suc n) h = omega arith

not_both : (b : Bool) → b ≡ true → b ≡ false → ⊥
not_both b h k = cc

none_some : (x : Option ℕ) (f : ℕ) → x ≡ None → x ≡ Some f → ⊥
none_some x f a b = cc

module _ (es fs : List (Option Entry)) (root : ℕ) (o : Own) (m : IsMemory es root o) (f : ℕ) (absent : is_here (hold_at es f) ≡ false) (none : o.spare ≡ None) (here : hold_at fs f ≡ Some Sole)
    (holds : (g : ℕ) → g ≢ f → hold_at fs g ≡ hold_at es g) (words : (g : ℕ) → g ≢ f → words_at fs g ≡ words_at es g) where
  page_not : (q g : ℕ) → frame_at o.map.pages q ≡ Some g → g ≢ f
  page_not q g h d = not_both _ (once_here es g (m.made.held q g h)) (ap (λ (x : ℕ). is_here (hold_at es x)) d ∙ absent)

  table_sole : (g : ℕ) → IsTable es root g → IsSoleAt es g
  table_sole g (inl d) = ap (hold_at es) d ∙ m.made.tables.top
  table_sole g (inr x) = m.made.tables.leaves x.0 g x.1 x.2

  table_not : (g : ℕ) → IsTable es root g → g ≢ f
  table_not g t d = not_both _ (ap is_here (table_sole g t)) (ap (λ (x : ℕ). is_here (hold_at es x)) d ∙ absent)

  pub spare_no_root : root ≢ f
  spare_no_root = table_not root (inl refl)

  beside : IsBeside es fs root
  beside = record { holds = λ g t. holds g (table_not g t); words = λ g t. words g (table_not g t) }

  walks_same : (u : ℕ) → u < 2 ^ 18 → walk_at fs root u ≡ walk_at es root u
  walks_same = walks_stay es fs root m.made.tables beside

  back : (g : ℕ) → IsTable fs root g → IsTable es root g
  back g t = same_tables es fs root g (λ i lt. leaves_stay es fs root m.made.tables beside i) t

  forth : (g : ℕ) → IsTable es root g → IsTable fs root g
  forth g t = same_tables fs es root g (λ i lt. sym (leaves_stay es fs root m.made.tables beside i)) t

  abbrev spared : Own
  spared = record { map = o.map; marks = o.marks; spare = Some f }

  still : (g : ℕ) → g ≢ f → IsTable es root g ⊎ (IsPageAt o g ⊎ IsSpareAt o g) → IsTable fs root g ⊎ (IsPageAt spared g ⊎ IsSpareAt spared g)
  still g n (inl t) = inl (forth g t)
  still g n (inr (inl q)) = inr (inl q)
  still g n (inr (inr h)) = absurd (none_some o.spare g none h)

  only_by : (g : ℕ) → (g ≡ f) ⊎ (g ≢ f) → is_here (hold_at fs g) ≡ true → IsTable fs root g ⊎ (IsPageAt spared g ⊎ IsSpareAt spared g)
  only_by g (inl d) h = inr (inr (ap Some (sym d)))
  only_by g (inr n) h = still g n (m.made.only g (ap is_here (sym (holds g n)) ∙ h))

  leads_still : (w : Walk) → LeadsTo es o w → LeadsTo fs spared w
  leads_still Unmapped l = tt
  leads_still (Local x b c) l = (l.0, λ t. holds x (page_not l.0.0 x l.0.1) ∙ l.1 t, l.2)
  leads_still (Exposed q b) l = l

  pub spare_memory : IsMemory fs root spared
  spare_memory = record {
    made = record {
      tables = tables_stay es fs root m.made.tables beside;
      few = m.made.few;
      lists = m.made.lists;
      marks = m.made.marks;
      held = λ q g h. ap weight_of (holds g (page_not q g h)) ∙ m.made.held q g h;
      plain = λ q g h t. m.made.plain q g h (back g t);
      apart = m.made.apart;
      sole = λ q g h. let w = m.made.sole q g h in (λ x. holds g (page_not q g h) ∙ w.0 x, λ x. w.1 (sym (holds g (page_not q g h)) ∙ x));
      once = λ g h. ap weight_of (ap (hold_at fs) (some_same g f (sym h)) ∙ here);
      unused = λ g h t. table_not g (back g t) (some_same g f (sym h));
      blank = λ q g h l. page_not q g l (some_same g f (sym h));
      only = λ g h. only_by g (same_or_not g f) h;
      walks = λ u lt. subst (LeadsTo fs spared) (sym (walks_same u lt)) (leads_still (walk_at es root u) (m.made.walks u lt));
      listed = λ q u lt. let w = m.made.listed q u lt in (λ x. ap (pfn_by o.map.pages) (walks_same u lt) ∙ w.0 x, λ x. w.1 (ap (pfn_by o.map.pages) (sym (walks_same u lt)) ∙ x));
    };
    spare = λ g h. ap (hold_at fs) (some_same g f (sym h)) ∙ here;
  }

  pub spare_shown : (u : ℕ) → u < 2 ^ 18 → vpn_mapping fs root o.map.pages u ≡ vpn_mapping es root o.map.pages u
  spare_shown u lt = ap (λ (w : Walk). mapping (pfn_by o.map.pages w) (wanted_by w)) (walks_same u lt)

  bytes_by : (q : ℕ) (x : Option ℕ) → frame_at o.map.pages q ≡ x → bytes_for fs x ≡ bytes_for es x
  bytes_by q None h = refl
  bytes_by q (Some g) h = ap (λ (ws : List ℕ). Some (bytes_of ws)) (words g (page_not q g h))

  pub spare_bytes : (q : ℕ) → page_bytes fs o.map.pages q ≡ page_bytes es o.map.pages q
  spare_bytes q = bytes_by q (frame_at o.map.pages q) refl
