-- The bytes of a page change in place.
use Rattle.std.proofs.Common.{◌≡◌, ◌≢◌, ◌<◌, ◌^◌, ◌⊎◌, inl, inr, ℕ, Bool, List, Some, None, refl, sym, ap, subst, ◌∙◌, if◌then◌else◌, eq-eqb, ne_eqb}
use Rattle.std.specs.declared.option.Option.{Option}
use Rattle.neph_pool.specs.declared.entry.Entry.{Entry}
use Rattle.neph_pool.specs.Entries.{hold_at, words_at, is_here, weight_of, with_words}
use Rattle.neph_pool.proofs.Entries.{hold_at-with_words, words_at-with_words_other}
use Rattle.neph_pool.proofs.Rows.{same_or_not}
use Rattle.neph_ptab.specs.declared.walk.Walk.{Walk}
use Rattle.neph_ptab.specs.declared.walk.Walk.TheVariants.{None as Unmapped, Local, Exposed}
use Rattle.neph_ptab.specs.Tables.{leaf_at, walk_at, IsTable}
use Rattle.neph_ptab.proofs.Changing.{IsBeside, leaves_stay, walks_stay, tables_stay}
use Rattle.neph_memory.specs.declared.own.Own.{Own}
use Rattle.neph_memory.proofs.Moves.{same_tables}
use Rattle.neph_model.specs.Memory.{page_with_bytes}
use Rattle.neph_pool.specs.Bytes.{bytes_of, bytes_at}
use Rattle.neph_memory.specs.Pages.{frame_at}
use Rattle.neph_memory.specs.Memory.{mapping, pfn_by, wanted_by, vpn_mapping, bytes_for, page_bytes, IsPageAt, IsSpareAt, LeadsTo, IsMemory}
use Rattle.neph_memory.specs.Steps.{own_page_with_bytes, with_write}

-- the holds are the same, and the tables' words
module _ (es fs : List (Option Entry)) (root : ℕ) (o : Own) (m : IsMemory es root o) (holds : (g : ℕ) → hold_at fs g ≡ hold_at es g) (words : (g : ℕ) → IsTable es root g → words_at fs g ≡ words_at es g) where
  beside : IsBeside es fs root
  beside = record { holds = λ g t. holds g; words = words }

  pub walks_held : (u : ℕ) → u < 2 ^ 18 → walk_at fs root u ≡ walk_at es root u
  walks_held = walks_stay es fs root m.made.tables beside

  pub leaves_held : (i : ℕ) → leaf_at fs root i ≡ leaf_at es root i
  leaves_held = leaves_stay es fs root m.made.tables beside

  back : (g : ℕ) → IsTable fs root g → IsTable es root g
  back g t = same_tables es fs root g (λ i lt. leaves_stay es fs root m.made.tables beside i) t

  forth : (g : ℕ) → IsTable es root g → IsTable fs root g
  forth g t = same_tables fs es root g (λ i lt. sym (leaves_stay es fs root m.made.tables beside i)) t

  still : (g : ℕ) → IsTable es root g ⊎ (IsPageAt o g ⊎ IsSpareAt o g) → IsTable fs root g ⊎ (IsPageAt o g ⊎ IsSpareAt o g)
  still g (inl t) = inl (forth g t)
  still g (inr h) = inr h

  leads_still : (w : Walk) → LeadsTo es o w → LeadsTo fs o w
  leads_still Unmapped l = tt
  leads_still (Local x b c) l = (l.0, λ t. holds x ∙ l.1 t, l.2)
  leads_still (Exposed q b) l = l

  pub memory_held : IsMemory fs root o
  memory_held = record {
    made = record {
      tables = tables_stay es fs root m.made.tables beside;
      few = m.made.few;
      lists = m.made.lists;
      marks = m.made.marks;
      held = λ q g h. ap weight_of (holds g) ∙ m.made.held q g h;
      plain = λ q g h t. m.made.plain q g h (back g t);
      apart = m.made.apart;
      sole = λ q g h. let w = m.made.sole q g h in (λ x. holds g ∙ w.0 x, λ x. w.1 (sym (holds g) ∙ x));
      once = λ g h. ap weight_of (holds g ∙ m.spare g h);
      unused = λ g h t. m.made.unused g h (back g t);
      blank = m.made.blank;
      only = λ g h. still g (m.made.only g (ap is_here (sym (holds g)) ∙ h));
      walks = λ u lt. subst (LeadsTo fs o) (sym (walks_held u lt)) (leads_still (walk_at es root u) (m.made.walks u lt));
      listed = λ q u lt. let w = m.made.listed q u lt in (λ x. ap (pfn_by o.map.pages) (walks_held u lt) ∙ w.0 x, λ x. w.1 (ap (pfn_by o.map.pages) (sym (walks_held u lt)) ∙ x));
    };
    spare = λ g h. holds g ∙ m.spare g h;
  }

  pub shown_held : (u : ℕ) → u < 2 ^ 18 → vpn_mapping fs root o.map.pages u ≡ vpn_mapping es root o.map.pages u
  shown_held u lt = ap (λ (w : Walk). mapping (pfn_by o.map.pages w) (wanted_by w)) (walks_held u lt)

-- the words of one page's frame change
module _ (es fs : List (Option Entry)) (root : ℕ) (o : Own) (m : IsMemory es root o) (p f : ℕ) (at : frame_at o.map.pages p ≡ Some f) (e : fs ≡ with_words es f (words_at fs f)) where
  pub write_holds : (g : ℕ) → hold_at fs g ≡ hold_at es g
  write_holds g = ap (λ (xs : List (Option Entry)). hold_at xs g) e ∙ hold_at-with_words es f (words_at fs f) g

  write_else : (g : ℕ) → g ≢ f → words_at fs g ≡ words_at es g
  write_else g n = ap (λ (xs : List (Option Entry)). words_at xs g) e ∙ words_at-with_words_other es f (words_at fs f) g n

  pub write_words : (g : ℕ) → IsTable es root g → words_at fs g ≡ words_at es g
  write_words g t = write_else g (λ d. m.made.plain p f at (subst (IsTable es root) d t))

  page_else : (q : ℕ) (x : Option ℕ) → q ≢ p → frame_at o.map.pages q ≡ x → bytes_for fs x ≡ bytes_for es x
  page_else q None n h = refl
  page_else q (Some g) n h = ap (λ (ws : List ℕ). Some (bytes_of ws)) (write_else g (λ d. n (m.made.apart q p g h (at ∙ ap Some (sym d)))))

  module _ (off : ℕ) (bytes : List ℕ) (b : bytes_at fs f ≡ page_with_bytes (bytes_at es f) off bytes) where
    page_by : (q : ℕ) → (q ≡ p) ⊎ (q ≢ p) → page_bytes fs o.map.pages q ≡ with_write (page_bytes es o.map.pages) p off bytes q
    page_by q (inl d) =
        ap (λ (k : ℕ). page_bytes fs o.map.pages k) d ∙ ap (bytes_for fs) at ∙ ap Some b
        ∙ sym (ap (λ (x : Option ℕ). own_page_with_bytes (bytes_for es x) off bytes) (ap (frame_at o.map.pages) d ∙ at))
        ∙ sym (ap (λ (c : Bool). if c then own_page_with_bytes (page_bytes es o.map.pages q) off bytes else page_bytes es o.map.pages q) (eq-eqb q p d))
    page_by q (inr n) =
        page_else q (frame_at o.map.pages q) n refl
        ∙ sym (ap (λ (c : Bool). if c then own_page_with_bytes (page_bytes es o.map.pages q) off bytes else page_bytes es o.map.pages q) (ne_eqb q p n))

    pub write_bytes : (q : ℕ) → page_bytes fs o.map.pages q ≡ with_write (page_bytes es o.map.pages) p off bytes q
    write_bytes q = page_by q (same_or_not q p)
