-- A frame that waits becomes a leaf table.
use Rattle.std.proofs.Common.{◌≡◌, ◌≢◌, ◌<◌, ◌^◌, ◌⊎◌, ◌==◌, inl, inr, ℕ, Bool, List, Some, None, refl, sym, ap, subst, ◌∙◌, if◌then◌else◌, eq-eqb, ne_eqb}
use Rattle.std.specs.declared.option.Option.{Option}
use Rattle.neph_pool.specs.declared.entry.Entry.{Entry}
use Rattle.neph_pool.specs.Entries.{hold_at, words_at, is_here, weight_of}
use Rattle.neph_pool.proofs.Rows.{same_or_not}
use Rattle.neph_ptab.specs.declared.walk.Walk.{Walk}
use Rattle.neph_ptab.specs.declared.walk.Walk.TheVariants.{None as Unmapped, Local, Exposed}
use Rattle.neph_ptab.specs.Tables.{leaf_at, walk_at, IsTable, IsTables}
use Rattle.neph_memory.specs.declared.own.Own.{Own}
use Rattle.neph_memory.proofs.Places.{some_same}
use Rattle.neph_pool.specs.Bytes.{bytes_of}
use Rattle.neph_memory.specs.Pages.{frame_at}
use Rattle.neph_memory.specs.Memory.{mapping, pfn_by, wanted_by, vpn_mapping, bytes_for, page_bytes, IsPageAt, LeadsTo, IsMade}

none_some : (x : Option ℕ) (f : ℕ) → x ≡ None → x ≡ Some f → ⊥
none_some x f a b = cc

module _ (es fs : List (Option Entry)) (root : ℕ) (o : Own) (A A' : ℕ → Type 0) (m : IsMade es root o A) (i f : ℕ) (lt : i < 512) (none : leaf_at es root i ≡ None)
    (took : A f) (fewer : (g : ℕ) → A' g → A g × (g ≢ f)) (rest : (g : ℕ) → A g → (g ≡ f) ⊎ A' g)
    (holds : (g : ℕ) → hold_at fs g ≡ hold_at es g) (words : (g : ℕ) → g ≢ f → g ≢ root → words_at fs g ≡ words_at es g)
    (leaves : (j : ℕ) → j < 512 → leaf_at fs root j ≡ (if j == i then Some f else leaf_at es root j)) (walks : (u : ℕ) → u < 2 ^ 18 → walk_at fs root u ≡ walk_at es root u) (tables : IsTables fs root) where
  leaf_here : leaf_at fs root i ≡ Some f
  leaf_here = leaves i lt ∙ ap (λ (b : Bool). if b then Some f else leaf_at es root i) (eq-eqb i i refl)

  leaf_else : (j : ℕ) → j < 512 → j ≢ i → leaf_at fs root j ≡ leaf_at es root j
  leaf_else j lj n = leaves j lj ∙ ap (λ (b : Bool). if b then Some f else leaf_at es root j) (ne_eqb j i n)

  back_by : (g j : ℕ) → (j ≡ i) ⊎ (j ≢ i) → j < 512 → leaf_at fs root j ≡ Some g → IsTable es root g ⊎ (g ≡ f)
  back_by g j (inl d) lj e = inr (some_same g f (sym e ∙ ap (leaf_at fs root) d ∙ leaf_here))
  back_by g j (inr n) lj e = inl (inr (j, lj, sym (leaf_else j lj n) ∙ e))

  back : (g : ℕ) → IsTable fs root g → IsTable es root g ⊎ (g ≡ f)
  back g (inl d) = inl (inl d)
  back g (inr x) = back_by g x.0 (same_or_not x.0 i) x.1 x.2

  forth : (g : ℕ) → IsTable es root g → IsTable fs root g
  forth g (inl d) = inl d
  forth g (inr x) = inr (x.0, x.1, leaf_else x.0 x.1 (λ d. none_some _ g none (ap (leaf_at es root) (sym d) ∙ x.2)) ∙ x.2)

  no_page : (q g : ℕ) → frame_at o.map.pages q ≡ Some g → IsTable es root g ⊎ (g ≡ f) → ⊥
  no_page q g e (inl t) = m.plain q g e t
  no_page q g e (inr d) = m.blank q f took (e ∙ ap Some d)

  no_rest : (g : ℕ) → A' g → IsTable es root g ⊎ (g ≡ f) → ⊥
  no_rest g a (inl t) = m.unused g (fewer g a).0 t
  no_rest g a (inr d) = (fewer g a).1 d

  waits_still : (g : ℕ) → (g ≡ f) ⊎ A' g → IsTable fs root g ⊎ (IsPageAt o g ⊎ A' g)
  waits_still g (inl e) = inl (inr (i, lt, leaf_here ∙ ap Some (sym e)))
  waits_still g (inr a) = inr (inr a)

  still : (g : ℕ) → IsTable es root g ⊎ (IsPageAt o g ⊎ A g) → IsTable fs root g ⊎ (IsPageAt o g ⊎ A' g)
  still g (inl t) = inl (forth g t)
  still g (inr (inl q)) = inr (inl q)
  still g (inr (inr a)) = waits_still g (rest g a)

  leads_still : (w : Walk) → LeadsTo es o w → LeadsTo fs o w
  leads_still Unmapped l = tt
  leads_still (Local x b c) l = (l.0, λ t. holds x ∙ l.1 t, l.2)
  leads_still (Exposed q b) l = l

  pub leafed_shown : (u : ℕ) → u < 2 ^ 18 → vpn_mapping fs root o.map.pages u ≡ vpn_mapping es root o.map.pages u
  leafed_shown u l = ap (λ (w : Walk). mapping (pfn_by o.map.pages w) (wanted_by w)) (walks u l)

  bytes_by : (q : ℕ) (x : Option ℕ) → frame_at o.map.pages q ≡ x → bytes_for fs x ≡ bytes_for es x
  bytes_by q None e = refl
  bytes_by q (Some g) e = ap (λ (ws : List ℕ). Some (bytes_of ws)) (words g (λ d. m.blank q f took (e ∙ ap Some d)) (λ d. m.plain q g e (inl d)))

  pub leafed_bytes : (q : ℕ) → page_bytes fs o.map.pages q ≡ page_bytes es o.map.pages q
  leafed_bytes q = bytes_by q (frame_at o.map.pages q) refl

  pub leafed_made : IsMade fs root o A'
  leafed_made = record {
    tables = tables;
    few = m.few;
    lists = m.lists;
    marks = m.marks;
    held = λ q g h. ap weight_of (holds g) ∙ m.held q g h;
    plain = λ q g h t. no_page q g h (back g t);
    apart = m.apart;
    sole = λ q g h. let w = m.sole q g h in (λ x. holds g ∙ w.0 x, λ x. w.1 (sym (holds g) ∙ x));
    once = λ g a. ap weight_of (holds g) ∙ m.once g (fewer g a).0;
    unused = λ g a t. no_rest g a (back g t);
    blank = λ q g a. m.blank q g (fewer g a).0;
    only = λ g h. still g (m.only g (ap is_here (sym (holds g)) ∙ h));
    walks = λ u l. subst (LeadsTo fs o) (sym (walks u l)) (leads_still (walk_at es root u) (m.walks u l));
    listed = λ q u l. let w = m.listed q u l in (λ x. ap (pfn_by o.map.pages) (walks u l) ∙ w.0 x, λ x. w.1 (ap (pfn_by o.map.pages) (sym (walks u l)) ∙ x));
  }
