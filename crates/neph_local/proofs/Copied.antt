-- The leaf tables of a parent are copied, one after another.
use Rattle.std.proofs.Common.{◌≡◌, ◌≢◌, ◌<◌, ◌+◌, ◌/◌, ◌%◌, ◌^◌, ◌==◌, ◌++◌, ◌⊎◌, inl, inr, if◌then◌else◌, ℕ, Bool, true, false, List, [], ◌∷◌, is_some, Some, None, refl, sym, ap, subst, ◌∙◌, arith, eq-eqb, ne_eqb}
use Rattle.std.specs.declared.option.Option.{Option}
use Rattle.neph_pool.specs.declared.entry.Entry.{Entry}
use Rattle.neph_pool.specs.Entries.{hold_at, words_at, IsSoleAt}
use Rattle.neph_pool.specs.Handing.{AreDistinct}
use Rattle.neph_pool.proofs.Rows.{same_or_not}
use Rattle.neph_ptab.specs.Tables.{leaf_at, walk_by, walk_at, IsTable, IsTables}
use Rattle.neph_memory.specs.Building.{IsAmong}
use Rattle.neph_memory.proofs.Numbers.{once_last, once_rest, in_last, in_rest, in_other, in_either}
use Rattle.neph_local.specs.Copies.{AreCopied}
use Rattle.neph_local.proofs.Tabling.{none_is}

some_same : (a b : ℕ) → Some a ≡ Some b → a ≡ b
some_same a b e = cc

none_some : (x : Option ℕ) (f : ℕ) → x ≡ None → x ≡ Some f → ⊥
none_some x f a b = cc

-- the parent has no such leaf table
pub copied_none : (es : List (Option Entry)) (top : ℕ) (cs fs : List (Option Entry)) (root : ℕ) (waits left : List ℕ) (n : ℕ) → n < 512 → is_some (leaf_at es top n) ≡ false → AreCopied es top cs fs root waits left n → AreCopied es top cs fs root waits left (n + 1)
copied_none es top cs fs root waits left n lt lacks a =
    let gone : leaf_at es top n ≡ None = none_is (leaf_at es top n) lacks in
    let none : leaf_at fs root n ≡ None = a.none n (omega arith) lt in record {
      tables = a.tables;
      holds = a.holds;
      words = a.words;
      there = λ i l. elim (same_or_not i n) [
        | inl e ↦ ap (λ (k : ℕ). is_some (leaf_at fs root k)) e ∙ ap is_some none ∙ sym lacks ∙ ap (λ (k : ℕ). is_some (leaf_at es top k)) (sym e)
        | inr d ↦ a.there i (omega (arith, l, d))
      ];
      none = λ i le l. a.none i (omega (arith, le)) l;
      walks = λ u lu l. elim (same_or_not (u / 512) n) [
        | inl e ↦
            ap (λ (x : Option ℕ). walk_by fs x (u % 512)) (ap (leaf_at fs root) e ∙ none)
            ∙ sym (ap (λ (x : Option ℕ). walk_by es x (u % 512)) (ap (leaf_at es top) e ∙ gone))
        | inr d ↦ a.walks u lu (omega (arith, l, d))
      ];
      named = a.named;
      alone = λ i l s. elim (same_or_not i n) [
        | inl e ↦ absurd (let z : true ≡ false = sym (subst (λ (k : ℕ). is_some (leaf_at es top k) ≡ true) e s) ∙ lacks in cc)
        | inr d ↦ a.alone i (omega (arith, l, d)) s
      ];
      waiting = a.waiting;
      free = a.free;
      used = a.used;
      once = a.once;
    }

-- it has one, which is copied into the frame f
module _ (es : List (Option Entry)) (top : ℕ) (cs fs gs : List (Option Entry)) (root : ℕ) (waits old new : List ℕ) (n f : ℕ) (lt : n < 512) (a : AreCopied es top cs fs root waits old n) (there : is_some (leaf_at es top n) ≡ true)
    (e : old ≡ new ++ f ∷ []) (alone : (g : ℕ) → IsSoleAt es g → hold_at fs g ≡ None) (leaves : (j : ℕ) → j < 512 → leaf_at gs root j ≡ (if j == n then Some f else leaf_at fs root j))
    (walks : (u : ℕ) → u < 2 ^ 18 → walk_at gs root u ≡ (if u / 512 == n then walk_at es top u else walk_at fs root u)) (holds : (g : ℕ) → hold_at gs g ≡ hold_at fs g)
    (words : (g : ℕ) → g ≢ root → g ≢ f → words_at gs g ≡ words_at fs g) (tables : IsTables gs root) where
  leaf_here : leaf_at gs root n ≡ Some f
  leaf_here = leaves n lt ∙ ap (λ (b : Bool). if b then Some f else leaf_at fs root n) (eq-eqb n n refl)

  leaf_else : (j : ℕ) → j < 512 → j ≢ n → leaf_at gs root j ≡ leaf_at fs root j
  leaf_else j l d = leaves j l ∙ ap (λ (b : Bool). if b then Some f else leaf_at fs root j) (ne_eqb j n d)

  took : IsAmong old f
  took = subst (λ (xs : List ℕ). IsAmong xs f) (sym e) (in_last new f)

  more : (g : ℕ) → IsAmong new g → IsAmong old g
  more g h = subst (λ (xs : List ℕ). IsAmong xs g) (sym e) (in_rest new f g h)

  other : (g : ℕ) → IsAmong new g → g ≢ f
  other g h = in_other new f g (once_last new f (subst AreDistinct e a.once)) h

  rest : (g : ℕ) → IsAmong old g → (g ≡ f) ⊎ IsAmong new g
  rest g h = in_either new f g (subst (λ (xs : List ℕ). IsAmong xs g) e h)

  none : leaf_at fs root n ≡ None
  none = a.none n (omega arith) lt

  no_table : (g : ℕ) → IsAmong new g → IsTable gs root g → ⊥
  no_table g h (inl d) = a.free g (more g h) (inl d)
  no_table g h (inr x) = elim (same_or_not x.0 n) [
    | inl d ↦ other g h (some_same g f (sym x.2 ∙ ap (leaf_at gs root) d ∙ leaf_here))
    | inr d ↦ a.free g (more g h) (inr (x.0, x.1, sym (leaf_else x.0 x.1 d) ∙ x.2))
  ]

  forth : (g : ℕ) → IsTable fs root g → IsTable gs root g
  forth g (inl d) = inl d
  forth g (inr x) = inr (x.0, x.1, leaf_else x.0 x.1 (λ d. none_some _ g none (ap (leaf_at fs root) (sym d) ∙ x.2)) ∙ x.2)

  still : (g : ℕ) → IsAmong old g ⊎ IsTable fs root g → IsAmong new g ⊎ IsTable gs root g
  still g (inr t) = inr (forth g t)
  still g (inl h) = elim (rest g h) [ inl d ↦ inr (inr (n, lt, leaf_here ∙ ap Some (sym d))) | inr h' ↦ inl h' ]

  pub copied_more : AreCopied es top cs gs root waits new (n + 1)
  copied_more = record {
    tables = tables;
    holds = λ g. holds g ∙ a.holds g;
    words = λ g d h. words g d (λ k. h (subst (IsAmong waits) (sym k) (a.waiting f took))) ∙ a.words g d h;
    there = λ i l. elim (same_or_not i n) [
      | inl d ↦ ap (λ (k : ℕ). is_some (leaf_at gs root k)) d ∙ ap is_some leaf_here ∙ sym there ∙ ap (λ (k : ℕ). is_some (leaf_at es top k)) (sym d)
      | inr d ↦ ap is_some (leaf_else i (omega (arith, l, lt)) d) ∙ a.there i (omega (arith, l, d))
    ];
    none = λ i le l. leaf_else i l (λ d. omega (arith, d, le)) ∙ a.none i (omega (arith, le)) l;
    walks = λ u lu l. elim (same_or_not (u / 512) n) [
      | inl d ↦ walks u lu ∙ ap (λ (b : Bool). if b then walk_at es top u else walk_at fs root u) (eq-eqb (u / 512) n d)
      | inr d ↦ walks u lu ∙ ap (λ (b : Bool). if b then walk_at es top u else walk_at fs root u) (ne_eqb (u / 512) n d) ∙ a.walks u lu (omega (arith, l, d))
    ];
    named = λ i x l h. elim (same_or_not i n) [
      | inl d ↦ subst (IsAmong waits) (some_same f x (sym leaf_here ∙ ap (leaf_at gs root) (sym d) ∙ h)) (a.waiting f took)
      | inr d ↦ a.named i x l (sym (leaf_else i l d) ∙ h)
    ];
    alone = λ i l s g k. elim (same_or_not i n) [
      | inl d ↦ sym (a.holds g) ∙ alone g k
      | inr d ↦ a.alone i (omega (arith, l, d)) s g k
    ];
    waiting = λ g h. a.waiting g (more g h);
    free = no_table;
    used = λ g h. still g (a.used g h);
    once = once_rest new f (subst AreDistinct e a.once);
  }
