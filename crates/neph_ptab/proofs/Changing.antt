-- What a change of the frames does to the tables that stand in them.
use Rattle.std.proofs.Common.{◌≡◌, ◌≢◌, ◌/◌, ◌%◌, ◌^◌, ◌<◌, ◌⊎◌, inl, inr, ℕ, true, List, length, set, get_or, Some, None, refl, sym, ap, subst, ◌∙◌, arith, ◌==◌, if◌then◌else◌, eq-eqb, ne_eqb}
use Rattle.std.proofs.lemmas.List.{get_or-set_other, get_or-set_same}
use Rattle.std.specs.declared.option.Option.{Option}
use Rattle.neph_pool.specs.declared.entry.Entry.{Entry}
use Rattle.neph_pool.specs.Entries.{hold_at, words_at, word_at, with_words, with_word, is_here, IsSoleAt}
use Rattle.neph_pool.proofs.Entries.{hold_at-with_words, words_at-with_words, words_at-with_words_other}
use Rattle.neph_pool.proofs.Rows.{same_or_not}
use Rattle.neph_ptab.specs.declared.walk.Walk.{Walk}
use Rattle.neph_ptab.specs.declared.walk.Walk.TheVariants.{None as Unmapped}
use Rattle.neph_ptab.specs.Bits.{leaf_in, root_word, walk_in, walk_word, InRange, NotBoth}
use Rattle.neph_ptab.specs.Tables.{leaf_at, walk_by, walk_at, IsTable, IsTables, zero_words}
use Rattle.neph_ptab.proofs.Spelling.{leaf_back, walk_back}
use Rattle.neph_ptab.proofs.Zeros.{zero_at}

pub place_small : (v : ℕ) → v < 2 ^ 18 → v / 512 < 512
place_small v h = omega arith

pub word_small : (v : ℕ) → v % 512 < 512
word_small v = omega arith

some_same : (a b : ℕ) → Some a ≡ Some b → a ≡ b
some_same a b e = cc

-- the frames of the tables are held as before and have the words that they had
pub record IsBeside (es fs : List (Option Entry)) (root : ℕ) : Type 0 where
  pub holds : (f : ℕ) → IsTable es root f → hold_at fs f ≡ hold_at es f
  pub words : (f : ℕ) → IsTable es root f → words_at fs f ≡ words_at es f

-- then the tables are as before
module _ (es fs : List (Option Entry)) (root : ℕ) (t : IsTables es root) (b : IsBeside es fs root) where
  root_same : (i : ℕ) → word_at fs root i ≡ word_at es root i
  root_same i = ap (λ (ws : List ℕ). get_or ws i 0) (b.words root (inl refl))

  pub leaves_stay : (i : ℕ) → leaf_at fs root i ≡ leaf_at es root i
  leaves_stay i = ap leaf_in (root_same i)

  was : (i f : ℕ) → leaf_at fs root i ≡ Some f → leaf_at es root i ≡ Some f
  was i f e = sym (leaves_stay i) ∙ e

  leaf_same : (i f w : ℕ) → i < 512 → leaf_at es root i ≡ Some f → word_at fs f w ≡ word_at es f w
  leaf_same i f w lt e = ap (λ (ws : List ℕ). get_or ws w 0) (b.words f (inr (i, lt, e)))

  by_stays : (o : Option ℕ) (i w : ℕ) → i < 512 → leaf_at es root i ≡ o → walk_by fs o w ≡ walk_by es o w
  by_stays None i w lt e = refl
  by_stays (Some f) i w lt e = ap walk_in (leaf_same i f w lt e)

  pub walks_stay : (v : ℕ) → v < 2 ^ 18 → walk_at fs root v ≡ walk_at es root v
  walks_stay v h = ap (λ (o : Option ℕ). walk_by fs o (v % 512)) (leaves_stay (v / 512)) ∙ by_stays (leaf_at es root (v / 512)) (v / 512) (v % 512) (place_small v h) refl

  pub tables_stay : IsTables fs root
  tables_stay = record {
    top = b.holds root (inl refl) ∙ t.top;
    entries = λ i lt. root_same i ∙ t.entries i lt ∙ ap root_word (sym (leaves_stay i));
    leaves = λ i f lt e. b.holds f (inr (i, lt, was i f e)) ∙ t.leaves i f lt (was i f e);
    numbers = λ i f lt e. t.numbers i f lt (was i f e);
    below = λ i f lt e. t.below i f lt (was i f e);
    apart = λ i j f li lj e d. t.apart i j f li lj (was i f e) (was j f d);
    words = λ i f w li lw e. rw (leaf_same i f w li (was i f e)) (t.words i f w li lw (was i f e));
    ranges = λ i f w li lw e. rw (leaf_same i f w li (was i f e)) (t.ranges i f w li lw (was i f e));
    either = λ i f w li lw e. rw (leaf_same i f w li (was i f e)) (t.either i f w li lw (was i f e));
  }

-- a word of one leaf changes
module _ (es : List (Option Entry)) (root : ℕ) (t : IsTables es root) (at : ℕ) (place : ℕ) (leaf : ℕ) (la : at < 512) (is : leaf_at es root at ≡ Some leaf) (lp : place < length (words_at es leaf))
    (to : Walk) (range : InRange to) (once : NotBoth to) where
  abbrev fs : List (Option Entry)
  fs = with_word es leaf place (walk_word to)

  here : is_here (hold_at es leaf) ≡ true
  here = ap is_here (t.leaves at leaf la is)

  holds : (f : ℕ) → hold_at fs f ≡ hold_at es f
  holds f = hold_at-with_words es leaf _ f

  words_else : (f : ℕ) → f ≢ leaf → words_at fs f ≡ words_at es f
  words_else f n = words_at-with_words_other es leaf _ f n

  new_words : words_at fs leaf ≡ set (words_at es leaf) place (walk_word to)
  new_words = words_at-with_words es leaf _ here

  word_here : word_at fs leaf place ≡ walk_word to
  word_here = ap (λ (ws : List ℕ). get_or ws place 0) new_words ∙ get_or-set_same (words_at es leaf) place (walk_word to) 0 lp

  word_else : (w : ℕ) → w ≢ place → word_at fs leaf w ≡ word_at es leaf w
  word_else w n = ap (λ (ws : List ℕ). get_or ws w 0) new_words ∙ get_or-set_other (words_at es leaf) place w (walk_word to) 0 n

  not_root : root ≢ leaf
  not_root e = t.below at leaf la is (sym e)

  top_same : (i : ℕ) → word_at fs root i ≡ word_at es root i
  top_same i = ap (λ (ws : List ℕ). get_or ws i 0) (words_else root not_root)

  pub set_leaves : (i : ℕ) → leaf_at fs root i ≡ leaf_at es root i
  set_leaves i = ap leaf_in (top_same i)

  old : (i f : ℕ) → leaf_at fs root i ≡ Some f → leaf_at es root i ≡ Some f
  old i f e = sym (set_leaves i) ∙ e

  -- a word of a leaf is the new one, or is as before
  word_is : (i f w : ℕ) → i < 512 → leaf_at es root i ≡ Some f → ((i ≡ at) × (w ≡ place) × (word_at fs f w ≡ walk_word to)) ⊎ (((i ≢ at) ⊎ (w ≢ place)) × (word_at fs f w ≡ word_at es f w))
  word_is i f w li e = elim (same_or_not f leaf) [
    | inr n ↦ inr (inl (λ (q : i ≡ at). n (some_same f leaf (sym e ∙ ap (λ (k : ℕ). leaf_at es root k) q ∙ is))), ap (λ (ws : List ℕ). get_or ws w 0) (words_else f n))
    | inl q ↦ elim (same_or_not w place) [
      | inl p ↦ inl (t.apart i at leaf li la (e ∙ ap (λ (k : ℕ). Some k) q) is, p, rw (q, p) word_here)
      | inr n ↦ inr (inr n, rw q (word_else w n))
    ]
  ]

  pub set_stands : IsTables fs root
  set_stands = record {
    top = holds root ∙ t.top;
    entries = λ i lt. top_same i ∙ t.entries i lt ∙ ap root_word (sym (set_leaves i));
    leaves = λ i f lt e. holds f ∙ t.leaves i f lt (old i f e);
    numbers = λ i f lt e. t.numbers i f lt (old i f e);
    below = λ i f lt e. t.below i f lt (old i f e);
    apart = λ i j f li lj e d. t.apart i j f li lj (old i f e) (old j f d);
    words = λ i f w li lw e. elim (word_is i f w li (old i f e)) [
      | inl x ↦ rw (x.2, walk_back to range) refl
      | inr x ↦ rw x.1 (t.words i f w li lw (old i f e))
    ];
    ranges = λ i f w li lw e. elim (word_is i f w li (old i f e)) [
      | inl x ↦ rw (x.2, walk_back to range) range
      | inr x ↦ rw x.1 (t.ranges i f w li lw (old i f e))
    ];
    either = λ i f w li lw e. elim (word_is i f w li (old i f e)) [
      | inl x ↦ rw (x.2, walk_back to range) once
      | inr x ↦ rw x.1 (t.either i f w li lw (old i f e))
    ];
  }

  walk_set : (v u : ℕ) → v / 512 ≡ at → v % 512 ≡ place → u < 2 ^ 18 → (o : Option ℕ) → leaf_at es root (u / 512) ≡ o → walk_by fs o (u % 512) ≡ (if u == v then to else walk_by es o (u % 512))
  walk_set v u ea ep h None e =
      let n : u ≢ v = (λ (q : u ≡ v). let none : leaf_at es root at ≡ None = ap (λ (k : ℕ). leaf_at es root k) (sym ea ∙ ap (λ (k : ℕ). k / 512) (sym q)) ∙ e in absurd (cc)) in
      rw (ne_eqb u v n) refl
  walk_set v u ea ep h (Some f) e = elim (word_is (u / 512) f (u % 512) (place_small u h) e) [
    | inl x ↦
        let q : u ≡ v = omega (arith, x.0, x.1) in
        rw (eq-eqb u v q, x.2) (walk_back to range)
    | inr x ↦
        let n : u ≢ v = (λ (q : u ≡ v). elim x.0 [ inl a ↦ a (ap (λ (k : ℕ). k / 512) q ∙ ea) | inr a ↦ a (ap (λ (k : ℕ). k % 512) q ∙ ep) ]) in
        rw (ne_eqb u v n, x.1) refl
  ]

  pub set_walks : (v u : ℕ) → v / 512 ≡ at → v % 512 ≡ place → u < 2 ^ 18 → walk_at fs root u ≡ (if u == v then to else walk_at es root u)
  set_walks v u ea ep h = ap (λ (o : Option ℕ). walk_by fs o (u % 512)) (set_leaves (u / 512)) ∙ walk_set v u ea ep h (leaf_at es root (u / 512)) refl

-- a root of zeros
module _ (es : List (Option Entry)) (root : ℕ) (sole : IsSoleAt es root) where
  abbrev ns : List (Option Entry)
  ns = with_words es root zero_words

  zero_word : (i : ℕ) → word_at ns root i ≡ 0
  zero_word i = ap (λ (ws : List ℕ). get_or ws i 0) (words_at-with_words es root zero_words (ap is_here sole)) ∙ zero_at i

  pub new_leaves : (i : ℕ) → leaf_at ns root i ≡ None
  new_leaves i = ap leaf_in (zero_word i)

  pub new_walks : (v : ℕ) → walk_at ns root v ≡ Unmapped
  new_walks v = ap (λ (o : Option ℕ). walk_by ns o (v % 512)) (new_leaves (v / 512))

  no_leaf : (i f : ℕ) → leaf_at ns root i ≡ Some f → ⊥
  no_leaf i f e = let none = new_leaves i in absurd (cc)

  pub new_stands : IsTables ns root
  new_stands = record {
    top = hold_at-with_words es root zero_words root ∙ sole;
    entries = λ i lt. zero_word i ∙ sym (ap root_word (new_leaves i));
    leaves = λ i f lt e. absurd (no_leaf i f e);
    numbers = λ i f lt e. absurd (no_leaf i f e);
    below = λ i f lt e. absurd (no_leaf i f e);
    apart = λ i j f li lj e d. absurd (no_leaf i f e);
    words = λ i f w li lw e. absurd (no_leaf i f e);
    ranges = λ i f w li lw e. absurd (no_leaf i f e);
    either = λ i f w li lw e. absurd (no_leaf i f e);
  }

-- a word of a leaf
abbrev pub IsEntry : ℕ → Type 0
IsEntry x = (x ≡ walk_word (walk_in x)) × InRange (walk_in x) × NotBoth (walk_in x)

-- a new leaf of these words, in a frame that is no table yet
module _ (es : List (Option Entry)) (root : ℕ) (t : IsTables es root) (at : ℕ) (la : at < 512) (needed : leaf_at es root at ≡ None) (frame : ℕ) (small : frame < 16384) (sole : IsSoleAt es frame)
    (off : frame ≢ root) (fresh : (i : ℕ) → i < 512 → leaf_at es root i ≢ Some frame) (long : length (words_at es root) ≡ 512)
    (ws : List ℕ) (good : (w : ℕ) → w < 512 → IsEntry (get_or ws w 0)) where
  abbrev zs : List (Option Entry)
  zs = with_words es frame ws

  abbrev ls : List (Option Entry)
  ls = with_word zs root at (root_word (Some frame))

  no_table : (f : ℕ) → IsTable es root f → f ≢ frame
  no_table f (inl e) q = off (sym q ∙ e)
  no_table f (inr i) q = fresh i.0 i.1 (i.2 ∙ ap (λ (k : ℕ). Some k) q)

  aside : IsBeside es zs root
  aside = record {
    holds = λ f i. hold_at-with_words es frame ws f;
    words = λ f i. words_at-with_words_other es frame ws f (no_table f i);
  }

  -- the tables before the root's entry is written
  zt : IsTables zs root
  zt = tables_stay es zs root t aside

  z_leaves : (i : ℕ) → leaf_at zs root i ≡ leaf_at es root i
  z_leaves i = leaves_stay es zs root t aside i

  pub filled_sole : IsSoleAt zs root
  filled_sole = zt.top

  root_here : is_here (hold_at zs root) ≡ true
  root_here = ap is_here zt.top

  z_long : length (words_at zs root) ≡ 512
  z_long = ap (λ (xs : List ℕ). length xs) (words_at-with_words_other es frame ws root (λ q. off (sym q))) ∙ long

  l_holds : (f : ℕ) → hold_at ls f ≡ hold_at zs f
  l_holds f = hold_at-with_words zs root _ f

  l_words : (f : ℕ) → f ≢ root → words_at ls f ≡ words_at zs f
  l_words f n = words_at-with_words_other zs root _ f n

  l_root : words_at ls root ≡ set (words_at zs root) at (root_word (Some frame))
  l_root = words_at-with_words zs root _ root_here

  l_at : word_at ls root at ≡ root_word (Some frame)
  l_at = ap (λ (xs : List ℕ). get_or xs at 0) l_root ∙ get_or-set_same (words_at zs root) at _ 0 (omega (arith, z_long))

  l_else : (i : ℕ) → i ≢ at → word_at ls root i ≡ word_at zs root i
  l_else i n = ap (λ (xs : List ℕ). get_or xs i 0) l_root ∙ get_or-set_other (words_at zs root) at i _ 0 n

  named : leaf_at ls root at ≡ Some frame
  named = ap leaf_in l_at ∙ leaf_back (Some frame) (λ f e. subst (λ (k : ℕ). k < 16384) (some_same frame f e) small)

  other : (i : ℕ) → i ≢ at → leaf_at ls root i ≡ leaf_at zs root i
  other i n = ap leaf_in (l_else i n)

  -- a word of the new leaf
  filled : (w : ℕ) → word_at ls frame w ≡ get_or ws w 0
  filled w = ap (λ (xs : List ℕ). get_or xs w 0) (l_words frame off ∙ words_at-with_words es frame ws (ap is_here sole))

  -- a leaf is the new one, or an old one
  which : (i f : ℕ) → i < 512 → leaf_at ls root i ≡ Some f → ((i ≡ at) × (f ≡ frame)) ⊎ ((i ≢ at) × (leaf_at zs root i ≡ Some f) × (f ≢ frame))
  which i f li e = elim (same_or_not i at) [
    | inl q ↦ inl (q, some_same f frame (sym e ∙ ap (λ (k : ℕ). leaf_at ls root k) q ∙ named))
    | inr n ↦
        let was : leaf_at zs root i ≡ Some f = sym (other i n) ∙ e in
        inr (n, was, λ (q : f ≡ frame). fresh i li (sym (z_leaves i) ∙ was ∙ ap (λ (k : ℕ). Some k) q))
  ]

  old_word : (i f w : ℕ) → i < 512 → leaf_at zs root i ≡ Some f → word_at ls f w ≡ word_at zs f w
  old_word i f w li e = ap (λ (xs : List ℕ). get_or xs w 0) (l_words f (zt.below i f li e))

  pub filled_stands : IsTables ls root
  filled_stands = record {
    top = l_holds root ∙ zt.top;
    entries = λ i lt. elim (same_or_not i at) [
      | inl q ↦ rw q (l_at ∙ ap root_word (sym named))
      | inr n ↦ l_else i n ∙ zt.entries i lt ∙ ap root_word (sym (other i n))
    ];
    leaves = λ i f li e. elim (which i f li e) [
      | inl x ↦ rw x.1 (l_holds frame ∙ hold_at-with_words es frame ws frame ∙ sole)
      | inr x ↦ l_holds f ∙ zt.leaves i f li x.1
    ];
    numbers = λ i f li e. elim (which i f li e) [ inl x ↦ rw x.1 small | inr x ↦ zt.numbers i f li x.1 ];
    below = λ i f li e. elim (which i f li e) [ inl x ↦ rw x.1 off | inr x ↦ zt.below i f li x.1 ];
    apart = λ i j f li lj e d. elim (which i f li e) [
      | inl x ↦ elim (which j f lj d) [ inl y ↦ x.0 ∙ sym y.0 | inr y ↦ absurd (y.2 x.1) ]
      | inr x ↦ elim (which j f lj d) [ inl y ↦ absurd (x.2 y.1) | inr y ↦ zt.apart i j f li lj x.1 y.1 ]
    ];
    words = λ i f w li lw e. elim (which i f li e) [
      | inl x ↦ rw (x.1, filled w) (good w lw).0
      | inr x ↦ rw (old_word i f w li x.1) (zt.words i f w li lw x.1)
    ];
    ranges = λ i f w li lw e. elim (which i f li e) [
      | inl x ↦ rw (x.1, filled w) (good w lw).1
      | inr x ↦ rw (old_word i f w li x.1) (zt.ranges i f w li lw x.1)
    ];
    either = λ i f w li lw e. elim (which i f li e) [
      | inl x ↦ rw (x.1, filled w) (good w lw).2
      | inr x ↦ rw (old_word i f w li x.1) (zt.either i f w li lw x.1)
    ];
  }

  pub filled_holds : (f : ℕ) → hold_at ls f ≡ hold_at es f
  filled_holds f = l_holds f ∙ hold_at-with_words es frame ws f

  pub filled_words : (f : ℕ) → f ≢ root → f ≢ frame → words_at ls f ≡ words_at es f
  filled_words f n m = l_words f n ∙ words_at-with_words_other es frame ws f m

  pub filled_leaves : (i : ℕ) → leaf_at ls root i ≡ (if i == at then Some frame else leaf_at es root i)
  filled_leaves i = elim (same_or_not i at) [
    | inl q ↦ rw (eq-eqb i at q) (ap (λ (k : ℕ). leaf_at ls root k) q ∙ named)
    | inr n ↦ rw (ne_eqb i at n) (other i n ∙ z_leaves i)
  ]

  walk_old : (i w : ℕ) → i < 512 → i ≢ at → (o : Option ℕ) → leaf_at zs root i ≡ o → walk_by ls o w ≡ walk_by zs o w
  walk_old i w li n None e = refl
  walk_old i w li n (Some f) e = ap walk_in (old_word i f w li e)

  pub filled_walks : (u : ℕ) → u < 2 ^ 18 → walk_at ls root u ≡ (if u / 512 == at then walk_in (get_or ws (u % 512) 0) else walk_at es root u)
  filled_walks u h = elim (same_or_not (u / 512) at) [
    | inl q ↦
        rw (eq-eqb (u / 512) at q)
        (ap (λ (o : Option ℕ). walk_by ls o (u % 512)) (ap (λ (k : ℕ). leaf_at ls root k) q ∙ named) ∙ ap walk_in (filled (u % 512)))
    | inr n ↦
        rw (ne_eqb (u / 512) at n)
        (ap (λ (o : Option ℕ). walk_by ls o (u % 512)) (other (u / 512) n) ∙ walk_old (u / 512) (u % 512) (place_small u h) n (leaf_at zs root (u / 512)) refl
        ∙ walks_stay es zs root t aside u h)
  ]

zero_entry : (w : ℕ) → w < 512 → IsEntry (get_or zero_words w 0)
zero_entry w lt = rw (zero_at w) (refl, tt, tt)

-- a new leaf of zeros
module _ (es : List (Option Entry)) (root : ℕ) (t : IsTables es root) (at : ℕ) (la : at < 512) (needed : leaf_at es root at ≡ None) (frame : ℕ) (small : frame < 16384) (sole : IsSoleAt es frame)
    (off : frame ≢ root) (fresh : (i : ℕ) → i < 512 → leaf_at es root i ≢ Some frame) (long : length (words_at es root) ≡ 512) where
  abbrev es' : List (Option Entry)
  es' = with_word (with_words es frame zero_words) root at (root_word (Some frame))

  pub leaf_sole : IsSoleAt (with_words es frame zero_words) root
  leaf_sole = filled_sole es root t at la needed frame small sole off fresh long zero_words zero_entry

  pub leaf_stands : IsTables es' root
  leaf_stands = filled_stands es root t at la needed frame small sole off fresh long zero_words zero_entry

  pub leaf_holds : (f : ℕ) → hold_at es' f ≡ hold_at es f
  leaf_holds = filled_holds es root t at la needed frame small sole off fresh long zero_words zero_entry

  pub leaf_words : (f : ℕ) → f ≢ root → f ≢ frame → words_at es' f ≡ words_at es f
  leaf_words = filled_words es root t at la needed frame small sole off fresh long zero_words zero_entry

  pub leaf_leaves : (i : ℕ) → leaf_at es' root i ≡ (if i == at then Some frame else leaf_at es root i)
  leaf_leaves = filled_leaves es root t at la needed frame small sole off fresh long zero_words zero_entry

  pub leaf_walks : (u : ℕ) → u < 2 ^ 18 → walk_at es' root u ≡ walk_at es root u
  leaf_walks u h = filled_walks es root t at la needed frame small sole off fresh long zero_words zero_entry u h ∙ elim (same_or_not (u / 512) at) [
    | inl q ↦
        rw (eq-eqb (u / 512) at q)
        (ap walk_in (zero_at (u % 512)) ∙ sym (ap (λ (o : Option ℕ). walk_by es o (u % 512)) (ap (λ (k : ℕ). leaf_at es root k) q ∙ needed)))
    | inr n ↦ rw (ne_eqb (u / 512) at n) refl
  ]

pub same_word : (es fs : List (Option Entry)) (f p q x y : ℕ) → es ≡ fs → p ≡ q → x ≡ y → with_word es f p x ≡ with_word fs f q y
same_word es fs f p q x y e i w = ap (λ (zs : List (Option Entry)). with_word zs f p x) e ∙ ap (λ (k : ℕ). with_word fs f k x) i ∙ ap (λ (k : ℕ). with_word fs f q k) w
