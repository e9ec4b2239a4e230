-- What a seat has left of a frame that it lent.
use Rattle.std.proofs.Common.{◌≡◌, ◌≢◌, ◌<◌, ◌||◌, ◌⊎◌, inl, inr, ℕ, Bool, true, false, List, length, set, get_or, Some, None, refl, sym, ap, subst, ◌∙◌}
use Rattle.std.proofs.lemmas.List.{get_or-set_same, get_or-set_other}
use Rattle.std.specs.declared.option.Option.{Option}
use Rattle.neph_pool.specs.declared.entry.Entry.{Entry}
use Rattle.neph_pool.specs.declared.entry.Hold.{Hold}
use Rattle.neph_pool.specs.declared.entry.Hold.TheVariants.{Zero, Sole, Counted}
use Rattle.neph_pool.specs.Bytes.{bytes_of}
use Rattle.neph_pool.specs.Entries.{entry_at, entry_as, hold_of, words_of, hold_at, words_at, is_here, weight_of}
use Rattle.neph_pool.specs.Handing.{giving, left_of, left_hold}
use Rattle.neph_pool.specs.Names.{both_names}
use Rattle.neph_pool.specs.World.{World, Spares}
use Rattle.neph_pool.proofs.Rows.{same_or_not}
use Rattle.neph_memory.specs.declared.own.Own.{Own}
use Rattle.neph_memory.specs.Pages.{frame_at}
use Rattle.neph_memory.specs.Memory.{is_marked, bytes_for, IsMemory}

words_as : (h : Option Hold) (ws : List ℕ) → is_here h ≡ true → words_of (entry_as h ws) ≡ ws
words_as None ws e = absurd (cc)
words_as (Some h) ws e = refl

giving_by : (es : List (Option Entry)) (f g : ℕ) → f < length es → is_here (left_hold (hold_at es f)) ≡ true → (g ≡ f) ⊎ (g ≢ f) → words_at (giving es f) g ≡ words_at es g
unfolding hold_at words_at
giving_by es f g fit here (inl e) =
    ap (λ (k : ℕ). words_of (entry_at (giving es f) k)) e ∙ ap words_of (get_or-set_same es f (left_of (entry_at es f)) None fit)
    ∙ words_as (left_hold (hold_of (entry_at es f))) (words_of (entry_at es f)) here ∙ ap (λ (k : ℕ). words_of (entry_at es k)) (sym e)
giving_by es f g fit here (inr n) = ap words_of (get_or-set_other es f g (left_of (entry_at es f)) None n)

-- the words stay where a reference is left
pub words_giving : (es : List (Option Entry)) (f g : ℕ) → f < length es → is_here (left_hold (hold_at es f)) ≡ true → words_at (giving es f) g ≡ words_at es g
words_giving es f g fit here = giving_by es f g fit here (same_or_not g f)

or_left : (b c : Bool) → b ≡ true → (b || c) ≡ true
or_left true c e = refl
or_left false c e = absurd (cc)

-- a call on one seat, and then one on it and another
pub spares_both : {Pool Seat : Type 0} (W : World Pool Seat) (ns ms ks : ℕ → Bool) (p q r : Pool) → Spares W ns p q → ms ≡ ns → Spares W (both_names ms ks) q r → Spares W (both_names ns ks) p r
spares_both W ns ms ks p q r h e k =
    let k' = subst (λ (xs : ℕ → Bool). Spares W (both_names xs ks) q r) e k in record {
      frames = k'.frames ∙ h.frames;
      cap = k'.cap ∙ h.cap;
      fits = λ t f a. k'.fits t (h.fits t f (λ d x y. a d (or_left (ns d) (ks d) x) y)) a;
      entries = λ t f a. k'.entries t (h.fits t f (λ d x y. a d (or_left (ns d) (ks d) x) y)) a ∙ h.entries t f (λ d x y. a d (or_left (ns d) (ks d) x) y);
    }

-- a call on one seat and another, and then one on the first
pub both_spare : {Pool Seat : Type 0} (W : World Pool Seat) (ns ms ks : ℕ → Bool) (p q r : Pool) → Spares W (both_names ns ks) p q → ms ≡ ns → Spares W ms q r → Spares W (both_names ns ks) p r
both_spare W ns ms ks p q r h e k =
    let k' = subst (λ (xs : ℕ → Bool). Spares W xs q r) e k in record {
      frames = k'.frames ∙ h.frames;
      cap = k'.cap ∙ h.cap;
      fits = λ t f a. k'.fits t (h.fits t f a) (λ d x y. a d (or_left (ns d) (ks d) x) y);
      entries = λ t f a. k'.entries t (h.fits t f a) (λ d x y. a d (or_left (ns d) (ks d) x) y) ∙ h.entries t f a;
    }

counted_one : (h : Option Hold) → weight_of h ≡ 1 → (h ≡ Some Sole → ⊥) → h ≡ Some (Counted 1)
counted_one None e n = absurd (let z : 0 ≡ 1 = e in cc)
counted_one (Some Zero) e n = absurd (let z : 0 ≡ 1 = e in cc)
counted_one (Some Sole) e n = absurd (n refl)
counted_one (Some (Counted k)) e n = ap (λ (x : ℕ). Some (Counted x)) e

-- of a page that isn't marked a reference is lent: the seat holds each frame as it did
pub lent_holds : (es fs : List (Option Entry)) (root : ℕ) (o : Own) → IsMemory es root o → (p f : ℕ) → frame_at o.map.pages p ≡ Some f → is_marked o p ≡ false → hold_at fs f ≡ Some (Counted 1) → ((g : ℕ) → g ≢ f → hold_at fs g ≡ hold_at es g) → (g : ℕ) → hold_at fs g ≡ hold_at es g
lent_holds es fs root o m p f at clear kept others g = elim (same_or_not g f) [
  | inl e ↦
      ap (hold_at fs) e ∙ kept
      ∙ sym (counted_one (hold_at es f) (m.made.held p f at) (λ s. let yes : is_marked o p ≡ true = (m.made.sole p f at).1 s in absurd (cc)))
      ∙ ap (hold_at es) (sym e)
  | inr n ↦ others g n
]

-- the pages have the bytes that they had
pub same_bytes : (es fs : List (Option Entry)) (x : Option ℕ) → ((g : ℕ) → words_at fs g ≡ words_at es g) → bytes_for fs x ≡ bytes_for es x
same_bytes es fs None same = refl
same_bytes es fs (Some g) same = ap (λ (ws : List ℕ). Some (bytes_of ws)) (same g)

-- the mark is gone
pub mark_gone : (marks : List Bool) (p n : ℕ) → n ≡ p → p < length marks → get_or (set marks n false) p false ≡ false
mark_gone marks p n e lt = ap (λ (k : ℕ). get_or (set marks k false) p false) e ∙ get_or-set_same marks p false false lt

-- no mark was met
pub mark_clear : (marks : List Bool) (p n : ℕ) (b : Bool) → n ≡ p → b ≡ get_or marks n b → b ≡ false → p < length marks → get_or marks p false ≡ false
mark_clear marks p n true e at h lt = absurd (cc)
mark_clear marks p n false e at h lt = ap (λ (k : ℕ). get_or marks k false) (sym e) ∙ sym at
