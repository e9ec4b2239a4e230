-- A leaf table is copied from one seat to another.
use Rattle.std.proofs.Common.{◌≡◌, ◌/◌, ◌%◌, ◌<◌, ◌==◌, if◌then◌else◌, inl, inr, ℕ, Bool, List, get_or, Some, sym, ap, subst, ◌∙◌, eq-eqb, ne_eqb}
use Rattle.std.specs.declared.option.Option.{Option}
use Rattle.neph_pool.specs.declared.entry.Entry.{Entry}
use Rattle.neph_pool.specs.Entries.{words_at}
use Rattle.neph_pool.specs.Names.{both_names}
use Rattle.neph_pool.specs.World.{World, Spares}
use Rattle.neph_pool.proofs.Rows.{same_or_not, apart_left, apart_right}
use Rattle.neph_ptab.specs.declared.walk.Walk.{Walk}
use Rattle.neph_ptab.specs.Bits.{walk_in}
use Rattle.neph_ptab.specs.Tables.{leaf_at, walk_by, walk_at, IsTables}
use Rattle.neph_ptab.proofs.Changing.{IsEntry}

-- the words of a leaf are entries
pub leaf_entries : (es : List (Option Entry)) (root : ℕ) → IsTables es root → (i f : ℕ) → i < 512 → leaf_at es root i ≡ Some f → (w : ℕ) → w < 512 → IsEntry (get_or (words_at es f) w 0)
leaf_entries es root t i f li is w lw = (t.words i f w li lw is, t.ranges i f w li lw is, t.either i f w li lw is)

-- the walk of a virtual page through a copy is that through the leaf
pub copied_walk : (es : List (Option Entry)) (root i f u : ℕ) (x : Walk) → leaf_at es root i ≡ Some f → (if u / 512 == i then walk_in (get_or (words_at es f) (u % 512) 0) else x) ≡ (if u / 512 == i then walk_at es root u else x)
copied_walk es root i f u x is = elim (same_or_not (u / 512) i) [
  | inl q ↦
      ap (λ (b : Bool). if b then walk_in (get_or (words_at es f) (u % 512) 0) else x) (eq-eqb (u / 512) i q)
      ∙ sym (ap (λ (o : Option ℕ). walk_by es o (u % 512)) (ap (leaf_at es root) q ∙ is))
      ∙ sym (ap (λ (b : Bool). if b then walk_at es root u else x) (eq-eqb (u / 512) i q))
  | inr n ↦
      ap (λ (b : Bool). if b then walk_in (get_or (words_at es f) (u % 512) 0) else x) (ne_eqb (u / 512) i n)
      ∙ sym (ap (λ (b : Bool). if b then walk_at es root u else x) (ne_eqb (u / 512) i n))
]

-- a call on one seat, then one on two, then one on the other
pub spares_thrice : {Pool Seat : Type 0} (W : World Pool Seat) (ns ms ns' ms' : ℕ → Bool) (p q r s : Pool) → Spares W ns p q → ns' ≡ ns → Spares W (both_names ns' ms) q r → ms' ≡ ms → Spares W ms' r s → Spares W (both_names ns ms) p s
spares_thrice W ns ms ns' ms' p q r s h e k d l =
    let k' = subst (λ (xs : ℕ → Bool). Spares W (both_names xs ms) q r) e k in
    let l' = subst (λ (xs : ℕ → Bool). Spares W xs r s) d l in record {
      frames = l'.frames ∙ k'.frames ∙ h.frames;
      cap = l'.cap ∙ k'.cap ∙ h.cap;
      fits = λ t f a. l'.fits t (k'.fits t (h.fits t f (apart_left ns ms (W.names t) a)) a) (apart_right ns ms (W.names t) a);
      entries = λ t f a.
          let one = h.fits t f (apart_left ns ms (W.names t) a) in
          let two = k'.fits t one a in
          l'.entries t two (apart_right ns ms (W.names t) a) ∙ k'.entries t one a ∙ h.entries t f (apart_left ns ms (W.names t) a);
    }
