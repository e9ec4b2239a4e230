-- Walks to a page that lies elsewhere.
use Rattle.std.proofs.Common.{◌≡◌, ◌≢◌, ◌==◌, ◌||◌, ◌⊎◌, inl, inr, ◌∷◌, ◌++◌, [], if◌then◌else◌, ℕ, Bool, true, false, List, Some, None, refl, sym, ap, subst, ◌∙◌, eq-eqb, ne_eqb}
use Rattle.neph_pool.proofs.Rows.{same_or_not}
use Rattle.neph_ptab.specs.declared.walk.Walk.{Walk}
use Rattle.neph_ptab.specs.declared.walk.Walk.TheVariants.{None as Unmapped, Local, Exposed}
use Rattle.neph_gmap.specs.declared.page.Page.{Page}
use Rattle.neph_gmap.specs.declared.page.Page.TheVariants.{Local as At, Exposed as Away}
use Rattle.neph_gmap.specs.GuestPages.{has_number}
use Rattle.neph_pool.specs.Names.{both_names}
use Rattle.neph_pool.specs.World.{World, Spares}
use Rattle.neph_memory.proofs.Places.{has_more}
use Rattle.neph_memory.specs.Memory.{pfn_by, wanted_by}
use Rattle.neph_memory.specs.Building.{lead_to}
use Rattle.neph_memory.specs.Exposed.{turned, walk_turned}

or_false : (b : Bool) → (b || false) ≡ b
or_false true = refl
or_false false = refl

-- the page is wanted writable where it was
pub wanted_turned : (place : Page) (p : ℕ) (w : Walk) → wanted_by (turned place p w) ≡ wanted_by w
wanted_turned (At f) p w = or_false (wanted_by w)
wanted_turned Away p w = refl

turned_twice : (place : Page) (p : ℕ) (w : Walk) → turned place p (turned place p w) ≡ turned place p w
turned_twice place p w = ap (λ (b : Bool). lead_to (Some place) true p b) (wanted_turned place p w)

turned_some : (place : Page) (p : ℕ) (w : Walk) → turned place p w ≡ Unmapped → ⊥
turned_some (At f) p w e = let z : Local f (wanted_by w) false ≡ Unmapped = e in cc
turned_some Away p w e = let z : Exposed p (wanted_by w) ≡ Unmapped = e in cc

choose : (place : Page) (p : ℕ) (a b : Bool) (w x y : Walk) → x ≡ (if a then turned place p w else w) → y ≡ (if b then turned place p x else x) → y ≡ (if (a || b) then turned place p w else w)
choose place p true true w x y e h = h ∙ ap (turned place p) e ∙ turned_twice place p w
choose place p true false w x y e h = h ∙ e
choose place p false true w x y e h = h ∙ ap (turned place p) e
choose place p false false w x y e h = h ∙ e

swap_eq : (u v : ℕ) → (u == v) ≡ (v == u)
swap_eq u v = by_case (same_or_not u v) where
  by_case : (u ≡ v) ⊎ (u ≢ v) → (u == v) ≡ (v == u)
  by_case (inl e) = eq-eqb u v e ∙ sym (eq-eqb v u (sym e))
  by_case (inr n) = ne_eqb u v n ∙ sym (ne_eqb v u (λ e. n (sym e)))

shown_more : (u v : ℕ) (xs : List ℕ) → has_number u (xs ++ v ∷ []) ≡ (has_number u xs || (u == v))
shown_more u v xs = has_more u xs v ∙ ap (λ (b : Bool). has_number u xs || b) (swap_eq v u)

-- one more virtual page leads to the page's new place
pub one_more : (place : Page) (p u v : ℕ) (xs ys : List ℕ) (w x y : Walk) → ys ≡ xs ++ v ∷ [] → x ≡ walk_turned place p xs u w → y ≡ (if u == v then turned place p x else x) → y ≡ walk_turned place p ys u w
one_more place p u v xs ys w x y l e h =
    choose place p (has_number u xs) (u == v) w x y e h ∙ ap (λ (b : Bool). if b then turned place p w else w) (sym (shown_more u v xs) ∙ ap (has_number u) (sym l))

-- a virtual page that is mapped stays so
pub some_after : (place : Page) (p : ℕ) (b : Bool) (w x : Walk) → x ≡ (if b then turned place p w else w) → w ≢ Unmapped → x ≢ Unmapped
some_after place p true w x e n d = turned_some place p w (sym e ∙ d)
some_after place p false w x e n d = n (sym e ∙ d)

-- a virtual page of a page is mapped
pub some_walk : (ps : List Page) (p : ℕ) (w : Walk) → pfn_by ps w ≡ Some p → w ≢ Unmapped
some_walk ps p w e d = let z : None ≡ Some p = sym (ap (pfn_by ps) d) ∙ e in cc

or_right : (b c : Bool) → c ≡ true → (b || c) ≡ true
or_right true c e = refl
or_right false c e = e

-- a call on one seat and another, and then one on the second
pub both_spare_second : {Pool Seat : Type 0} (W : World Pool Seat) (ns ks ms : ℕ → Bool) (p q r : Pool) → Spares W (both_names ns ks) p q → ms ≡ ks → Spares W ms q r → Spares W (both_names ns ks) p r
both_spare_second W ns ks ms p q r h e k =
    let k' = subst (λ (xs : ℕ → Bool). Spares W xs q r) e k in record {
      frames = k'.frames ∙ h.frames;
      cap = k'.cap ∙ h.cap;
      fits = λ t f a. k'.fits t (h.fits t f a) (λ d x y. a d (or_right (ns d) (ks d) x) y);
      entries = λ t f a. k'.entries t (h.fits t f a) (λ d x y. a d (or_right (ns d) (ks d) x) y) ∙ h.entries t f a;
    }
