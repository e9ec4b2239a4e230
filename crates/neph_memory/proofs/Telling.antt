-- What a look at a count tells of a page, and what it leaves so.
use Rattle.std.proofs.Common.{◌≡◌, ◌≢◌, ◌≤◌, ◌↔◌, ◌==◌, ℕ, Bool, true, false, List, slice_index, if◌then◌else◌, Some, None, IfSome, IsTrue, refl, sym, ap, subst, ◌∙◌, arith}
use Rattle.std.specs.declared.option.Option.{Option}
use Rattle.neph_pool.specs.World.{World}
use Rattle.neph_gmap.specs.GuestPages.{GuestPages}
use Rattle.neph_memory.specs.declared.own.Own.{Own}
use Rattle.neph_memory.specs.declared.dom_local.DomLocal.{DomLocal}
use Rattle.neph_memory.specs.Pages.{frame_at}
use Rattle.neph_memory.specs.Memory.{is_marked}
use Rattle.neph_memory.specs.Domains.{IfTold, IsSharedPage, TookSpare}
use Rattle.neph_memory.proofs.Standing.{not_marked}

-- what is so of the count that was met is so of the count that the pool tells
pub told_page : (t : Option (List ℕ)) (x : Option ℕ) (f m : ℕ) (IsSo : ℕ → Type 0) → x ≡ Some f → IsSo m → IfSome t (λ counts. m ≡ slice_index counts f) → IfSome t (λ counts. IfSome x (λ g. IsSo (slice_index counts g)))
told_page None x f m IsSo at is told = tt
told_page (Some counts) x f m IsSo at is told = subst (λ (y : Option ℕ). IfSome y (λ g. IsSo (slice_index counts g))) (sym at) (subst IsSo told is)

-- the same counts of the same pages
pub told_same : (t u : Option (List ℕ)) (x y : Option ℕ) (IsSo : ℕ → Type 0) → u ≡ t → y ≡ x → IfSome u (λ counts. IfSome y (λ g. IsSo (slice_index counts g))) → IfSome t (λ counts. IfSome x (λ g. IsSo (slice_index counts g)))
told_same t u x y IsSo e d h =
    subst (λ (w : Option (List ℕ)). IfSome w (λ counts. IfSome x (λ g. IsSo (slice_index counts g)))) e
    (subst (λ (z : Option ℕ). IfSome u (λ counts. IfSome z (λ g. IsSo (slice_index counts g)))) d h)

two_or_more : (b : Bool) (m : ℕ) → b ≡ false → IsTrue b ↔ (m ≡ 1) → 1 ≤ m → 2 ≤ m
two_or_more b m e met some = let n : m ≢ 1 = λ d. not_marked b (met.1 d) e in omega arith

-- what isn't the seat's alone isn't marked
pub unmarked : (b c : Bool) → (b ≡ true → c ≡ true) → c ≡ false → b ≡ false
unmarked true c h e = absurd (not_marked c (h refl) e)
unmarked false c h e = refl

module _ {Pool Seat : Type 0} (W : World Pool Seat) where
  -- a look at the frame of the page k met another reference
  pub shared_page : (p : Pool) (d : DomLocal Pool Seat) (k f : ℕ) → frame_at d.own.map.pages k ≡ Some f → (b : Bool) (m : ℕ) → b ≡ false → IsTrue b ↔ (m ≡ 1) → 1 ≤ m → IfSome (W.told p) (λ counts. m ≡ slice_index counts f)
      → is_marked d.own k ≡ false → IsSharedPage W p d k
  shared_page p d k f at b m e met some told mark = record {
    mark = mark;
    count = told_page (W.told p) (frame_at d.own.map.pages k) f m (λ n. 2 ≤ n) at (two_or_more b m e met some) told;
  }

  -- the same pages in a pool of the same counts
  pub shared_before : (p : Pool) (d : DomLocal Pool Seat) (q : Pool) (e : DomLocal Pool Seat) (k : ℕ) → W.told q ≡ W.told p → e.own ≡ d.own → IsSharedPage W q e k → IsSharedPage W p d k
  shared_before p d q e k told own h = record {
    mark = ap (λ (o : Own). is_marked o k) (sym own) ∙ h.mark;
    count = told_same (W.told p) (W.told q) (frame_at d.own.map.pages k) (frame_at e.own.map.pages k) (λ n. 2 ≤ n) told (ap (λ (o : Own). frame_at o.map.pages k) own) h.count;
  }

  abbrev chosen : Option ℕ → Bool → Option ℕ
  chosen x b = if b then x else None

  -- a call behind it that changes neither the pages nor the count that was met
  pub took_after : (p : Pool) (d : DomLocal Pool Seat) (q : Pool) (e : DomLocal Pool Seat) (r : Pool) (l : DomLocal Pool Seat) (k : ℕ) → l.own ≡ e.own → W.met l.seat ≡ W.met e.seat → TookSpare W p d q e k → TookSpare W p d r l k
  took_after p d q e r l k own met h = record {
    page = ap (λ (o : Own). frame_at o.map.pages k) own ∙ h.page;
    spare = ap (λ (o : Own). o.spare) own ∙ h.spare ∙ ap (λ (n : ℕ). chosen (frame_at d.own.map.pages k) (n == 1)) (sym met);
    met = subst (λ (n : ℕ). IfTold W p d k (λ m. n ≡ m)) (sym met) h.met;
  }

  -- a call before it that changes neither the places, the spare nor the counts
  pub took_before : (p : Pool) (d : DomLocal Pool Seat) (q : Pool) (e : DomLocal Pool Seat) (r : Pool) (l : DomLocal Pool Seat) (k : ℕ) → W.told q ≡ W.told p → e.own.map ≡ d.own.map → e.own.spare ≡ d.own.spare → TookSpare W q e r l k → TookSpare W p d r l k
  took_before p d q e r l k told map spare h =
      let at : frame_at e.own.map.pages k ≡ frame_at d.own.map.pages k = ap (λ (m : GuestPages). frame_at m.pages k) map in record {
        page = h.page ∙ spare;
        spare = h.spare ∙ ap (λ (x : Option ℕ). chosen x (W.met l.seat == 1)) at;
        met = told_same (W.told p) (W.told q) (frame_at d.own.map.pages k) (frame_at e.own.map.pages k) (λ n. W.met l.seat ≡ n) told at h.met;
      }
