-- A fork is in hand again while its seat keeps its frames, and the words of those that it shares.
use Rattle.std.proofs.Common.{◌≡◌, ◌≤◌, ◌+◌, ℕ, List, length, Some, refl, sym, ap, subst, ◌∙◌}
use Rattle.std.specs.declared.option.Option.{Option}
use Rattle.neph_pool.specs.declared.entry.Entry.{Entry}
use Rattle.neph_pool.specs.declared.entry.Hold.{Hold}
use Rattle.neph_pool.specs.declared.entry.Hold.TheVariants.{Sole, Counted}
use Rattle.neph_pool.specs.Bytes.{bytes_of}
use Rattle.neph_pool.specs.Entries.{is_here}
use Rattle.neph_pool.specs.World.{World}
use Rattle.neph_gmap.specs.declared.page.Page.{Page}
use Rattle.neph_memory.specs.declared.own.Own.{Own}
use Rattle.neph_memory.specs.declared.dom_local.DomLocal.{DomLocal}
use Rattle.neph_memory.specs.Memory.{leaf_count}
use Rattle.neph_memory.specs.Domains.{IsUnchanged, domain_leaf_count}
use Rattle.neph_memory.specs.Shared.{SharedStays}
use Rattle.neph_memory.proofs.Keeping.{shared_same, shared_trans}
use Rattle.neph_local.specs.Copies.{KeepsFrames}
use Rattle.neph_local.specs.Forks.{IsForking, Forks, IsForkInHand}
use Rattle.neph_local.specs.declared.forking.Fork.{Fork}

counted_sole : (h : Option Hold) → h ≡ Some (Counted 1) → h ≡ Some Sole → ⊥
counted_sole h a b = cc

pub forking_kept : (es ef fs : List (Option Entry)) (ps : List Page) (next : ℕ) (xs : List ℕ) → IsForking es ef ps next xs → SharedStays ef fs → IsForking es fs ps next xs
forking_kept es ef fs ps next xs k h = record {
  lent = λ g d. h.holds g ∙ k.lent g d;
  bytes = λ p g l x at. k.bytes p g l x at ∙ ap (λ (ws : List ℕ). Some (bytes_of ws)) (sym (h.words g (λ s. counted_sole _ (k.lent g (p, l, x, at)) s)));
  aside = λ g m. h.holds g ∙ k.aside g m;
  once = k.once;
  only = λ g m. k.only g (ap is_here (sym (h.holds g)) ∙ m);
}

module _ {Pool Seat : Type 0} (W : World Pool Seat) where
  pub frames_same : (p : Pool) (s : Seat) → W.fits p s → KeepsFrames W p s p s
  frames_same p s f = record { fits = f; names = refl; shared = shared_same _ _ refl }

  pub frames_trans : (p : Pool) (s : Seat) (q : Pool) (t : Seat) (r : Pool) (u : Seat) → KeepsFrames W p s q t → KeepsFrames W q t r u → KeepsFrames W p s r u
  frames_trans p s q t r u h k = record { fits = k.fits; names = k.names ∙ h.names; shared = shared_trans _ _ _ h.shared k.shared }

  pub unchanged_leaf_count : (p : Pool) (d : DomLocal Pool Seat) (q : Pool) (e : DomLocal Pool Seat) → IsUnchanged W p d q e → domain_leaf_count W q e ≡ domain_leaf_count W p d
  unchanged_leaf_count p d q e u = ap (λ (es : List (Option Entry)). leaf_count es e.tables.root) u.entries ∙ ap (λ (r : ℕ). leaf_count (W.entries p d.seat) r) u.root

  -- what the seat of a fork holds, beside a parent's memory that is as it was
  pub forks_kept : (p : Pool) (d : DomLocal Pool Seat) (s : Seat) (child next : ℕ) (xs : List ℕ) (q : Pool) (e : DomLocal Pool Seat) (t : Seat)
      → Forks W p d.seat s child d.own.map.pages next xs → IsUnchanged W p d q e → KeepsFrames W p s q t → Forks W q e.seat t child e.own.map.pages next xs
  forks_kept p d s child next xs q e t f u k = record {
    fits = k.fits;
    names = k.names ∙ f.names;
    forking = subst (λ (o : Own). IsForking (W.entries q e.seat) (W.entries q t) o.map.pages next xs) (sym u.own)
        (subst (λ (es : List (Option Entry)). IsForking es (W.entries q t) d.own.map.pages next xs) (sym u.entries) (forking_kept _ _ _ _ _ _ f.forking k.shared));
  }

  -- the fork again
  pub in_hand_kept : (p : Pool) (d : DomLocal Pool Seat) (k : Fork Pool Seat) (q : Pool) (e : DomLocal Pool Seat) (f : Fork Pool Seat)
      → IsForkInHand W p d k → IsUnchanged W p d q e → KeepsFrames W p k.seat q f.seat → f.child ≡ k.child → f.next ≡ k.next → f.frames.items ≡ k.frames.items → IsForkInHand W q e f
  in_hand_kept p d k q e f h u s child next frames = record {
    forks = subst (λ (n : ℕ). Forks W q e.seat f.seat n e.own.map.pages f.next f.frames.items) (sym child)
        (subst (λ (n : ℕ). Forks W q e.seat f.seat k.child e.own.map.pages n f.frames.items) (sym next)
        (subst (λ (xs : List ℕ). Forks W q e.seat f.seat k.child e.own.map.pages k.next xs) (sym frames) (forks_kept p d k.seat k.child k.next k.frames.items q e f.seat h.forks u s)));
    began = subst (λ (n : ℕ). 1 ≤ n) (sym next) h.began;
    apart = λ x. h.apart (sym u.id ∙ x ∙ child);
    enough = ap (λ (xs : List ℕ). length xs) frames ∙ h.enough ∙ ap (λ (n : ℕ). n + 2) (sym (unchanged_leaf_count p d q e u));
  }
