-- Steps on a child's memory, beside its parent's.
use Rattle.std.proofs.Common.{◌≡◌, ◌||◌, ℕ, Bool, true, false, List, length, IsSome, refl, sym, ap, subst, ◌∙◌}
use Rattle.std.specs.declared.option.Option.{Option}
use Rattle.neph_pool.specs.declared.entry.Entry.{Entry}
use Rattle.neph_pool.specs.Names.{IsApart, both_names, only_name}
use Rattle.neph_pool.specs.World.{World, Spares}
use Rattle.neph_ptab.specs.Tables.{leaf_at}
use Rattle.neph_memory.specs.declared.own.Own.{Own}
use Rattle.neph_memory.specs.declared.dom_local.DomLocal.{DomLocal}
use Rattle.neph_memory.specs.Pages.{frame_at}
use Rattle.neph_memory.specs.Memory.{IsMemory}
use Rattle.neph_memory.specs.Domains.{IsStanding, IsUnchanged, domain_mapping, domain_page, domain_leaf}
use Rattle.neph_memory.proofs.Standing.{moved_shown, moved_page}
use Rattle.neph_memory.proofs.Rooming.{room_after}
use Rattle.neph_memory.proofs.Keeping.{shared_same}
use Rattle.neph_local.specs.Copies.{IsChildStep}

or_left : (b c : Bool) → b ≡ true → (b || c) ≡ true
or_left true c e = refl
or_left false c e = absurd (cc)

or_right : (b c : Bool) → c ≡ true → (b || c) ≡ true
or_right true c e = refl
or_right false c e = e

module _ {Pool Seat : Type 0} (W : World Pool Seat) where
  pub spares_trans : (ns : ℕ → Bool) (p q r : Pool) → Spares W ns p q → Spares W ns q r → Spares W ns p r
  spares_trans ns p q r h k = record {
    frames = k.frames ∙ h.frames;
    cap = k.cap ∙ h.cap;
    fits = λ t f a. k.fits t (h.fits t f a) a;
    entries = λ t f a. k.entries t (h.fits t f a) a ∙ h.entries t f a;
  }

  pub spares_left : (ms ns : ℕ → Bool) (p q : Pool) → Spares W ms p q → Spares W (both_names ms ns) p q
  spares_left ms ns p q h = record {
    frames = h.frames;
    cap = h.cap;
    fits = λ t f a. h.fits t f (λ d x y. a d (or_left (ms d) (ns d) x) y);
    entries = λ t f a. h.entries t f (λ d x y. a d (or_left (ms d) (ns d) x) y);
  }

  pub spares_right : (ms ns : ℕ → Bool) (p q : Pool) → Spares W ns p q → Spares W (both_names ms ns) p q
  spares_right ms ns p q h = record {
    frames = h.frames;
    cap = h.cap;
    fits = λ t f a. h.fits t f (λ d x y. a d (or_right (ms d) (ns d) x) y);
    entries = λ t f a. h.entries t f (λ d x y. a d (or_right (ms d) (ns d) x) y);
  }

  pub unchanged_spared : (ns : ℕ → Bool) (p q : Pool) (d : DomLocal Pool Seat) → W.fits p d.seat → Spares W ns p q → IsApart ns (W.names d.seat) → IsUnchanged W p d q d
  unchanged_spared ns p q d f k a = record { entries = k.entries d.seat f a; own = refl; root = refl; id = refl; hand = refl; cap = k.cap; fits = k.fits d.seat f a; names = refl }

  pub unchanged_trans : (p : Pool) (d : DomLocal Pool Seat) (q : Pool) (e : DomLocal Pool Seat) (r : Pool) (f : DomLocal Pool Seat) → IsUnchanged W p d q e → IsUnchanged W q e r f → IsUnchanged W p d r f
  unchanged_trans p d q e r f h k = record {
    entries = k.entries ∙ h.entries;
    own = k.own ∙ h.own;
    root = k.root ∙ h.root;
    id = k.id ∙ h.id;
    hand = k.hand ∙ h.hand;
    cap = k.cap ∙ h.cap;
    fits = k.fits;
    names = k.names ∙ h.names;
  }

  pub unchanged_stands : (p : Pool) (d : DomLocal Pool Seat) (q : Pool) (e : DomLocal Pool Seat) → IsStanding W p d → IsUnchanged W p d q e → IsStanding W q e
  unchanged_stands p d q e s u = record {
    fits = u.fits;
    names = u.names ∙ s.names ∙ ap only_name (sym u.id);
    memory = subst (λ (o : Own). IsMemory (W.entries q e.seat) e.tables.root o) (sym u.own)
        (subst (λ (r : ℕ). IsMemory (W.entries q e.seat) r d.own) (sym u.root) (subst (λ (es : List (Option Entry)). IsMemory es d.tables.root d.own) (sym u.entries) s.memory));
    identity = subst (λ (o : Own). IsSome (frame_at o.map.pages 0)) (sym u.own) s.identity;
    room = room_after (W.entries p d.seat) (W.entries q e.seat) d.tables.root e.tables.root (length d.own.map.pages) (length e.own.map.pages) (W.cap p) (W.cap q) s.room (ap (λ (o : Own). length o.map.pages) u.own)
        (λ i lt. ap (λ (es : List (Option Entry)). leaf_at es e.tables.root i) u.entries ∙ ap (λ (r : ℕ). leaf_at (W.entries p d.seat) r i) u.root) u.cap;
  }

  pub unchanged_mapping : (p : Pool) (d : DomLocal Pool Seat) (q : Pool) (e : DomLocal Pool Seat) → IsUnchanged W p d q e → (v : ℕ) → domain_mapping W q e v ≡ domain_mapping W p d v
  unchanged_mapping p d q e u v = moved_shown (W.entries p d.seat) (W.entries q e.seat) d.tables.root e.tables.root d.own e.own v u.entries u.root u.own

  pub unchanged_page : (p : Pool) (d : DomLocal Pool Seat) (q : Pool) (e : DomLocal Pool Seat) → IsUnchanged W p d q e → (x : ℕ) → domain_page W q e x ≡ domain_page W p d x
  unchanged_page p d q e u x = moved_page (W.entries p d.seat) (W.entries q e.seat) d.own e.own x u.entries u.own

  pub step_none : (p : Pool) (d c : DomLocal Pool Seat) → W.fits p d.seat → W.fits p c.seat → IsChildStep W p d c p d c
  step_none p d c f g = record {
    fits = g;
    parent = record { entries = refl; own = refl; root = refl; id = refl; hand = refl; cap = refl; fits = f; names = refl };
    names = refl;
    id = refl;
    hand = refl;
    shared = shared_same _ _ refl;
    others = record { frames = refl; cap = refl; fits = λ t h a. h; entries = λ t h a. refl };
    counts = record { shares = refl; told = refl };
  }

module _ {Pool Seat : Type 0} (W : World Pool Seat) where
  pub unchanged_leaf : (p : Pool) (d : DomLocal Pool Seat) (q : Pool) (e : DomLocal Pool Seat) → IsUnchanged W p d q e → (i : ℕ) → domain_leaf W q e i ≡ domain_leaf W p d i
  unchanged_leaf p d q e u i = ap (λ (es : List (Option Entry)). leaf_at es e.tables.root i) u.entries ∙ ap (λ (r : ℕ). leaf_at (W.entries p d.seat) r i) u.root
