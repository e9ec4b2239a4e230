-- A child beside the commit of its clone.
use Rattle.std.proofs.Common.{◌≡◌, ◌||◌, ℕ, Bool, true, false, List, [], is_some, refl, sym, ap, subst, ◌∙◌, inl, inr, ◌⊎◌}
use Rattle.std.specs.declared.option.Option.{Option}
use Rattle.neph_model.specs.Machine.{Exposed, guest_at}
use Rattle.neph_model.specs.Step.{Locked, shared_commit}
use Rattle.neph_pool.specs.declared.entry.Entry.{Entry}
use Rattle.neph_pool.specs.Names.{IsApart, both_names}
use Rattle.neph_pool.specs.World.{World, Spares}
use Rattle.neph_ptab.specs.Tables.{leaf_at}
use Rattle.neph_gmap.specs.declared.page.Page.{Page}
use Rattle.neph_memory.specs.declared.dom_local.DomLocal.{DomLocal}
use Rattle.neph_memory.specs.Memory.{vpn_mapping, page_bytes}
use Rattle.neph_memory.specs.Domains.{IsStanding, IsUnchanged}
use Rattle.neph_memory.proofs.Standing.{stands_spared}
use Rattle.neph_local.specs.Copies.{IsChildOf}
use Rattle.neph_local.specs.Forks.{Forks, IsForking}
use Rattle.neph_local.proofs.Stepping.{unchanged_trans, unchanged_spared}
use Rattle.neph_heap.proofs.Heaps.{spares_then}
use Rattle.neph_rows.specs.Records.{Records, shared_of}
use Rattle.neph_hv.specs.declared.hv.Hv.{Hv}
use Rattle.neph_hv.specs.Hv.{IsHv, exposed_in}
use Rattle.neph_hv.proofs.Sparing.{heap_spared, shown_spared, spares_left, spares_right}

either : (a b : Bool) → (a || b) ≡ true → (a ≡ true) ⊎ (b ≡ true)
either true b e = inl refl
either false b e = inr e

-- names that are apart from two are apart from both
pub apart_pair : (ns ms ks : ℕ → Bool) → IsApart ns ms → IsApart ns ks → IsApart (both_names ms ks) ns
apart_pair ns ms ks a b e x y = elim (either (ms e) (ks e) x) [ inl z ↦ a e y z | inr z ↦ b e y z ]

pub apart_from : (ns ms ks : ℕ → Bool) → ks ≡ ms → IsApart ns ms → IsApart ns ks
apart_from ns ms ks e a d x y = a d x (sym (ap (λ (f : ℕ → Bool). f d) e) ∙ y)

-- the row of a commit behind a call that keeps the exposed pages
pub row_behind : (r : Records) (ps qs : List Exposed) (i j : ℕ) (did : Locked) → qs ≡ ps → j ≡ i → shared_commit (shared_of r qs) j (guest_at j r.tables).begun ≡ did → shared_commit (shared_of r ps) i (guest_at i r.tables).begun ≡ did
row_behind r ps qs i j did pages id row =
    ap (λ (k : ℕ). shared_commit (shared_of r ps) k (guest_at k r.tables).begun) (sym id) ∙ ap (λ (xs : List Exposed). shared_commit (shared_of r xs) j (guest_at j r.tables).begun) (sym pages) ∙ row

module _ {Pool Seat : Type 0} (W : World Pool Seat) where
  pub forks_spared : (ns : ℕ → Bool) (p q : Pool) (s k : Seat) (child : ℕ) (ps : List Page) (next : ℕ) (frames : List ℕ) → Forks W p s k child ps next frames → W.fits p s → Spares W ns p q → IsApart ns (W.names s) → IsApart ns (W.names k) → Forks W q s k child ps next frames
  forks_spared ns p q s k child ps next frames f fits spares at ak = record {
    fits = spares.fits k f.fits ak;
    names = f.names;
    forking = subst (λ (es : List (Option Entry)). IsForking es (W.entries q k) ps next frames) (sym (spares.entries s fits at))
        (subst (λ (es : List (Option Entry)). IsForking (W.entries p s) es ps next frames) (sym (spares.entries k f.fits ak)) f.forking);
  }

  pub child_spared : (ns : ℕ → Bool) (p : Pool) (d : DomLocal Pool Seat) (q r : Pool) (c : DomLocal Pool Seat) → IsChildOf W p d q c → W.fits q c.seat → Spares W ns q r → IsApart ns (W.names c.seat) → IsChildOf W p d r c
  child_spared ns p d q r c b fits spares a =
      let e : W.entries r c.seat ≡ W.entries q c.seat = spares.entries c.seat fits a in record {
        count = b.count;
        frames = b.frames;
        bytes = λ x le. ap (λ (es : List (Option Entry)). page_bytes es c.own.map.pages x) e ∙ b.bytes x le;
        identity = ap (λ (es : List (Option Entry)). page_bytes es c.own.map.pages 0) e ∙ b.identity;
        maps = λ u lt. ap (λ (es : List (Option Entry)). vpn_mapping es c.tables.root c.own.map.pages u) e ∙ b.maps u lt;
        leaves = λ i lt. ap (λ (es : List (Option Entry)). is_some (leaf_at es c.tables.root i)) e ∙ b.leaves i lt;
        spare = b.spare;
        hand = b.hand;
      }

-- behind the end of a fork, in the pool q, the heap is as it was in the pool p
module _ {Pool Seat : Type 0} (W : World Pool Seat) (p q : Pool) (h : Hv Pool Seat) (d e : DomLocal Pool Seat) (kid : Seat) (hv : IsHv W p h) (same : IsUnchanged W p d q e)
    (others : Spares W (both_names (W.names d.seat) (W.names kid)) p q) (ad : IsApart (W.names h.heap.seat) (W.names d.seat)) (ak : IsApart (W.names h.heap.seat) (W.names kid)) where
  away : IsApart (both_names (W.names d.seat) (W.names kid)) (W.names h.heap.seat)
  away = apart_pair (W.names h.heap.seat) (W.names d.seat) (W.names kid) ad ak

  pub behind_hv : IsHv W q h
  behind_hv = heap_spared W (both_names (W.names d.seat) (W.names kid)) p q h.heap.seat h.heap.stock [] hv others away

  pub behind_shown : exposed_in W q h ≡ exposed_in W p h
  behind_shown = shown_spared W (both_names (W.names d.seat) (W.names kid)) p q h.heap.seat h.heap.stock [] hv others away

  pub behind_apart : IsApart (W.names h.heap.seat) (W.names e.seat)
  behind_apart = apart_from (W.names h.heap.seat) (W.names d.seat) (W.names e.seat) same.names ad

  -- after a call on the heap's seat
  module _ (r : Pool) (call : Spares W (W.names h.heap.seat) q r) where
    pub behind_same : IsUnchanged W p d r e
    behind_same = unchanged_trans W p d q e r e same (unchanged_spared W (W.names h.heap.seat) q r e same.fits call behind_apart)

    pub behind_others : Spares W (both_names (W.names h.heap.seat) (both_names (W.names d.seat) (W.names kid))) p r
    behind_others =
        let a : ℕ → Bool = W.names h.heap.seat in
        let b : ℕ → Bool = both_names (W.names d.seat) (W.names kid) in
        spares_then W (both_names a b) p q r (spares_right W a b p q others) (spares_left W a b q r call)

    pub behind_stands : (c : DomLocal Pool Seat) → IsStanding W q c → W.names c.seat ≡ W.names kid → IsStanding W r c
    behind_stands c k n = stands_spared W (W.names h.heap.seat) q r c.seat c.id c.tables.root c.own k call (apart_from (W.names h.heap.seat) (W.names kid) (W.names c.seat) n ak)

    pub behind_parent : IsStanding W q e → IsStanding W r e
    behind_parent k = stands_spared W (W.names h.heap.seat) q r e.seat e.id e.tables.root e.own k call behind_apart

    pub behind_child : (c : DomLocal Pool Seat) → IsChildOf W p d q c → IsStanding W q c → W.names c.seat ≡ W.names kid → IsChildOf W p d r c
    behind_child c b k n = child_spared W (W.names h.heap.seat) p d q r c b k.fits call (apart_from (W.names h.heap.seat) (W.names kid) (W.names c.seat) n ak)

    pub behind_fork : (c : DomLocal Pool Seat) (child next : ℕ) (frames : List ℕ) → child ≡ c.id → W.names c.seat ≡ W.names kid → Forks W q e.seat c.seat child e.own.map.pages next frames → Forks W r e.seat c.seat c.id e.own.map.pages next frames
    behind_fork c child next frames i n f = subst (λ (x : ℕ). Forks W r e.seat c.seat x e.own.map.pages next frames) i
        (forks_spared W (W.names h.heap.seat) q r e.seat c.seat child e.own.map.pages next frames f same.fits call behind_apart (apart_from (W.names h.heap.seat) (W.names kid) (W.names c.seat) n ak))
