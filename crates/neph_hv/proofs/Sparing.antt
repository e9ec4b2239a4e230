-- The heap and a domain beside calls on other seats.
use Rattle.std.proofs.Common.{◌≡◌, ℕ, Bool, true, false, List, refl, sym, ap, ◌∙◌, ◌||◌}
use Rattle.std.specs.declared.option.Option.{Option}
use Rattle.neph_pool.specs.declared.entry.Entry.{Entry}
use Rattle.neph_pool.specs.Names.{IsApart, both_names}
use Rattle.neph_pool.specs.World.{World, Spares}
use Rattle.neph_ptab.specs.Tables.{leaf_at}
use Rattle.neph_heap.specs.Heap.{IsHeap}
use Rattle.neph_heap.specs.Lists.{Lists}
use Rattle.neph_heap.specs.Pages.{pages_in}
use Rattle.neph_heap.proofs.Heaps.{heap_named, spares_widen}
use Rattle.neph_memory.specs.declared.dom_local.DomLocal.{DomLocal}
use Rattle.neph_memory.specs.Memory.{vpn_mapping, page_bytes}
use Rattle.neph_memory.specs.Domains.{KeepsPages, KeepsMap, KeepsLeaves}

pub apart_flip : (ms ns : ℕ → Bool) → IsApart ms ns → IsApart ns ms
apart_flip ms ns a d x y = a d y x

-- names that are the same are apart from the same
pub apart_same : (ms ns ks : ℕ → Bool) → ms ≡ ns → IsApart ns ks → IsApart ms ks
apart_same ms ns ks e a d x y = a d (sym (ap (λ (f : ℕ → Bool). f d) e) ∙ x) y

left_or : (a b : Bool) → a ≡ true → (a || b) ≡ true
left_or true b e = refl
left_or false b e = absurd (cc)

right_or : (a b : Bool) → b ≡ true → (a || b) ≡ true
right_or true b e = refl
right_or false b e = e

module _ {Pool Seat : Type 0} (W : World Pool Seat) where
  -- the heap beside a call on other seats
  pub heap_spared : (ns : ℕ → Bool) (p q : Pool) (s : Seat) (l : Lists) (loose : List ℕ) → IsHeap W p s l loose → Spares W ns p q → IsApart ns (W.names s) → IsHeap W q s l loose
  heap_spared ns p q s l loose h k a = heap_named W p q s s l loose h (k.fits s h.fits a) h.first k.frames (k.entries s h.fits a)

  -- its exposed pages beside such a call
  pub shown_spared : (ns : ℕ → Bool) (p q : Pool) (s : Seat) (l : Lists) (loose : List ℕ) → IsHeap W p s l loose → Spares W ns p q → IsApart ns (W.names s) → pages_in (W.entries q s) l.exposed ≡ pages_in (W.entries p s) l.exposed
  shown_spared ns p q s l loose h k a = ap (λ (es : List (Option Entry)). pages_in es l.exposed) (k.entries s h.fits a)

  -- what spares all but the seats of one name spares all but those of two
  pub spares_left : (ms ns : ℕ → Bool) (p q : Pool) → Spares W ms p q → Spares W (both_names ms ns) p q
  spares_left ms ns p q k = spares_widen W (both_names ms ns) ms p q (λ e x. left_or (ms e) (ns e) x) k

  pub spares_right : (ms ns : ℕ → Bool) (p q : Pool) → Spares W ns p q → Spares W (both_names ms ns) p q
  spares_right ms ns p q k = spares_widen W (both_names ms ns) ns p q (λ e x. right_or (ms e) (ns e) x) k

  -- a domain beside a call on other seats
  module _ (p q : Pool) (d : DomLocal Pool Seat) (ns : ℕ → Bool) (fits : W.fits p d.seat) (k : Spares W ns p q) (a : IsApart ns (W.names d.seat)) where
    pub keeps_pages : KeepsPages W p d q d
    keeps_pages x = ap (λ (es : List (Option Entry)). page_bytes es d.own.map.pages x) (k.entries d.seat fits a)

    pub keeps_map : KeepsMap W p d q d
    keeps_map u lt = ap (λ (es : List (Option Entry)). vpn_mapping es d.tables.root d.own.map.pages u) (k.entries d.seat fits a)

    pub keeps_leaves : KeepsLeaves W p d q d
    keeps_leaves i lt = ap (λ (es : List (Option Entry)). leaf_at es d.tables.root i) (k.entries d.seat fits a)
