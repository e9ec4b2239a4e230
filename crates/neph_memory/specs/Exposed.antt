-- A page goes over to another seat, and comes back.
use Rattle.std.specs.Prelude.{◌≡◌, ◌<◌, ◌^◌, if◌then◌else◌, ℕ, Bool, true, false, List, slice_set, Some, None}
use Rattle.neph_pool.specs.Bytes.{bytes_at}
use Rattle.neph_pool.specs.Entries.{hold_at, IsSoleAt}
use Rattle.neph_pool.specs.Handing.{taking}
use Rattle.neph_pool.specs.World.{World}
use Rattle.neph_ptab.specs.declared.walk.Walk.{Walk}
use Rattle.neph_gmap.specs.declared.page.Page.{Page}
use Rattle.neph_gmap.specs.declared.page.Page.TheVariants.{Local, Exposed}
use Rattle.neph_gmap.specs.GuestPages.{has_number, vpns_at}
use Rattle.neph_memory.specs.declared.dom_local.DomLocal.{DomLocal}
use Rattle.neph_memory.specs.Pages.{frame_at}
use Rattle.neph_memory.specs.Memory.{wanted_by}
use Rattle.neph_memory.specs.Building.{lead_to}
use Rattle.neph_memory.specs.Domains.{domain_page, domain_walk, KeepsPages, KeepsOtherPages, KeepsMap, KeepsLeaves}

-- A walk to the page p, once that page lies there and is in no other domain: it is wanted writable
-- where it was.
abbrev pub turned : Page → ℕ → Walk → Walk
turned place p w = lead_to (Some place) true p (wanted_by w)

-- the walk of v after it, where these virtual pages map to the page p
abbrev pub walk_turned : Page → ℕ → List ℕ → ℕ → Walk → Walk
walk_turned place p vpns v w = if has_number v vpns then turned place p w else w

-- The page k lies elsewhere in the memory e, with this mark, and every virtual page that maps to it
-- leads there. All else of the memory d is as it was.
pub record PutsPage {Pool Seat : Type 0} (W : World Pool Seat) (p : Pool) (d : DomLocal Pool Seat)
    (q : Pool) (e : DomLocal Pool Seat) (k : ℕ) (place : Page) (mark : Bool) : Type 0 where
  pub map : e.own.map ≡ record d.own.map { pages = slice_set d.own.map.pages k place }
  pub marks : e.own.marks.items ≡ slice_set d.own.marks.items k mark
  pub walks : (u : ℕ) → u < 2 ^ 18 → domain_walk W q e u
      ≡ walk_turned place k (vpns_at d.own.map k) u (domain_walk W p d u)
  pub mappings : KeepsMap W p d q e
  pub leaves : KeepsLeaves W p d q e
  pub others : KeepsOtherPages W p d q e k

-- The page k of the memory d lay in the frame f. The other seat, which had nothing of that frame,
-- has it to itself now, with the bytes of the page. Its other entries are as they were.
pub record GetsPage {Pool Seat : Type 0} (W : World Pool Seat) (p : Pool) (d : DomLocal Pool Seat)
    (s : Seat) (q : Pool) (t : Seat) (k f : ℕ) : Type 0 where
  pub frame : frame_at d.own.map.pages k ≡ Some f
  pub absent : hold_at (W.entries p s) f ≡ None
  pub sole : IsSoleAt (W.entries q t) f
  pub bytes : domain_page W p d k ≡ Some (bytes_at (W.entries q t) f)
  pub taken : W.entries q t ≡ taking (W.entries p d.seat) (W.entries p s) f

-- The memory e has the pages, the map and the leaf tables of the memory d, and each page lies where
-- it did.
pub record IsBack {Pool Seat : Type 0} (W : World Pool Seat) (p : Pool) (d : DomLocal Pool Seat)
    (q : Pool) (e : DomLocal Pool Seat) : Type 0 where
  pub map : e.own.map ≡ d.own.map
  pub pages : KeepsPages W p d q e
  pub mappings : KeepsMap W p d q e
  pub leaves : KeepsLeaves W p d q e

-- A page that was given out, from d to e, and comes back with the bytes that its frame had with the
-- other seat t right then, from e to b, is as it was.
abbrev pub ComesBack : {Pool Seat : Type 0} → World Pool Seat → Type 0
ComesBack {Pool} {Seat} W = (p q r : Pool) (d e b : DomLocal Pool Seat) (s t : Seat) (k f : ℕ)
    → GetsPage W p d s q t k f → PutsPage W p d q e k Exposed false
    → PutsPage W q e r b k (Local f) true → domain_page W r b k ≡ Some (bytes_at (W.entries q t) f)
    → IsBack W p d r b
