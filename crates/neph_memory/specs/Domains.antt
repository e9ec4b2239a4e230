-- A domain's memory in a pool, and what a call leaves of it as it was.
use Rattle.std.specs.Prelude.{◌≡◌, ◌≢◌, ◌<◌, ◌≤◌, ◌^◌, ℕ, true, false, List, length, if◌then◌else◌, ◌==◌, IfSome, IsSome, None, slice_index}
use Rattle.std.specs.declared.option.Option.{Option}
use Rattle.neph_base.specs.declared.sizes.TheConstants.{TABLE_ENTRIES}
use Rattle.neph_model.specs.declared.memory.Mapping.{Mapping}
use Rattle.neph_pool.specs.Entries.{hold_at}
use Rattle.neph_pool.specs.World.{World, Moves}
use Rattle.neph_ptab.specs.declared.walk.Walk.{Walk}
use Rattle.neph_ptab.specs.Tables.{leaf_at, walk_at}
use Rattle.neph_memory.specs.declared.dom_local.DomLocal.{DomLocal}
use Rattle.neph_memory.specs.Memory.{vpn_mapping, page_bytes, leaf_count, is_marked, Stands}
use Rattle.neph_memory.specs.Pages.{frame_at}

-- a domain's memory stands in the pool
abbrev pub IsStanding : {Pool Seat : Type 0} → World Pool Seat → Pool → DomLocal Pool Seat → Type 0
IsStanding W p d = Stands W p d.seat d.id d.tables.root d.own

-- the bytes of the domain's page q, where it is its own
abbrev pub domain_page : {Pool Seat : Type 0} → World Pool Seat → Pool → DomLocal Pool Seat → ℕ
    → Option (List ℕ)
domain_page W p d q = page_bytes (W.entries p d.seat) d.own.map.pages q

-- what the domain's virtual page v maps to
abbrev pub domain_mapping : {Pool Seat : Type 0} → World Pool Seat → Pool → DomLocal Pool Seat → ℕ
    → Option Mapping
domain_mapping W p d v = vpn_mapping (W.entries p d.seat) d.tables.root d.own.map.pages v

-- where its tables lead from the virtual page v
abbrev pub domain_walk : {Pool Seat : Type 0} → World Pool Seat → Pool → DomLocal Pool Seat → ℕ
    → Walk
domain_walk W p d v = walk_at (W.entries p d.seat) d.tables.root v

-- the frame of its i-th leaf table
abbrev pub domain_leaf : {Pool Seat : Type 0} → World Pool Seat → Pool → DomLocal Pool Seat → ℕ
    → Option ℕ
domain_leaf W p d i = leaf_at (W.entries p d.seat) d.tables.root i

-- how many leaf tables it has
abbrev pub domain_leaf_count : {Pool Seat : Type 0} → World Pool Seat → Pool → DomLocal Pool Seat
    → ℕ
domain_leaf_count W p d = leaf_count (W.entries p d.seat) d.tables.root

-- what is so of the count of references of the page k's frame, where the pool tells its counts
abbrev pub IfTold : {Pool Seat : Type 0} → World Pool Seat → Pool → DomLocal Pool Seat → ℕ
    → (ℕ → Type 0) → Type 0
IfTold W p d k IsSo = IfSome (W.told p)
    (λ counts. IfSome (frame_at d.own.map.pages k) (λ f. IsSo (slice_index counts f)))

-- The page k isn't marked, and its frame has two references or more, where the pool tells its
-- counts.
pub record IsSharedPage {Pool Seat : Type 0} (W : World Pool Seat) (p : Pool)
    (d : DomLocal Pool Seat) (k : ℕ) : Type 0 where
  pub mark : is_marked d.own k ≡ false
  pub count : IfTold W p d k (λ n. 2 ≤ n)

-- from the memory d in the pool p to the memory e in the pool q
module _ {Pool Seat : Type 0} (W : World Pool Seat) (p : Pool) (d : DomLocal Pool Seat) (q : Pool)
    (e : DomLocal Pool Seat) where
  -- each page has the bytes that it had
  abbrev pub KeepsPages : Type 0
  KeepsPages = (x : ℕ) → domain_page W q e x ≡ domain_page W p d x

  -- each page but the page k has
  abbrev pub KeepsOtherPages : ℕ → Type 0
  KeepsOtherPages k = (x : ℕ) → x ≢ k → domain_page W q e x ≡ domain_page W p d x

  -- each virtual page maps to what it did
  abbrev pub KeepsMap : Type 0
  KeepsMap = (u : ℕ) → u < 2 ^ 18 → domain_mapping W q e u ≡ domain_mapping W p d u

  -- the leaf tables are those that there were
  abbrev pub KeepsLeaves : Type 0
  KeepsLeaves = (i : ℕ) → i < TABLE_ENTRIES → domain_leaf W q e i ≡ domain_leaf W p d i

  -- each frame is held as it was
  abbrev pub KeepsHolds : Type 0
  KeepsHolds = (g : ℕ) → hold_at (W.entries q e.seat) g ≡ hold_at (W.entries p d.seat) g

  -- the domain's seat stays a seat of the pool, and all other seats are as they were
  abbrev pub KeepsSeats : Type 0
  KeepsSeats = Moves W p d.seat q e.seat

  -- the memory is as it was, and so are its entries and the cap; its seat is still a seat of the
  -- pool
  pub record IsUnchanged : Type 0 where
    pub entries : W.entries q e.seat ≡ W.entries p d.seat
    pub own : e.own ≡ d.own
    pub root : e.tables.root ≡ d.tables.root
    pub id : e.id ≡ d.id
    pub hand : e.hand ≡ d.hand
    pub cap : W.cap q ≡ W.cap p
    pub fits : W.fits q e.seat
    pub names : W.names e.seat ≡ W.names d.seat

  -- The page k has moved into the spare. Its old frame is the next spare exactly where the count of
  -- references that was met was 1. A pool that tells its counts told this one.
  pub record TookSpare (k : ℕ) : Type 0 where
    pub page : frame_at e.own.map.pages k ≡ d.own.spare
    pub spare : e.own.spare ≡ (if W.met e.seat == 1 then frame_at d.own.map.pages k else None)
    pub met : IfTold W p d k (λ n. W.met e.seat ≡ n)

-- each page lies where it did, and the spare is what it was
pub record KeepsPlaces {Pool Seat : Type 0} (d e : DomLocal Pool Seat) : Type 0 where
  pub map : e.own.map ≡ d.own.map
  pub spare : e.own.spare ≡ d.own.spare

-- the page k is the domain's alone in the memory e, and all other pages lie where they did in d
pub record MakesAlone {Pool Seat : Type 0} (d e : DomLocal Pool Seat) (k : ℕ) : Type 0 where
  pub mark : is_marked e.own k ≡ true
  pub local : IsSome (frame_at e.own.map.pages k)
  pub others : (x : ℕ) → x ≢ k → frame_at e.own.map.pages x ≡ frame_at d.own.map.pages x
  pub count : length e.own.map.pages ≡ length d.own.map.pages
