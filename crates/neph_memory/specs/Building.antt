-- A domain's memory while it is built: beside tables and pages its seat has frames that wait.
use Rattle.std.specs.Prelude.{◌≡◌, if◌then◌else◌, ℕ, Bool, true, false, List, Some, None}
use Rattle.std.specs.declared.option.Option.{Option}
use Rattle.neph_pool.specs.declared.entry.Entry.{Entry}
use Rattle.neph_pool.specs.Entries.{hold_at, is_here, IsSoleAt}
use Rattle.neph_pool.specs.Handing.{is_among, AreDistinct}
use Rattle.neph_pool.specs.Names.{only_name}
use Rattle.neph_pool.specs.World.{World}
use Rattle.neph_ptab.specs.declared.walk.Walk.{Walk}
use Rattle.neph_ptab.specs.declared.walk.Walk.TheVariants.{None as Unmapped, Local, Exposed}
use Rattle.neph_ptab.specs.Tables.{IsTable}
use Rattle.neph_gmap.specs.declared.page.Page.{Page}
use Rattle.neph_gmap.specs.declared.page.Page.TheVariants.{Local as At, Exposed as Away}
use Rattle.neph_memory.specs.declared.own.Own.{Own}
use Rattle.neph_memory.specs.declared.dom_local.DomLocal.{DomLocal}
use Rattle.neph_memory.specs.Memory.{IsPageAt, IsMade}

-- the frame is one of these
abbrev pub IsAmong : List ℕ → ℕ → Type 0
IsAmong frames g = is_among g frames ≡ true

-- the seat is the domain's, and the frames that wait are these, which it has to itself
pub record Builds {Pool Seat : Type 0} (W : World Pool Seat) (p : Pool) (s : Seat) (id root : ℕ)
    (o : Own) (frames : List ℕ) : Type 0 where
  pub fits : W.fits p s
  pub names : W.names s ≡ only_name id
  pub made : IsMade (W.entries p s) root o (IsAmong frames)
  pub sole : (f : ℕ) → IsAmong frames f → IsSoleAt (W.entries p s) f
  pub once : AreDistinct frames

-- a domain's memory is built, and these frames wait
abbrev pub IsBuilding : {Pool Seat : Type 0} → World Pool Seat → Pool → DomLocal Pool Seat → List ℕ
    → Type 0
IsBuilding W p d frames = Builds W p d.seat d.id d.tables.root d.own frames

-- the entries that are no table and no page
abbrev pub Rest : List (Option Entry) → ℕ → Own → ℕ → Type 0
Rest es root o g =
    (is_here (hold_at es g) ≡ true) × ((IsTable es root g → ⊥) × (IsPageAt o g → ⊥))

-- the domain's entries that are no table and no page
abbrev pub RestOf : {Pool Seat : Type 0} → World Pool Seat → Pool → DomLocal Pool Seat → ℕ → Type 0
RestOf W p d = Rest (W.entries p d.seat) d.tables.root d.own

-- the domain's tables and pages stand, and these frames wait
abbrev pub IsMadeOf : {Pool Seat : Type 0} → World Pool Seat → Pool → DomLocal Pool Seat
    → (ℕ → Type 0) → Type 0
IsMadeOf W p d Waits = IsMade (W.entries p d.seat) d.tables.root d.own Waits

-- where a virtual page leads that is mapped to a page which lies there
abbrev pub lead_to : Option Page → Bool → ℕ → Bool → Walk
lead_to None mark p rw = Unmapped
lead_to (Some (At f)) mark p rw = if mark then Local f rw false else Local f false rw
lead_to (Some Away) mark p rw = Exposed p rw
