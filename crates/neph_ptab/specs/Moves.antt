-- A page comes into another frame, or may be shared from now on.
use Rattle.std.specs.Prelude.{◌==◌, ◌&&◌, ◌||◌, if◌then◌else◌, not, ℕ, Bool, List}
use Rattle.std.specs.List.{list_any}
use Rattle.neph_ptab.specs.declared.walk.Walk.{Walk}
use Rattle.neph_ptab.specs.declared.walk.Walk.TheVariants.{None as Unmapped, Local, Exposed}

-- the virtual page leads to a local page
abbrev pub IsLocal : Walk → Type 0
IsLocal Unmapped = ⊥
IsLocal (Local f rw shared) = Unit {0}
IsLocal (Exposed p rw) = ⊥

-- The walk with its page in this frame. Where it is wanted writable it may be written at once if
-- the frame is the domain's alone, and else it may be shared.
abbrev pub moved_walk : ℕ → Bool → Walk → Walk
moved_walk to alone Unmapped = Unmapped
moved_walk to alone (Local f rw shared) =
    Local to ((rw || shared) && alone) ((rw || shared) && not alone)
moved_walk to alone (Exposed p rw) = Exposed p rw

-- v is one of these virtual pages
abbrev pub is_shown : ℕ → List ℕ → Bool
is_shown v vpns = list_any (λ u. u == v) vpns

-- the walk of v after the page that these virtual pages show has moved
abbrev pub walk_moved : ℕ → Bool → List ℕ → ℕ → Walk → Walk
walk_moved to alone vpns v walk = if is_shown v vpns then moved_walk to alone walk else walk
