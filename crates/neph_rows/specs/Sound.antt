-- What the hypervisor's tables keep.
use Rattle.std.specs.Prelude.{ℕ, ◌≡◌, ◌<◌, ◌≤◌, length, None, Some, All, IfSome}
use Rattle.neph_model.specs.declared.life.Life.{Life}
use Rattle.neph_model.specs.declared.life.Guest.{Guest}
use Rattle.neph_model.specs.declared.life.Cloned.{Cloned}
use Rattle.neph_model.specs.Machine.{life_at, guest_at}
use Rattle.neph_rows.specs.Records.{Records}

-- the child of a clone that a domain has begun: its id was drawn after the domain's
abbrev pub IsChildOf : ℕ → ℕ → ℕ → Type 0
IsChildOf next id child = (id < child) × (child < next)

-- what is kept of an id: its clones are counted, and those that it has begun are among them
pub record IsSoundGuest (next id : ℕ) (g : Guest) : Type 0 where
  pub begun : All (IsChildOf next id) g.begun
  pub counted : length g.begun ≤ g.accepted
  pub few : g.accepted ≤ 62

-- who is live has an id that was drawn, and a limit in range
pub record IsSoundLife (next id : ℕ) (l : Life) : Type 0 where
  pub drawn : id < next
  pub limit : l.limit ≤ 62

-- parent and child of a clone that waits have ids that were drawn
abbrev pub IsPair : ℕ → Cloned → Type 0
IsPair next w = (w.parent < next) × (w.child < next)

-- each id from 0 to 63 has a place, none is given after 63, no domain 0 is live, and what is kept
-- of each id is sound
pub record IsSoundRecords (r : Records) : Type 0 where
  pub places : length r.lives ≡ 64
  pub guests : length r.tables.guests ≡ 64
  pub next_low : 0 < r.tables.next
  pub next_high : r.tables.next ≤ 64
  pub first : life_at 0 r.lives ≡ None
  pub lives : (id : ℕ) → IfSome (life_at id r.lives) (IsSoundLife r.tables.next id)
  pub each : (id : ℕ) → IsSoundGuest r.tables.next id (guest_at id r.tables)
  pub waiting : All (IsPair r.tables.next) r.tables.waiting

-- a clone of the domain of an id may begin: it has begun fewer than its limit, and an id is left
pub record MayBegin (r : Records) (id : ℕ) : Type 0 where
  pub life : Life
  pub live : life_at id r.lives ≡ Some life
  pub below : (guest_at id r.tables).accepted < life.limit
  pub left : r.tables.next < 64
