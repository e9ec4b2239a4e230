-- The value of the hypervisor's tables.
use Rattle.std.specs.Prelude.{ℕ, List, [], map, Option}
use Rattle.neph_model.specs.declared.life.Life.{Life}
use Rattle.neph_model.specs.Machine.{Tables, Exposed, Shared, but_shares}
use Rattle.neph_rows.specs.Slots.{first_guest}

-- who is live, and the hypervisor's tables
pub record Records : Type 0 where
  pub lives : List (Option Life)
  pub tables : Tables

-- the shared half of these and of some exposed pages
abbrev pub shared_of : Records → List Exposed → Shared
shared_of r pages = record { lives = r.lives; tables = r.tables; pages = pages }

-- the records at first: who is live, and the id of the next child
abbrev pub first_records : List (Option Life) → ℕ → Records
first_records lives next = record {
  lives = lives;
  tables = record { guests = map first_guest lives; next = next; waiting = [] };
}

-- the records without what the domains share
abbrev pub without_shares : Records → Records
without_shares r = record r {
  tables = record r.tables { guests = map but_shares r.tables.guests };
}

-- what a shared half keeps beside its exposed pages
abbrev pub records_in : Shared → Records
records_in sh = record { lives = sh.lives; tables = sh.tables }
