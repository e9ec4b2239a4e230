-- The hypervisor's tables as they are kept.
use Rattle.std.specs.Prelude.{◌≡◌, All}
use Rattle.neph_model.specs.Machine.{live_count}
use Rattle.neph_rows.specs.Live.{AreLiveIds}
use Rattle.neph_rows.specs.Records.{Records}
use Rattle.neph_rows.specs.Slots.{guests_of, rooms_of, HasRoom, HaveRooms}
use Rattle.neph_rows.specs.Sound.{IsSoundRecords}
use Rattle.neph_rows.specs.declared.registry.Registry.TheInside.{Inside}

-- the records that are kept so
abbrev pub records_of : Inside → Records
records_of a = record {
  lives = a.lives.items;
  tables = record { guests = guests_of a.slots.items; next = a.next; waiting = a.waiting.items };
}

-- sound records, with room in each slot, and for the grants and handles of each domain, the count of the live domains and their ids
pub record IsKept (a : Inside) : Type 0 where
  pub sound : IsSoundRecords (records_of a)
  pub room : All HasRoom a.slots.items
  pub homes : HaveRooms a.lives.items (rooms_of a.slots.items)
  pub live : a.live ≡ live_count a.lives.items
  pub ids : AreLiveIds a.ids a.lives.items
