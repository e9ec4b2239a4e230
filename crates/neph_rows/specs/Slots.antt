-- How the hypervisor's tables are kept.
use Rattle.std.specs.Prelude.{ℕ, ◌≡◌, ◌<◌, Bool, true, false, List, map, slice_index_or, Option, None, Some}
use Rattle.std.specs.Vec.{vec_capacity}
use Rattle.neph_model.specs.declared.life.Guest.{Guest}
use Rattle.neph_model.specs.declared.life.Life.{Life}
use Rattle.neph_model.specs.Machine.{no_guest, is_live}
use Rattle.neph_model.specs.Start.{start_guest}
use Rattle.neph_rows.specs.declared.slots.Slot.{Slot}

-- what a slot keeps of its id
abbrev pub guest_of : Slot → Guest
guest_of s = record {
  accepted = s.accepted;
  begun = s.begun.items;
  grants = s.sharing.grants;
  handles = s.sharing.handles;
}

-- what some slots keep
abbrev pub guests_of : List Slot → List Guest
guests_of slots = map guest_of slots

-- whether there is room for grants and handles of each id
abbrev pub rooms_of : List Slot → List Bool
rooms_of slots = map (λ (s : Slot). s.sharing.room) slots

-- what is kept at first of an id, by who is live with it
abbrev pub first_guest : Option Life → Guest
first_guest None = no_guest
first_guest (Some l) = start_guest

-- there is room for the grants and handles of each live domain
abbrev pub HaveRooms : List (Option Life) → List Bool → Type 0
HaveRooms lives rooms = (id : ℕ) → is_live id lives ≡ true → slice_index_or rooms id false ≡ true

-- a slot has room for each clone that its domain may begin
abbrev pub HasRoom : Slot → Type 0
HasRoom s = 62 < vec_capacity s.begun
