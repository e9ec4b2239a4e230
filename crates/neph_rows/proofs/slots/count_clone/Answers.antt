use Rattle.std.proofs.Common.{refl}
use Rattle.neph_rows.proofs.SlotGuests.{begun_more, room_same}
use Rattle.neph_rows.proofs.slots.count_clone.Goals as goal

pub returns-clause-guests : goal.returns-clause-guests
returns-clause-guests c = begun_more _ _ c.index_mut-slot.result.now _ _ c.requires.there c.index_mut-slot.ensures.value refl c.push_reserved.ensures.items refl

pub returns-clause-rooms : goal.returns-clause-rooms
returns-clause-rooms c = room_same _ _ c.index_mut-slot.result.now _ c.index_mut-slot.ensures.value refl
