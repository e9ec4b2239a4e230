use Rattle.std.proofs.Common.{refl}
use Rattle.neph_rows.proofs.SlotGuests.{begun_less, room_same}
use Rattle.neph_rows.proofs.slots.take_first.Goals as goal

pub returns-clause-guests : goal.returns-clause-guests
returns-clause-guests c = λ left child e. begun_less _ _ c.index_mut-slot.result.now _ child left c.requires.there c.index_mut-slot.ensures.value refl c.remove.ensures.items refl e

pub returns-clause-rooms : goal.returns-clause-rooms
returns-clause-rooms c = room_same _ _ c.index_mut-slot.result.now _ c.index_mut-slot.ensures.value refl
