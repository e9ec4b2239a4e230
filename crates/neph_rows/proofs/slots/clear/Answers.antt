use Rattle.std.proofs.Common.{refl}
use Rattle.neph_rows.proofs.SlotGuests.{begun_none, room_put}
use Rattle.neph_rows.proofs.slots.clear.Goals as goal

pub returns-clause-guests : goal.returns-clause-guests
returns-clause-guests c = begun_none _ _ _ c.args.sharing refl c.clear.ensures.items refl

pub returns-clause-rooms : goal.returns-clause-rooms
returns-clause-rooms c = room_put _ _ _
