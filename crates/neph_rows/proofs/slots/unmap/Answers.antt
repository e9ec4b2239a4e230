use Rattle.std.proofs.Common.{refl}
use Rattle.neph_rows.proofs.SlotGuests.{handles_unmapped, room_unmapped, room_same, bare_same}
use Rattle.neph_rows.proofs.slots.unmap.Goals as goal

pub returns-clause-removed : goal.returns-clause-removed
returns-clause-removed c = handles_unmapped _ _ c.index_mut.result.now _ _ c.unmap.result c.requires.there c.index_mut.ensures.value refl refl c.unmap.ensures.removed

pub returns-clause-rooms : goal.returns-clause-rooms
returns-clause-rooms c =
    room_same _ _ c.index_mut.result.now _ c.index_mut.ensures.value (room_unmapped c.index_mut.result.now (record c.index_mut.result.now { sharing = c.unmap.new.self }) c.args.h c.unmap.result c.unmap.ensures.removed c.unmap.ensures.absent)

pub returns-clause-bare : goal.returns-clause-bare
returns-clause-bare c = bare_same _ _ c.index_mut.result.now _ c.index_mut.ensures.value refl refl
