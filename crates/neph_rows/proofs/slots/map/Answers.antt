use Rattle.std.proofs.Common.{refl}
use Rattle.neph_rows.proofs.SlotGuests.{handles_mapped, room_mapped, room_same, bare_same}
use Rattle.neph_rows.proofs.slots.map.Goals as goal

pub returns-clause-put : goal.returns-clause-put
returns-clause-put c = handles_mapped _ _ c.index_mut.result.now _ _ _ _ c.map.result c.requires.there c.index_mut.ensures.value refl refl c.map.ensures.put

pub returns-clause-rooms : goal.returns-clause-rooms
returns-clause-rooms c =
    room_same _ _ c.index_mut.result.now _ c.index_mut.ensures.value (room_mapped c.index_mut.result.now (record c.index_mut.result.now { sharing = c.map.new.self }) c.args.granter c.args.r c.args.m c.map.result c.map.ensures.put c.map.ensures.full)

pub returns-clause-bare : goal.returns-clause-bare
returns-clause-bare c = bare_same _ _ c.index_mut.result.now _ c.index_mut.ensures.value refl refl
