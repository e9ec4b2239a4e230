use Rattle.std.proofs.Common.{refl}
use Rattle.neph_rows.proofs.SlotGuests.{grants_ended, grants_kept, room_ended, room_same, bare_same}
use Rattle.neph_rows.proofs.slots.end_entry.Goals as goal

pub returns-clause-ok : goal.returns-clause-ok
returns-clause-ok c = grants_ended _ _ c.index_mut.result.now _ _ c.end.result c.requires.there c.index_mut.ensures.value refl refl c.end.ensures.ok

pub returns-clause-err : goal.returns-clause-err
returns-clause-err c = grants_kept _ _ c.index_mut.result.now _ c.end.result c.index_mut.ensures.value refl refl c.end.ensures.err

pub returns-clause-rooms : goal.returns-clause-rooms
returns-clause-rooms c =
    room_same _ _ c.index_mut.result.now _ c.index_mut.ensures.value (room_ended c.index_mut.result.now (record c.index_mut.result.now { sharing = c.end.new.self }) c.args.r c.end.result c.end.ensures.ok c.end.ensures.err)

pub returns-clause-bare : goal.returns-clause-bare
returns-clause-bare c = bare_same _ _ c.index_mut.result.now _ c.index_mut.ensures.value refl refl
