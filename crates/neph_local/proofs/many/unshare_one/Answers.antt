use Rattle.std.proofs.Common.{IsSome, get_or}
use Rattle.neph_memory.specs.declared.dom_local.DomLocal.{DomLocal}
use Rattle.neph_local.proofs.Crowd.{index_is, if_some, all_after, ids_after}
use Rattle.neph_memory.specs.Pages.{frame_at}
use Rattle.neph_local.proofs.many.unshare_one.Goals as goal

pub unshare-requires-clause-stands : goal.unshare-requires-clause-stands
unshare-requires-clause-stands g c = c.requires.stand c.args.i _ (index_is c.args.all.now c.args.i c.index-all-i.result c.requires.at)

pub unshare-requires-clause-local : goal.unshare-requires-clause-local
unshare-requires-clause-local g c =
    if_some (λ (d : DomLocal g.row.P.Denot g.row.P-Seat.Denot). IsSome (frame_at d.own.map.pages c.args.p)) _ _ c.requires.local (index_is c.args.all.now c.args.i c.index-all-i.result c.requires.at)

pub returns-clause-stand : goal.returns-clause-stand
returns-clause-stand g c =
    let d = get_or c.args.all.now c.args.i c.index-all-i.result in
    all_after g.P.FramePool.world c.args.pool.now c.unshare.new.pool c.args.all.now c.args.i d c.unshare.new.self (index_is c.args.all.now c.args.i c.index-all-i.result c.requires.at) c.requires.at c.requires.ids c.unshare.ensures.id
    c.requires.stand c.unshare.ensures.stands c.unshare.ensures.moves

pub returns-clause-ids : goal.returns-clause-ids
returns-clause-ids g c =
    let d = get_or c.args.all.now c.args.i c.index-all-i.result in
    ids_after g.P.FramePool.world c.args.pool.now c.unshare.new.pool c.args.all.now c.args.i d c.unshare.new.self (index_is c.args.all.now c.args.i c.index-all-i.result c.requires.at) c.requires.at c.requires.ids c.unshare.ensures.id
