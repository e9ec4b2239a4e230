use Rattle.std.proofs.Common.{◌∙◌, sym}
use Rattle.neph_heap.proofs.Handed.{kept_among, may_hand_kept, emptied_whole, joined_kept, spares_kept}
use Rattle.neph_heap.proofs.moves.join_kept.Goals as goal

pub hand-requires-clause-part : goal.hand-requires-clause-part
hand-requires-clause-part g c =
    let W = g.P.FramePool.world in
    may_hand_kept (W.entries c.args.pool.now c.args.other) (W.entries c.args.pool.now c.args.s.now) c.args.kept.now c.requires.kept

pub join-requires-clause-whole : goal.join-requires-clause-whole
join-requires-clause-whole g c =
    let W = g.P.FramePool.world in
    emptied_whole (W.entries c.args.pool.now c.args.other) (W.entries c.hand.new.self c.hand.new.from) c.args.kept.now c.requires.kept c.hand.ensures.left

pub returns-clause-entries : goal.returns-clause-entries
returns-clause-entries g c =
    let W = g.P.FramePool.world in
    let p = c.args.pool.now in
    let o = g.met.P.FramePool.shaped p c.args.other c.requires.other.0 in
    let s = g.met.P.FramePool.shaped p c.args.s.now c.requires.seat.0 in
    c.join.ensures.entries
    ∙ joined_kept (W.entries p c.args.other) (W.entries p c.args.s.now) (W.entries c.hand.new.self c.hand.new.from) (W.entries c.hand.new.self c.hand.new.to) c.args.kept.now (o.places ∙ sym s.places) c.requires.kept c.hand.ensures.absent c.hand.ensures.left c.hand.ensures.moved

pub returns-clause-absent : goal.returns-clause-absent
returns-clause-absent g c =
    let W = g.P.FramePool.world in
    λ f here. c.hand.ensures.absent f (kept_among (W.entries c.args.pool.now c.args.other) c.args.kept.now c.requires.kept f here)

pub returns-clause-others : goal.returns-clause-others
returns-clause-others g c =
    let W = g.P.FramePool.world in
    spares_kept W c.args.pool.now c.hand.new.self c.join.new.self c.args.s.now c.args.other c.hand.new.to c.hand.new.from c.hand.ensures.from c.hand.ensures.to c.hand.ensures.others c.join.ensures.others
