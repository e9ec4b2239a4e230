use Rattle.std.proofs.Common.{◌∙◌, ap, Some}
use Rattle.neph_pool.specs.Entries.{is_here}
use Rattle.neph_pool.specs.declared.entry.Hold.TheVariants.{Zero, Sole}
use Rattle.neph_pool.proofs.Calls.{moves_trans}
use Rattle.neph_heap.proofs.Among.{held_next, among_next, words_held}
use Rattle.neph_heap.proofs.moves.retake_all.Goals as goal

pub retake-requires-clause-frame : goal.retake-requires-clause-frame
retake-requires-clause-frame g c =
    let W = g.P.FramePool.world in
    held_next c.args.frames.now c.loop-f.f-index c.f-item.result (Some Sole) (Some Zero) (W.entries c.args.pool.now c.args.seat.now) (W.entries c.loop-f.pool c.loop-f.seat) c.loop-f-test.true c.f-item.is c.requires.once c.loop-f.invariant.holds c.requires.zero

pub loop-f-preserved : goal.loop-f-preserved
loop-f-preserved g c =
    let W = g.P.FramePool.world in
    let f = c.f-item.result in
    let i = c.loop-f.invariant in
    let now = W.entries c.loop-f.pool c.loop-f.seat in
    let zero = held_next c.args.frames.now c.loop-f.f-index f (Some Sole) (Some Zero) (W.entries c.args.pool.now c.args.seat.now) now c.loop-f-test.true c.f-item.is c.requires.once i.holds c.requires.zero in record {
      holds = among_next c.args.frames.now c.loop-f.f-index f Sole (W.entries c.args.pool.now c.args.seat.now) now (W.entries c.retake.new.self c.retake.new.s) c.loop-f-test.true c.f-item.is i.holds c.retake.ensures.entries (ap is_here zero);
      words = λ k. words_held now (W.entries c.retake.new.self c.retake.new.s) f Sole c.retake.ensures.entries k ∙ i.words k;
      moves = moves_trans W _ _ _ _ _ _ i.moves c.retake.ensures.moves;
      shares = c.retake.ensures.shares ∙ i.shares;
    }
