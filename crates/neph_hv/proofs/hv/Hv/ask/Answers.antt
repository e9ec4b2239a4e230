use Rattle.std.proofs.Common.{[], ◌∙◌}
use Rattle.neph_heap.proofs.Heaps.{heap_few}
use Rattle.neph_hv.proofs.Asking.{may_ask, met_hv, asked_stands, asked_same, asked_done, asker_lives}
use Rattle.neph_hv.proofs.hv.Hv.ask.Goals as goal

pub told_to-told-requires : goal.told_to-told-requires
told_to-told-requires g c =
    let h = c.args.self.now in
    heap_few g.P.FramePool.world c.args.pool.now h.heap.seat h.heap.stock [] c.requires.serves.hv
    (g.met.P.FramePool.shaped c.args.pool.now h.heap.seat c.requires.serves.hv.fits)

pub call-requires-clause-hv : goal.call-requires-clause-hv
call-requires-clause-hv g c =
    let e = c.met_by-met.ensures in
    met_hv g.P.FramePool.world c.args.pool.now c.args.self.now c.args.d.now c.requires.serves c.requires.stands c.met_by-met.new.pool c.met_by-met.new.d e.stands e.same e.moves

pub call-requires-clause-asked : goal.call-requires-clause-asked
call-requires-clause-asked g c =
    let e = c.met_by-met.ensures in
    may_ask g.P.FramePool.world c.args.pool.now c.args.self.now c.args.d.now c.requires.serves c.requires.stands c.met_by-met.new.pool c.met_by-met.new.d e.stands e.same e.moves
    c.args.command.now c.met_by-met.result c.requires.asks e.read

pub call-requires-clause-live : goal.call-requires-clause-live
call-requires-clause-live g c =
    let e = c.met_by-met.ensures in
    asker_lives g.P.FramePool.world c.args.pool.now c.args.self.now c.args.d.now c.requires.serves c.requires.stands c.met_by-met.new.pool c.met_by-met.new.d e.stands e.same e.moves

pub returns-clause-stands : goal.returns-clause-stands
returns-clause-stands g c =
    let e = c.met_by-met.ensures in
    asked_stands g.P.FramePool.world c.args.pool.now c.args.self.now c.args.d.now c.requires.serves c.requires.stands c.met_by-met.new.pool c.met_by-met.new.d e.stands e.same e.moves
    c.call.new.pool c.call.new.self c.call.ensures.moves

pub returns-clause-same : goal.returns-clause-same
returns-clause-same g c =
    let e = c.met_by-met.ensures in
    asked_same g.P.FramePool.world c.args.pool.now c.args.self.now c.args.d.now c.requires.serves c.requires.stands c.met_by-met.new.pool c.met_by-met.new.d e.stands e.same e.moves
    c.call.new.pool c.call.new.self c.call.ensures.moves

pub returns-clause-done : goal.returns-clause-done
returns-clause-done g c =
    let e = c.met_by-met.ensures in
    let f = c.call.ensures in
    asked_done g.P.FramePool.world c.args.pool.now c.args.self.now c.args.d.now c.requires.serves c.requires.stands c.met_by-met.new.pool c.met_by-met.new.d e.stands e.same e.moves
    c.call.new.pool c.call.new.self f.moves f.hv (f.shares ∙ e.counts.shares) f.registry f.stock c.args.command.now c.met_by-met.result c.told_to-told.result c.call.result
    c.requires.no_clone e.met c.told_to-told.ensures f.row
