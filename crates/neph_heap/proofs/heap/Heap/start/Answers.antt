use Rattle.std.proofs.Common.{ap, ◌∙◌, arith, reverse}
use Rattle.std.specs.List.{range_with_len}
use Rattle.neph_heap.specs.Lists.{Lists}
use Rattle.neph_heap.proofs.Heaps.{start_heap}
use Rattle.neph_heap.proofs.heap.Heap.start.Goals as goal

pub returns-clause-heap : goal.returns-clause-heap
returns-clause-heap g c =
    let W = g.P.FramePool.world in
    start_heap W c.args._pool.now c.args.seat c.args.frames c.fill.new.self c.requires.fits (c.requires.names 0 (omega arith)) c.requires.frames c.requires.few
    (g.met.P.FramePool.shaped _ _ c.requires.fits) c.requires.zero (c.fill.ensures ∙ ap (λ (l : Lists). record l { free = reverse (range_with_len 0 c.args.frames) }) c.in_ok-stock.ensures)
