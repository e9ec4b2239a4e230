use Rattle.std.proofs.Common.{[]}
use Rattle.neph_heap.specs.Heap.{own_frames}
use Rattle.neph_heap.proofs.Steps.{has_whole}
use Rattle.neph_heap.proofs.heap.Heap.into_seat.Goals as goal

pub returns-clause-whole : goal.returns-clause-whole
returns-clause-whole g c =
    let W = g.P.FramePool.world in
    has_whole (W.entries c.args._pool.now c.args.self.seat) (own_frames c.args.self.stock []) c.args.self.stock.free c.requires.heap.has
