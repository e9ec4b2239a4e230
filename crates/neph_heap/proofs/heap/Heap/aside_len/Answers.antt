use Rattle.std.proofs.Common.{[], arith}
use Rattle.neph_heap.proofs.Heaps.{own_few}
use Rattle.neph_heap.proofs.heap.Heap.aside_len.Goals as goal

pub aside_len-requires : goal.aside_len-requires
aside_len-requires g c =
    let W = g.P.FramePool.world in
    let l = c.args.self.now.stock in
    omega (arith, own_few W c.args._pool.now c.args.self.now.seat l [] c.requires.heap (g.met.P.FramePool.shaped c.args._pool.now c.args.self.now.seat c.requires.heap.fits))
