use Rattle.std.proofs.Common.{[], arith}
use Rattle.neph_heap.proofs.Heaps.{heap_few}
use Rattle.neph_hv.proofs.hv.Hv.clone_refusal.Goals as goal

pub overflow_cast-free : goal.overflow_cast-free
overflow_cast-free g c =
    let W = g.P.FramePool.world in
    let s = c.args.self.now.heap.seat in
    omega (arith, heap_few W c.args._pool.now s c.args.self.now.heap.stock [] c.requires.hv (g.met.P.FramePool.shaped c.args._pool.now s c.requires.hv.fits), c.free_len-free.ensures)
