use Rattle.std.proofs.Common.{[], ℕ, Bool}
use Rattle.neph_pool.specs.Names.{both_names}
use Rattle.neph_heap.proofs.Heaps.{spares_then}
use Rattle.neph_hv.proofs.Sparing.{apart_flip, shown_spared, spares_left, spares_right}
use Rattle.neph_hv.proofs.Beginning.{begun_from, count_same}
use Rattle.neph_hv.proofs.hv.Hv.begin.Goals as goal

pub returns-in-Some-clause-others : goal.returns-in-Some-clause-others
returns-in-Some-clause-others g c =
    let W = g.P.FramePool.world in
    spares_right W (W.names c.args.self.now.heap.seat) (W.names c.args.d.now.seat) c.args.pool.now c.leaf_count-leaves.new.pool c.leaf_count-leaves.ensures.moves.others

pub returns-in_err-fork-in-None-clause-others : goal.returns-in_err-fork-in-None-clause-others
returns-in_err-fork-in-None-clause-others g c =
    let W = g.P.FramePool.world in
    let a : ℕ → Bool = W.names c.args.self.now.heap.seat in
    let b : ℕ → Bool = W.names c.args.d.now.seat in
    let p = c.leaf_count-leaves.new.pool in
    spares_then W (both_names a b) c.args.pool.now p c.begin_fork.new.pool (spares_right W a b c.args.pool.now p c.leaf_count-leaves.ensures.moves.others) (spares_left W a b p c.begin_fork.new.pool c.in_err-fork-in-None.ensures.others)

pub returns-in_ok-fork-in-None-clause-others : goal.returns-in_ok-fork-in-None-clause-others
returns-in_ok-fork-in-None-clause-others g c =
    let W = g.P.FramePool.world in
    let a : ℕ → Bool = W.names c.args.self.now.heap.seat in
    let b : ℕ → Bool = W.names c.args.d.now.seat in
    let p = c.leaf_count-leaves.new.pool in
    spares_then W (both_names a b) c.args.pool.now p c.begin_fork.new.pool (spares_right W a b c.args.pool.now p c.leaf_count-leaves.ensures.moves.others) (spares_left W a b p c.begin_fork.new.pool c.in_ok-fork-in-None.ensures.others)

pub returns-in_ok-fork-in-None-clause-answer : goal.returns-in_ok-fork-in-None-clause-answer
returns-in_ok-fork-in-None-clause-answer g c =
    let W = g.P.FramePool.world in
    let h = c.args.self.now in
    let d = c.args.d.now in
    let p = c.args.pool.now in
    let o = c.leaf_count-leaves.new.pool in
    let look = c.leaf_count-leaves.ensures in
    begun_from W p o h d c.leaf_count-leaves.new.d look.same.id (shown_spared W (W.names d.seat) p o h.heap.seat h.heap.stock [] c.requires.hv look.moves.others (apart_flip (W.names h.heap.seat) (W.names d.seat) c.requires.apart))
    c.begin_fork.new.pool c.begin_fork.new.self c.leaf_count-leaves.new.d c.in_ok-fork-in-None.fork (count_same W p d o c.leaf_count-leaves.new.d look.same) c.in_ok-fork-in-None.ensures.begun
