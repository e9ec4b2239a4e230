use Rattle.std.proofs.Common.{refl, ap, ◌∙◌, arith}
use Rattle.neph_pool.proofs.Calls.{moves_refl, moves_trans, same_counts_trans}
use Rattle.neph_memory.specs.Memory.{leaf_count_below}
use Rattle.neph_local.specs.Forks.{leaf_count_of}
use Rattle.neph_local.proofs.Stepping.{step_none, unchanged_leaf, unchanged_stands, unchanged_trans}
use Rattle.neph_local.proofs.Tabling.{leaf_count_start, leaf_count_next, meets_end}
use Rattle.neph_local.proofs.leaves.leaf_count.Goals as goal

pub loop-i-init : goal.loop-i-init
loop-i-init g c =
    let W = g.P.FramePool.world in
    let none = step_none W c.args.pool.now c.args.d.now c.args.d.now c.requires.stands.fits c.requires.stands.fits in
    let z = leaf_count_start (W.entries c.args.pool.now c.args.d.now.seat) c.args.d.now.tables.root _ refl in record {
      same = none.parent;
      moves = moves_refl W c.args.pool.now c.args.d.now.seat c.requires.stands.fits;
      counts = none.counts;
      below = omega (arith, z);
      most = omega arith;
    }

pub nth_leaf_count-count-requires-clause-stands : goal.nth_leaf_count-count-requires-clause-stands
nth_leaf_count-count-requires-clause-stands g c = unchanged_stands g.P.FramePool.world c.args.pool.now c.args.d.now c.loop-i.pool c.loop-i.d c.requires.stands c.loop-i.invariant.same

pub loop-i-preserved : goal.loop-i-preserved
loop-i-preserved g c =
    let W = g.P.FramePool.world in
    let v = c.loop-i.invariant in
    let n = c.nth_leaf_count-count.ensures in
    let next = leaf_count_next (W.entries c.args.pool.now c.args.d.now.seat) c.args.d.now.tables.root c.loop-i.i in
    let e = ap leaf_count_of (unchanged_leaf W c.args.pool.now c.args.d.now c.loop-i.pool c.loop-i.d v.same c.loop-i.i) in record {
      same = unchanged_trans W _ _ _ _ _ _ v.same n.same;
      moves = moves_trans W _ _ _ _ _ _ v.moves n.moves;
      counts = same_counts_trans W _ _ _ v.counts n.counts;
      below = omega (arith, next, e, v.below, n.count);
      most = omega (arith, v.most, n.most);
    }

pub returns-clause-count : goal.returns-clause-count
returns-clause-count g c =
    let W = g.P.FramePool.world in
    c.loop-i.invariant.below ∙ ap (leaf_count_below (W.entries c.args.pool.now c.args.d.now.seat) c.args.d.now.tables.root) (meets_end _ _ c.loop-i.auto.i-end c.loop-i-test.false)

pub returns-clause-stands : goal.returns-clause-stands
returns-clause-stands g c = unchanged_stands g.P.FramePool.world c.args.pool.now c.args.d.now c.loop-i.pool c.loop-i.d c.requires.stands c.loop-i.invariant.same
