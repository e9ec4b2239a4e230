use Rattle.std.proofs.Common.{◌≡◌, ◌≤◌}
use Rattle.neph_pool.specs.World.{SameCounts}
use Rattle.neph_memory.specs.Memory.{leaf_count_below}
use Rattle.neph_memory.specs.Domains.{IsUnchanged, KeepsSeats}
use Rattle.neph_local.proofs.leaves.leaf_count.Given as goal

abbrev pub invariant-loop-i : goal.invariant-loop-i
invariant-loop-i g l =
    let W = g.P.FramePool.world in
    record {
      same : IsUnchanged W l.initial.pool l.initial.d l.pool l.d;
      moves : KeepsSeats W l.initial.pool l.initial.d l.pool l.d;
      counts : SameCounts W l.initial.pool l.pool;
      below : l.count ≡ leaf_count_below (W.entries l.initial.pool l.initial.d.seat) l.initial.d.tables.root l.i;
      most : l.count ≤ l.i;
    }
