use Rattle.std.proofs.Common.{◌≡◌, ◌+◌, length}
use Rattle.neph_pool.specs.Names.{both_names}
use Rattle.neph_pool.specs.World.{Stays, Spares, SameCounts}
use Rattle.neph_memory.specs.Memory.{leaf_count_below, leaf_count}
use Rattle.neph_local.specs.Copies.{AreCopied}
use Rattle.neph_local.proofs.copying.copy_leaves.Given as goal

abbrev pub invariant-loop-i : goal.invariant-loop-i
invariant-loop-i g l =
    let W = g.P.FramePool.world in
    let es = W.entries l.initial.pool l.initial.from in
    record {
      copied : AreCopied es l.source.root (W.entries l.initial.pool l.initial.seat) (W.entries l.pool l.seat) l.initial.tables.root l.initial.frames.items l.frames.items l.i;
      root : l.tables.root ≡ l.initial.tables.root;
      kept : W.entries l.pool l.from ≡ es;
      left : length l.frames.items + leaf_count_below es l.source.root l.i ≡ leaf_count es l.source.root;
      from : Stays W l.pool l.initial.from l.from;
      seat : Stays W l.pool l.initial.seat l.seat;
      others : Spares W (both_names (W.names l.initial.from) (W.names l.initial.seat)) l.initial.pool l.pool;
      counts : SameCounts W l.initial.pool l.pool;
    }
