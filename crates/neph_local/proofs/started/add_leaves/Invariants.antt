use Rattle.std.proofs.Common.{◌≡◌, ◌<◌, ◌≤◌, ◌+◌, ℕ, None, IsSome, length}
use Rattle.neph_pool.specs.World.{Moves, SameCounts}
use Rattle.neph_ptab.specs.Tables.{leaf_at}
use Rattle.neph_memory.specs.Building.{Builds}
use Rattle.neph_local.specs.Starts.{StartsTo}
use Rattle.neph_local.proofs.started.add_leaves.Given as goal

abbrev pub invariant-loop-i : goal.invariant-loop-i
invariant-loop-i g l =
    let W = g.P.FramePool.world in
    record {
      moves : Moves W l.initial.pool l.initial.d.seat l.pool l.d.seat;
      counts : SameCounts W l.initial.pool l.pool;
      builds : Builds W l.pool l.d.seat l.d.id l.d.tables.root l.d.own l.frames.items;
      starts : StartsTo (W.entries l.pool l.d.seat) l.d.tables.root l.d.own 0 0;
      left : length l.frames.items + l.i ≡ length l.initial.frames.items;
      leaves : (j : ℕ) → j < l.i → IsSome (leaf_at (W.entries l.pool l.d.seat) l.d.tables.root j);
      none : (j : ℕ) → l.i ≤ j → j < 512 → leaf_at (W.entries l.pool l.d.seat) l.d.tables.root j ≡ None;
      own : l.d.own ≡ l.initial.d.own;
      id : l.d.id ≡ l.initial.d.id;
      hand : l.d.hand ≡ l.initial.d.hand;
    }
