use Rattle.std.proofs.Common.{◌≡◌, ◌<◌, ◌+◌, ℕ, length}
use Rattle.neph_pool.specs.World.{Moves, SameCounts}
use Rattle.neph_ptab.specs.Tables.{leaf_at}
use Rattle.neph_memory.specs.Building.{Builds}
use Rattle.neph_local.specs.Starts.{StartsTo}
use Rattle.neph_local.proofs.started.start_others.Given as goal

abbrev pub invariant-loop-n : goal.invariant-loop-n
invariant-loop-n g l =
    let W = g.P.FramePool.world in
    record {
      moves : Moves W l.initial.pool l.initial.d.seat l.pool l.d.seat;
      counts : SameCounts W l.initial.pool l.pool;
      builds : Builds W l.pool l.d.seat l.d.id l.d.tables.root l.d.own l.frames.items;
      starts : StartsTo (W.entries l.pool l.d.seat) l.d.tables.root l.d.own l.n l.n;
      leaves : (j : ℕ) → j < 512 → leaf_at (W.entries l.pool l.d.seat) l.d.tables.root j ≡ leaf_at (W.entries l.initial.pool l.initial.d.seat) l.initial.d.tables.root j;
      left : length l.frames.items + l.n ≡ l.pages;
      count : length l.d.own.map.pages ≡ length l.initial.d.own.map.pages;
      spare : l.d.own.spare ≡ l.initial.d.own.spare;
      id : l.d.id ≡ l.initial.d.id;
      hand : l.d.hand ≡ l.initial.d.hand;
    }
