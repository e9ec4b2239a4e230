use Rattle.std.proofs.Common.{◌≡◌, ◌<◌, ◌^◌, ℕ, take}
use Rattle.neph_pool.specs.World.{Moves, SameCounts}
use Rattle.neph_ptab.specs.Tables.{walk_at, IsRetabled}
use Rattle.neph_memory.specs.Exposed.{walk_turned}
use Rattle.neph_memory.proofs.exposing.turn_all.Given as goal

abbrev pub invariant-loop-v : goal.invariant-loop-v
invariant-loop-v g l =
    let W = g.P.FramePool.world in
    let es = W.entries l.initial.pool l.initial.seat in
    let root = l.initial.tables.root in record {
      moves : Moves W l.initial.pool l.initial.seat l.pool l.seat;
      counts : SameCounts W l.initial.pool l.pool;
      met : W.met l.seat ≡ W.met l.initial.seat;
      top : l.tables.root ≡ root;
      tables : IsRetabled es (W.entries l.pool l.seat) root;
      walks : (u : ℕ) → u < 2 ^ 18 → walk_at (W.entries l.pool l.seat) root u ≡ walk_turned l.place l.p (take l.v-index l.vpns) u (walk_at es root u);
    }
