use Rattle.std.proofs.Common.{◌≡◌, ◌<◌, ◌^◌, ℕ, take}
use Rattle.neph_pool.specs.World.{Moves, SameCounts}
use Rattle.neph_ptab.specs.Moves.{walk_moved}
use Rattle.neph_ptab.specs.Tables.{walk_at, IsRetabled}
use Rattle.neph_ptab.proofs.tables.Tables.move_page.Given as goal

abbrev pub invariant-loop-v : goal.invariant-loop-v
invariant-loop-v g l =
    let W = g.P.FramePool.world in
    let es = W.entries l.initial.pool l.initial.seat in
    let root = l.initial.self.root in record {
      moves : Moves W l.initial.pool l.initial.seat l.pool l.seat;
      counts : SameCounts W l.initial.pool l.pool;
      met : W.met l.seat ≡ W.met l.initial.seat;
      top : l.self.root ≡ root;
      tables : IsRetabled es (W.entries l.pool l.seat) root;
      walks : (u : ℕ) → u < 2 ^ 18 → walk_at (W.entries l.pool l.seat) root u ≡ walk_moved l.to l.alone (take l.v-index l.vpns) u (walk_at es root u);
    }
