use Rattle.std.proofs.Common.{◌≡◌, ◌*◌, length, take, drop}
use Rattle.neph_pool.specs.World.{Moves, SameCounts}
use Rattle.neph_pool.specs.Bytes.{bytes_at}
use Rattle.neph_pool.proofs.bytes.read_bytes.Given as goal

abbrev pub invariant-loop-i : goal.invariant-loop-i
invariant-loop-i g l =
    let W = g.P.FramePool.world in
    let es = W.entries l.initial.pool l.initial.seat in record {
      moves : Moves W l.initial.pool l.initial.seat l.pool l.seat;
      counts : SameCounts W l.initial.pool l.pool;
      met : W.met l.seat ≡ W.met l.initial.seat;
      entries : W.entries l.pool l.seat ≡ es;
      size : length l.bytes ≡ 72;
      bytes : take (8 * l.i) l.bytes ≡ take (8 * l.i) (drop (8 * l.first) (bytes_at es l.f));
    }
