use Rattle.std.proofs.Common.{◌≡◌, ◌≤◌, ◌-◌, length, take, drop}
use Rattle.neph_pool.specs.World.{Moves, SameCounts}
use Rattle.neph_pool.specs.Bytes.{bytes_at}
use Rattle.neph_heap.proofs.words.read_into.Given as goal

abbrev pub invariant-loop-done : goal.invariant-loop-done
invariant-loop-done g l =
    let W = g.P.FramePool.world in
    let es = W.entries l.initial.pool l.initial.seat in record {
      moves : Moves W l.initial.pool l.initial.seat l.pool l.seat;
      counts : SameCounts W l.initial.pool l.pool;
      entries : W.entries l.pool l.seat ≡ es;
      within : l.done ≤ length l.into;
      bytes : take l.done l.into ≡ take l.done (drop l.at (bytes_at es l.f));
    }

abbrev pub decreases-loop-done : goal.decreases-loop-done
decreases-loop-done g l = length l.into - l.done
