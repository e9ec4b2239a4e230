use Rattle.std.proofs.Common.{◌≡◌, ◌-◌, ◌≤◌, length, take}
use Rattle.neph_pool.specs.Bytes.{bytes_at, with_bytes}
use Rattle.neph_pool.specs.Entries.{with_words, words_at}
use Rattle.neph_pool.specs.World.{Moves, SameCounts}
use Rattle.neph_pool.proofs.bytes.write_bytes.Given as goal

abbrev pub invariant-loop-done : goal.invariant-loop-done
invariant-loop-done g l =
    let W = g.P.FramePool.world in
    let es = W.entries l.initial.pool l.initial.seat in record {
      moves : Moves W l.initial.pool l.initial.seat l.pool l.seat;
      counts : SameCounts W l.initial.pool l.pool;
      met : W.met l.seat ≡ W.met l.initial.seat;
      entries : W.entries l.pool l.seat ≡ with_words es l.f (words_at (W.entries l.pool l.seat) l.f);
      done : l.done ≤ length l.bytes;
      bytes : bytes_at (W.entries l.pool l.seat) l.f ≡ with_bytes (bytes_at es l.f) l.at (take l.done l.bytes);
    }

abbrev pub decreases-loop-done : goal.decreases-loop-done
decreases-loop-done g l = length l.bytes - l.done
