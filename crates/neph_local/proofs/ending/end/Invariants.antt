use Rattle.std.proofs.Common.{◌≡◌, ◌≤◌, ◌+◌, length, vec_capacity}
use Rattle.neph_pool.specs.Entries.{words_at}
use Rattle.neph_pool.specs.World.{Moves}
use Rattle.neph_memory.specs.declared.room.TheConstants.{MAX_HELD}
use Rattle.neph_local.proofs.Emptying.{Ends, IsLeft}
use Rattle.neph_local.proofs.ending.end.Given as goal

abbrev pub invariant-loop-n : goal.invariant-loop-n
invariant-loop-n g l =
    let W = g.P.FramePool.world in
    let es = W.entries l.fn.pool l.fn.d.seat in
    record {
      ends : Ends es (W.entries l.pool l.seat) (IsLeft es l.fn.d.tables.root l.fn.d.own l.n 0) l.freed.items;
      words : words_at (W.entries l.pool l.seat) l.fn.d.tables.root ≡ words_at es l.fn.d.tables.root;
      count : length l.freed.items ≤ l.n;
      room : MAX_HELD ≤ vec_capacity l.freed;
      moves : Moves W l.fn.pool l.fn.d.seat l.pool l.seat;
      shares : W.shares l.pool ≡ W.shares l.fn.pool;
    }

abbrev pub invariant-loop-i : goal.invariant-loop-i
invariant-loop-i g l =
    let W = g.P.FramePool.world in
    let es = W.entries l.fn.pool l.fn.d.seat in
    record {
      ends : Ends es (W.entries l.pool l.seat) (IsLeft es l.fn.d.tables.root l.fn.d.own (length l.fn.d.own.map.pages) l.i) l.freed.items;
      words : words_at (W.entries l.pool l.seat) l.fn.d.tables.root ≡ words_at es l.fn.d.tables.root;
      count : length l.freed.items ≤ 1024 + l.i;
      room : MAX_HELD ≤ vec_capacity l.freed;
      moves : Moves W l.fn.pool l.fn.d.seat l.pool l.seat;
      shares : W.shares l.pool ≡ W.shares l.fn.pool;
    }
