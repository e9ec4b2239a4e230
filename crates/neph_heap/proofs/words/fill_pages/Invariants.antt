use Rattle.std.proofs.Common.{◌≡◌, ◌≤◌, ℕ, length, map, take}
use Rattle.std.specs.Vec.{vec_capacity}
use Rattle.neph_pool.specs.Entries.{hold_at, words_at}
use Rattle.neph_pool.specs.World.{Moves}
use Rattle.neph_heap.specs.Holds.{times}
use Rattle.neph_heap.specs.Lists.{frames_of}
use Rattle.neph_heap.specs.Pages.{page_in, child_page_in}
use Rattle.neph_heap.proofs.words.fill_pages.Given as goal

abbrev pub invariant-loop-i : goal.invariant-loop-i
invariant-loop-i g l =
    let W = g.P.FramePool.world in
    let es = W.entries l.initial.pool l.initial.seat in
    let now = W.entries l.pool l.seat in record {
      pages : map (page_in now) l.born.items ≡ map (child_page_in es) (take l.i l.parent);
      frames : frames_of l.born.items ≡ take l.i l.frames;
      size : length l.born.items ≡ l.i;
      room : length l.parent ≤ vec_capacity l.born;
      holds : (f : ℕ) → hold_at now f ≡ hold_at es f;
      words : (f : ℕ) → times f (take l.i l.frames) ≡ 0 → words_at now f ≡ words_at es f;
      moves : Moves W l.initial.pool l.initial.seat l.pool l.seat;
      shares : W.shares l.pool ≡ W.shares l.initial.pool;
    }
