use Rattle.std.proofs.Common.{◌≡◌, ℕ, Some, take}
use Rattle.neph_pool.specs.Entries.{words_at}
use Rattle.neph_pool.specs.World.{Moves}
use Rattle.neph_pool.specs.declared.entry.Hold.TheVariants.{Zero}
use Rattle.neph_heap.specs.Holds.{HoldsAmong}
use Rattle.neph_heap.specs.Lists.{frames_of}
use Rattle.neph_heap.proofs.moves.release_all.Given as goal

abbrev pub invariant-loop-page : goal.invariant-loop-page
invariant-loop-page g l =
    let W = g.P.FramePool.world in
    let es = W.entries l.initial.pool l.initial.seat in record {
      holds : HoldsAmong (take l.page-index (frames_of l.pages)) (Some Zero) es (W.entries l.pool l.seat);
      words : (f : ℕ) → words_at (W.entries l.pool l.seat) f ≡ words_at es f;
      moves : Moves W l.initial.pool l.initial.seat l.pool l.seat;
      shares : W.shares l.pool ≡ W.shares l.initial.pool;
    }
