use Rattle.std.proofs.Common.{◌≡◌, ◌≢◌, ℕ, ◌≤◌, map, drop, ◌<◌, length, get_or}
use Rattle.neph_pool.proofs.Walks.{walk_left, walk_moved, MayWalk}
use Rattle.neph_pool.specs.Rows.{entry_of, total_at, row_entries}
use Rattle.neph_pool.specs.Entries.{entry_count}
use Rattle.neph_pool.specs.Frames.{frame_at}
use Rattle.neph_pool.proofs.plain_pool.PlainPoolFramePool.hand.Given as goal

abbrev pub invariant-loop-f : goal.invariant-loop-f
invariant-loop-f l =
    let xs = l.self.frames in
    let ys = l.initial.self.frames in
    let rest = drop l.f-index l.part in record {
      size : length xs ≡ length ys;
      rows : l.self.rows ≡ l.initial.self.rows;
      cap : l.self.cap ≡ l.initial.self.cap;
      shares : l.self.shares ≡ l.initial.self.shares;
      may : MayWalk (map (entry_of l.from.row) xs) (map (entry_of l.to.row) xs) rest;
      left : walk_left (map (entry_of l.from.row) xs) rest ≡ walk_left (map (entry_of l.from.row) ys) l.part;
      moved : walk_moved (map (entry_of l.from.row) xs) (map (entry_of l.to.row) xs) rest ≡ walk_moved (map (entry_of l.from.row) ys) (map (entry_of l.to.row) ys) l.part;
      others : (r : ℕ) → r ≢ l.from.row → r ≢ l.to.row → map (entry_of r) xs ≡ map (entry_of r) ys;
      fewer : entry_count (row_entries l.from.row xs) ≤ entry_count (row_entries l.from.row ys);
      full : (f : ℕ) → f < length xs → length (frame_at xs f).words ≡ 512;
      held : (r : ℕ) → r < 64 → get_or l.self.held r 0 ≡ entry_count (row_entries r xs);
      told : map total_at xs ≡ map total_at ys;
    }
