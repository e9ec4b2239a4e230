use Rattle.std.proofs.Common.{◌≡◌, ◌≢◌, ◌++◌, ◌-◌, ◌≤◌, ℕ, map, drop, take, length}
use Rattle.neph_pool.specs.Entries.{entry_count}
use Rattle.neph_pool.specs.Handing.{nothing, add_entries}
use Rattle.neph_pool.specs.Rows.{row_entries, total_at, words_in_frame}
use Rattle.neph_pool.proofs.renaming.rename_all.Given as goal

abbrev pub invariant-loop-left : goal.invariant-loop-left
invariant-loop-left l =
    let xs = l.frames in
    let ys = l.initial.frames in
    let i = l.f in record {
      bound : i ≤ length ys;
      size : length xs ≡ length ys;
      left : l.left ≡ entry_count (drop i (row_entries l.from ys));
      rest : drop i xs ≡ drop i ys;
      gone : row_entries l.from xs ≡ nothing i ++ drop i (row_entries l.from ys);
      joined : row_entries l.to xs ≡ add_entries (row_entries l.to ys) (take i (row_entries l.from ys));
      others : (r : ℕ) → r ≢ l.from → r ≢ l.to → row_entries r xs ≡ row_entries r ys;
      told : map total_at xs ≡ map total_at ys;
      words : map words_in_frame xs ≡ map words_in_frame ys;
    }

abbrev pub decreases-loop-left : goal.decreases-loop-left
decreases-loop-left l = length l.initial.frames - l.f
