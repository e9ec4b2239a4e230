use Rattle.std.proofs.Common.{◌≡◌, ◌<◌, length, take}
use Rattle.std.specs.Prelude.{All}
use Rattle.std.specs.Vec.{vec_capacity}
use Rattle.neph_heap.specs.declared.exposed_frame.ExposedFrame.{ExposedFrame}
use Rattle.neph_heap.proofs.stock.Stock.add_exposed.Given as goal

abbrev pub invariant-loop-old : goal.invariant-loop-old
invariant-loop-old l = record {
  pages : l.pages.items ≡ take l.old-index l.old-items;
  size : length l.pages.items ≡ l.old-index;
  room : length l.old-items < vec_capacity l.pages;
  numbers : All (λ (x : ExposedFrame). x.pfn < 1024) l.pages.items;
}
