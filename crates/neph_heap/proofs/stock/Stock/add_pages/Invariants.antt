use Rattle.std.proofs.Common.{◌≡◌, ◌≤◌, ◌++◌, take}
use Rattle.std.specs.Vec.{vec_capacity}
use Rattle.neph_heap.specs.Lists.{frames_of}
use Rattle.neph_heap.proofs.stock.Stock.add_pages.Given as goal

abbrev pub invariant-loop-page : goal.invariant-loop-page
invariant-loop-page l = record {
  free : l.self-inside.free.items ≡ l.initial.self-inside.free.items ++ take l.page-index (frames_of l.pages);
  room : 16384 ≤ vec_capacity l.self-inside.free;
  domains : l.self-inside.exposed.items ≡ l.initial.self-inside.exposed.items;
  children : l.self-inside.aside.items ≡ l.initial.self-inside.aside.items;
}
