use Rattle.std.proofs.Common.{◌≡◌, ◌≤◌, ◌++◌, take}
use Rattle.std.specs.Vec.{vec_capacity}
use Rattle.neph_heap.proofs.stock.Stock.add_free.Given as goal

abbrev pub invariant-loop-f : goal.invariant-loop-f
invariant-loop-f l = record {
  free : l.self-inside.free.items ≡ l.initial.self-inside.free.items ++ take l.f-index l.frames;
  room : 16384 ≤ vec_capacity l.self-inside.free;
  domains : l.self-inside.exposed.items ≡ l.initial.self-inside.exposed.items;
  children : l.self-inside.aside.items ≡ l.initial.self-inside.aside.items;
}
