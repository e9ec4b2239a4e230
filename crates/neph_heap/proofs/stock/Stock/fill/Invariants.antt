use Rattle.std.proofs.Common.{◌≡◌, ◌-◌, ◌≤◌, reverse}
use Rattle.std.specs.List.{range_with_len}
use Rattle.std.specs.Vec.{vec_capacity}
use Rattle.neph_heap.proofs.stock.Stock.fill.Given as goal

abbrev pub invariant-loop-i : goal.invariant-loop-i
invariant-loop-i l = record {
  free : l.self-inside.free.items ≡ reverse (range_with_len (l.count - l.i) l.i);
  room : 16384 ≤ vec_capacity l.self-inside.free;
  domains : l.self-inside.exposed.items ≡ l.initial.self-inside.exposed.items;
  children : l.self-inside.aside.items ≡ l.initial.self-inside.aside.items;
}
