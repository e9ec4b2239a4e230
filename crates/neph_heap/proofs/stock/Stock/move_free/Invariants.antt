use Rattle.std.proofs.Common.{◌≡◌, ◌≤◌, ◌+◌, length, take, drop}
use Rattle.std.specs.Vec.{vec_capacity}
use Rattle.neph_heap.proofs.stock.Stock.move_free.Given as goal

abbrev pub invariant-loop-i : goal.invariant-loop-i
invariant-loop-i l = record {
  into : l.into.items ≡ drop l.left (take l.i l.self-inside.free.items);
  size : length l.into.items + l.left ≡ l.i;
  room : l.count ≤ vec_capacity l.into;
}
