use Rattle.std.proofs.Common.{◌≡◌, [], replicate}
use Rattle.neph_heap.proofs.stock.Stock.new.Given as goal

abbrev pub invariant-loop : goal.invariant-loop
invariant-loop l = record {
  domains : l.exposed.items ≡ replicate l.counter [];
  children : l.aside.items ≡ replicate l.counter [];
}
