use Rattle.std.proofs.Common.{◌≡◌, length}
use Rattle.std.specs.Vec.Iter.{into_iter_items, into_iter_len}
use Rattle.neph_tree.specs.Entries.{shown}
use Rattle.neph_tree.specs.Growth.{HasEach, with_values}
use Rattle.neph_tree.proofs.growth.fill.Given as goal

abbrev pub invariant-loop-path : goal.invariant-loop-path
invariant-loop-path l = record {
  all : with_values l.nodes (shown (into_iter_items l.path-iterator)) ≡ with_values l.fn.nodes (shown l.fn.list.items);
  there : HasEach l.nodes (shown (into_iter_items l.path-iterator));
  counted : into_iter_len l.path-iterator ≡ length (into_iter_items l.path-iterator);
}
