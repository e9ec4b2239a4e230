use Rattle.std.proofs.Common.{◌≡◌, ◌+◌, drop, length}
use Rattle.neph_p9srv.specs.Entries.{AreEntries}
use Rattle.neph_p9srv.specs.State.{with_items, nodes_of}
use Rattle.neph_p9srv.proofs.EntryLemmas.{lists}
use Rattle.neph_p9srv.proofs.tree.Tree.new.Given as goal

abbrev pub invariant-loop-item : goal.invariant-loop-item
invariant-loop-item l = AreEntries l.nodes.items (lists l.entries.items) × (length l.nodes.items ≡ l.item-index + 1) × (with_items l.nodes.items (drop l.item-index l.items) ≡ nodes_of l.items)
