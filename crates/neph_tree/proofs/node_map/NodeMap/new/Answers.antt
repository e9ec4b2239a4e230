use Rattle.std.proofs.Common.{◌≡◌, ap, List, ℕ, ◌∙◌, arith}
use Rattle.std.specs.FinMap.{len, len-empty}
use Rattle.neph_tree.specs.NodeSlab.{nodes_of}
use Rattle.neph_tree.proofs.EntryLemmas.{order}
use Rattle.neph_tree.proofs.CountLemmas.{counted_none}
use Rattle.neph_tree.proofs.node_map.NodeMap.new.Goals as goal

pub invariant_of-result : goal.invariant_of-result
invariant_of-result c =
    let none : len (nodes_of c.new.result) ≡ 0 = ap (λ m. len m) c.new.ensures.empty ∙ len-empty order (List ℕ) in
    (c.new.ensures.linked, omega (arith, none), counted_none c.no_counts.result (nodes_of c.new.result) c.no_counts.ensures none)
