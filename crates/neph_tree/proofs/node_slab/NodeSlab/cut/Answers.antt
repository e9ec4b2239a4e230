use Rattle.std.proofs.Common.{◌≡◌, true, sym, ap, ◌∙◌}
use Rattle.neph_tree.specs.Places.{is_within}
use Rattle.neph_tree.specs.Nodes.{without}
use Rattle.neph_tree.specs.NodeSlab.{nodes_of}
use Rattle.neph_tree.proofs.LinkLemmas.{key_stands, alone_linked}
use Rattle.neph_tree.proofs.WriteLemmas.{always_found}
use Rattle.neph_tree.proofs.WalkLemmas.{without_within, without_none}
use Rattle.neph_tree.proofs.node_slab.NodeSlab.cut.Goals as goal

pub leaf_at-leaf-requires-clause-there : goal.leaf_at-leaf-requires-clause-there
leaf_at-leaf-requires-clause-there c = always_found c.loop-key.self c.loop-key.invariant.linked c.top_of-place.result.now c.in-Some.key c.in-Some.ensures

pub remove_leaf-requires-clause-leaf : goal.remove_leaf-requires-clause-leaf
remove_leaf-requires-clause-leaf c =
    let n = key_stands c.loop-key.self c.loop-key.invariant.linked c.top_of-place.result.now c.in-Some.key (sym c.in-Some.ensures) in
    let leaf = c.leaf_at-leaf.ensures n.0 n.1 in
    (leaf.0, leaf.1, leaf.2)

pub loop-key-preserved : goal.loop-key-preserved
loop-key-preserved c =
    let t = c.loop-key.self in
    let linked = c.loop-key.invariant.linked in
    let top = c.args.top.now in
    let n = key_stands t linked c.top_of-place.result.now c.in-Some.key (sym c.in-Some.ensures) in
    let leaf = c.leaf_at-leaf.ensures n.0 n.1 in
    let path = leaf.0.path.items in
    let below : is_within top path ≡ true = sym (c.top_of-place.ensures.same path ((alone_linked t linked).paths c.leaf_at-leaf.result leaf.0 leaf.1)) ∙ ap (λ p. is_within p path) (sym n.2) ∙ leaf.3 in
    record {
      linked = c.remove_leaf.ensures.linked;
      rest = ap (λ m. without m top) (c.remove_leaf.ensures.nodes leaf.0 leaf.1) ∙ without_within (nodes_of t) top path below ∙ c.loop-key.invariant.rest;
    }

pub returns-clause-nodes : goal.returns-clause-nodes
returns-clause-nodes c =
    sym (without_none c.loop-key.self c.loop-key.invariant.linked c.args.top.now c.top_of-place.result.now c.top_of-place.ensures.same c.top_of-place.ensures.some (sym c.find.ensures ∙ c.in_default.is)) ∙ c.loop-key.invariant.rest
