use Rattle.std.proofs.Common.{◌≡◌, true, Some, is_some, sym, ap, ◌∙◌, arith}
use Rattle.neph_tree.specs.Places.{is_within}
use Rattle.neph_tree.proofs.Within.{within_self, within_below, within_trans}
use Rattle.neph_tree.proofs.SearchLemmas.{child_stands}
use Rattle.neph_tree.proofs.WriteLemmas.{child_fewer}
use Rattle.neph_tree.proofs.node_slab.NodeSlab.+leaf_at.Goals as goal

pub leaf_at-requires : goal.leaf_at-requires
leaf_at-requires t c =
    let f = c.in-Some.ensures.some in
    let less = child_fewer c.args.self.now c.requires.linked c.args.key f.0 f.1 c.in-Some.child f.2 f.3 in (
      omega (arith, less, c.decreases),
      (c.requires.linked, ap is_some (child_stands c.args.self.now c.requires.linked c.args.key f.0 f.1 c.in-Some.child f.2 f.3).1),
    )

pub returns-in-Some : goal.returns-in-Some
returns-in-Some t c = λ top at.
    let f = c.in-Some.ensures.some in
    let b = child_stands c.args.self.now c.requires.linked c.args.key f.0 f.1 c.in-Some.child f.2 f.3 in
    let leaf = c.leaf_at.ensures b.0 b.1 in
    let both : Some f.0 ≡ Some top = sym f.2 ∙ at in
    let one : f.0 ≡ top = cc in
    let below : is_within f.0.path.items b.0.path.items ≡ true = ap (λ p. is_within f.0.path.items p) b.3 ∙ within_below f.0.path.items f.1 in
    (leaf.0, leaf.1, leaf.2, ap (λ n. is_within n.path.items leaf.0.path.items) (sym one) ∙ within_trans f.0.path.items b.0.path.items leaf.0.path.items below leaf.3)

pub returns-in-None : goal.returns-in-None
returns-in-None t c = λ top at. (top, at, c.in-None.ensures.none top at, within_self top.path.items)
