use Rattle.std.proofs.Common.{cond, sym, ap, subst, ◌∙◌}
use Rattle.std.specs.Prelude.{not}
use Rattle.std.specs.FinMap.{insert}
use Rattle.neph_tree.specs.Nodes.{Nodes, IsTree}
use Rattle.neph_tree.specs.NodeSlab.{nodes_of}
use Rattle.neph_tree.proofs.WalkLemmas.{added_path, added_above}
use Rattle.neph_tree.proofs.node_slab.NodeSlab.add.Goals as goal

pub parent_of-up-requires-clause-path : goal.parent_of-up-requires-clause-path
parent_of-up-requires-clause-path c = added_path (nodes_of c.args.self.now) c.args.path.now c.args.value.items c.requires.tree

pub parent_of-up-requires-clause-above : goal.parent_of-up-requires-clause-above
parent_of-up-requires-clause-above c = λ d name child. added_above (nodes_of c.args.self.now) c.args.path.now c.args.value.items d name c.requires.tree child

pub leads_to-requires-clause-path : goal.leads_to-requires-clause-path
leads_to-requires-clause-path c = added_path (nodes_of c.args.self.now) c.args.path.now c.args.value.items c.requires.tree

pub add_below-requires-clause-missing : goal.add_below-requires-clause-missing
add_below-requires-clause-missing c = sym c.leads_to.ensures ∙ c.if-leads_to.false

pub add_below-requires-clause-tree : goal.add_below-requires-clause-tree
add_below-requires-clause-tree c =
    let m = nodes_of c.args.self.now in
    let Keeps : Nodes → Type 0 = λ n. IsTree n in
    subst Keeps (ap (λ b. cond b m (insert m c.args.path.now c.args.value.items)) (sym c.leads_to.ensures ∙ c.if-leads_to.false)) c.requires.tree

pub returns-then-leads_to-clause-ok : goal.returns-then-leads_to-clause-ok
returns-then-leads_to-clause-ok c =
    let m = nodes_of c.args.self.now in
    sym (ap (λ b. cond b m (insert m c.args.path.now c.args.value.items)) (sym c.leads_to.ensures ∙ c.if-leads_to.true))

pub returns-then-leads_to-clause-tells : goal.returns-then-leads_to-clause-tells
returns-then-leads_to-clause-tells c = sym (ap not (sym c.leads_to.ensures ∙ c.if-leads_to.true))

pub returns-clause-ok : goal.returns-clause-ok
returns-clause-ok c =
    let m = nodes_of c.args.self.now in
    c.in_ok-add_below.ensures.ok ∙ sym (ap (λ b. cond b m (insert m c.args.path.now c.args.value.items)) (sym c.leads_to.ensures ∙ c.if-leads_to.false))

pub returns-clause-tells : goal.returns-clause-tells
returns-clause-tells c = sym (ap not (sym c.leads_to.ensures ∙ c.if-leads_to.false))
