use Rattle.std.proofs.Common.{sym, ap, subst, ◌∙◌}
use Rattle.neph_tree.specs.Growth.{with_made}
use Rattle.neph_tree.specs.Nodes.{Nodes, IsTree, with_node}
use Rattle.neph_tree.proofs.TreeLemmas.{IsTree-with_made, IsTree-with_node, replaced_there, with_node_there}
use Rattle.neph_tree.proofs.tree.Tree.put_node.Goals as goal

pub invariant_of-self : goal.invariant_of-self
invariant_of-self c =
    let Keeps : Nodes → Type 0 = λ nodes. IsTree nodes in
    subst Keeps (sym (c.in_ok-make.ensures.ok ∙ ap (λ m. with_made m c.args.path.now c.in-Some.value.items) c.in-Some.ensures.missing.1)) (IsTree-with_made c.self.inside.nodes c.args.path.now c.in-Some.value.items c.self.invariant c.requires.form)

pub invariant_of-self-in_default : goal.invariant_of-self-in_default
invariant_of-self-in_default c =
    let m = c.self.inside.nodes in
    let path = c.args.path.now in
    let value = c.in_ok-value.value.items in
    let there = replaced_there m path c.replace.result c.in_default.is c.replace.ensures.tells in
    let Keeps : Nodes → Type 0 = λ nodes. IsTree nodes in
    subst Keeps (sym (c.in_default.ensures.there ∙ sym (with_node_there m path value c.self.invariant c.requires.form there))) (IsTree-with_node m path value c.self.invariant c.requires.form)

pub returns-in_default-clause-ok : goal.returns-in_default-clause-ok
returns-in_default-clause-ok c =
    let m = c.self.inside.nodes in
    let path = c.args.path.now in
    let value = c.in_ok-value.value.items in
    let there = replaced_there m path c.replace.result c.in_default.is c.replace.ensures.tells in
    c.in_default.ensures.there ∙ sym (with_node_there m path value c.self.invariant c.requires.form there) ∙ ap (λ n. with_node n path value) c.self.view_is ∙ ap (λ v. with_node c.args.self.now path v) c.in_ok-value.ensures
