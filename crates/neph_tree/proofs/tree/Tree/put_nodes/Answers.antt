use Rattle.std.proofs.Common.{◌≡◌, ℕ, List, sym, ap, subst, ◌∙◌}
use Rattle.neph_tree.specs.Nodes.{Nodes, IsTree, with_nodes}
use Rattle.neph_tree.specs.Entries.{shown}
use Rattle.neph_tree.specs.Growth.{ArePaths, HasEach, with_each_made, with_values}
use Rattle.neph_tree.proofs.TreeLemmas.{HasEach-with_each_made, nodes_of_made, IsTree-with_nodes}
use Rattle.neph_tree.proofs.tree.Tree.put_nodes.Goals as goal

pub fill-requires : goal.fill-requires
fill-requires c =
    let list = shown c.args.nodes.items in
    let Has : Nodes → Type 0 = λ m. HasEach m list in
    subst Has (sym (c.in_ok-make_all.ensures.ok ∙ ap (λ xs. with_each_made c.self.inside.nodes (shown xs)) c.deref.ensures.value)) (HasEach-with_each_made c.self.inside.nodes list)

filled : (m made now : Nodes) (list : List (List ℕ × List ℕ)) → IsTree m → ArePaths list → made ≡ with_each_made m list → now ≡ with_values made list → now ≡ with_nodes m list
filled m made now list tree are is set = set ∙ ap (λ n. with_values n list) is ∙ nodes_of_made m list tree are

pub invariant_of-self-then-not-branch : goal.invariant_of-self-then-not-branch
invariant_of-self-then-not-branch c =
    let m = c.self.inside.nodes in
    let list = shown c.args.nodes.items in
    let made = c.in_ok-make_all.ensures.ok ∙ ap (λ xs. with_each_made m (shown xs)) c.deref.ensures.value in
    let Keeps : Nodes → Type 0 = λ n. IsTree n in
    subst Keeps (sym (filled m _ _ list c.self.invariant c.requires made c.fill.ensures)) (IsTree-with_nodes m list c.self.invariant c.requires)

pub invariant_of-self-else-not-branch : goal.invariant_of-self-else-not-branch
invariant_of-self-else-not-branch c =
    let m = c.self.inside.nodes in
    let list = shown c.args.nodes.items in
    let all = c.in_ok-make_all.ensures.all c.if-not-branch.false ∙ ap (λ xs. with_nodes m (shown xs)) c.deref.ensures.value in
    let Keeps : Nodes → Type 0 = λ n. IsTree n in
    subst Keeps (sym all) (IsTree-with_nodes m list c.self.invariant c.requires)

pub returns-then-not-branch-clause-ok : goal.returns-then-not-branch-clause-ok
returns-then-not-branch-clause-ok c =
    let m = c.self.inside.nodes in
    let list = shown c.args.nodes.items in
    let made = c.in_ok-make_all.ensures.ok ∙ ap (λ xs. with_each_made m (shown xs)) c.deref.ensures.value in
    filled m _ _ list c.self.invariant c.requires made c.fill.ensures ∙ ap (λ n. with_nodes n list) c.self.view_is
