use Rattle.std.proofs.Common.{◌≡◌, None, cond, is_some, sym, ap, ◌∙◌}
use Rattle.std.specs.FinMap.{get}
use Rattle.neph_tree.specs.Places.{root, child_path}
use Rattle.neph_tree.specs.Node.{child_of}
use Rattle.neph_tree.specs.NodeSlab.{keys_of}
use Rattle.neph_tree.proofs.LinkLemmas.{same_paths}
use Rattle.neph_tree.proofs.node_slab.NodeSlab.leads_to.Goals as goal

pub returns-in-Some : goal.returns-in-Some
returns-in-Some c =
    let t = c.args.self.now in
    let linked = c.requires.linked in
    let up = rw c.in-Some.is at c.requires.up in
    let keys = keys_of t in
    c.is_some.ensures
    ∙ ap is_some (c.child.ensures up.0 up.2 ∙ ap (λ n. child_of up.0 n) (c.last_name.ensures up.0.path.items up.1 up.3) ∙ linked.children c.in-Some.up up.0 up.2 up.1 ∙ ap (λ b. cond b (get keys (child_path up.0.path.items up.1)) None) up.3.one ∙ ap (λ p. get keys p) (sym up.3.whole))
    ∙ sym (same_paths t linked c.args.path.now)

pub returns-in-None : goal.returns-in-None
returns-in-None c =
    let t = c.args.self.now in
    let linked = c.requires.linked in
    let is : c.args.path.now ≡ root = rw c.in-None.is at c.requires.up in
    c.is_some-in-None.ensures ∙ ap is_some (linked.root ∙ ap (λ p. get (keys_of t) p) (sym is)) ∙ sym (same_paths t linked c.args.path.now)
