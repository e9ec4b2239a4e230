use Rattle.std.proofs.Common.{None, refl}
use Rattle.neph_tree.proofs.NodeLemmas.{child_updated}
use Rattle.neph_tree.proofs.node.Node.unlink.Goals as goal

pub returns : goal.returns
returns c =
    let updates = c.remove.ensures.updates in
    record {
      path = refl;
      value = refl;
      children = λ other. child_updated c.args.name.now c.args.self.now.children.entries c.remove.new.self.entries None updates.1 updates.3 other;
    }
