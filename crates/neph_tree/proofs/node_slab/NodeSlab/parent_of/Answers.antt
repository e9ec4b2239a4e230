use Rattle.neph_tree.proofs.WalkLemmas.{up_found}
use Rattle.neph_tree.proofs.node_slab.NodeSlab.parent_of.Goals as goal

pub returns-in-Some : goal.returns-in-Some
returns-in-Some c =
    let child = c.in-Some.ensures.some c.requires.path in
    up_found c.args.self.now c.requires.linked {path = c.args.path.now} {d = c.in-Some.above.now} {name = c.in-Some.field-0-1.now} c.find.result child (c.requires.above c.in-Some.above.now c.in-Some.field-0-1.now child) c.find.ensures
