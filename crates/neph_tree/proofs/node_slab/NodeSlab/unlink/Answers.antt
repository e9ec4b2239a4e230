use Rattle.std.proofs.Common.{◌≡◌, None, refl}
use Rattle.neph_tree.specs.Places.{root}
use Rattle.neph_tree.proofs.HangLemmas.{attached_root}
use Rattle.neph_tree.proofs.WriteLemmas.{hung_below}
use Rattle.neph_tree.proofs.node_slab.NodeSlab.unlink.Goals as goal

pub returns-in-Some-get_mut : goal.returns-in-Some-get_mut
returns-in-Some-get_mut c =
    let up = rw c.in-Some.is at c.requires.up in
    hung_below c.args.path.now c.last_name.result.now None c.args.self.now c.in-Some.up c.in-Some-get_mut.node.now c.unlink.new.self c.requires.alone up c.in-Some-get_mut.ensures.value (λ d n child. c.last_name.ensures d n child) c.unlink.ensures

pub returns-in-None : goal.returns-in-None
returns-in-None c =
    let is : c.args.path.now ≡ root = rw c.in-None.is at c.requires.up in
    attached_root c.args.path.now None c.args.self.now (record c.args.self.now { root = None }) c.requires.alone is refl refl
