use Rattle.neph_gmap.proofs.Rising.{rising_added}
use Rattle.neph_gmap.proofs.vpns.Vpns.add.Goals as goal

pub invariant_of-self : goal.invariant_of-self
invariant_of-self c = rising_added c.add_to.result _ _ c.args.v c.add_to.ensures.ok c.add_to.ensures.err c.self.invariant
