use Rattle.neph_gmap.proofs.Rising.{rising_without}
use Rattle.neph_gmap.proofs.vpns.Vpns.remove.Goals as goal

pub invariant_of-self : goal.invariant_of-self
invariant_of-self c = rw c.drop_from.ensures (rising_without c.args.v _ c.self.invariant)
