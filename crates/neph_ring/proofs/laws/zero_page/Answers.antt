use Rattle.neph_ring.proofs.Quiet.{quiet_zeros}
use Rattle.neph_ring.proofs.laws.zero_page.Goals as goal

pub returns : goal.returns
returns c = quiet_zeros
