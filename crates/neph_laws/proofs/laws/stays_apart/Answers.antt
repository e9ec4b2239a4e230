use Rattle.neph_laws.proofs.Apart as aparts
use Rattle.neph_laws.proofs.laws.stays_apart.Goals as goal

pub returns : goal.returns
returns c = aparts.stays_apart
