use Rattle.neph_laws.proofs.Granted as granteds
use Rattle.neph_laws.proofs.laws.grants_stay.Goals as goal

pub returns : goal.returns
returns c = granteds.grants_stay
