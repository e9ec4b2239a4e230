use Rattle.neph_laws.proofs.Plainly as plainlys
use Rattle.neph_laws.proofs.laws.moves_on.Goals as goal

pub returns : goal.returns
returns c = plainlys.moves_on
