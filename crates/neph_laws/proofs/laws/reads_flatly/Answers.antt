use Rattle.neph_laws.proofs.Flatly as flatlys
use Rattle.neph_laws.proofs.laws.reads_flatly.Goals as goal

pub returns : goal.returns
returns c = flatlys.reads_flatly
