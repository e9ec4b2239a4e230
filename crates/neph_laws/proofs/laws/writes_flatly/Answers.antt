use Rattle.neph_laws.proofs.Flatly as flatlys
use Rattle.neph_laws.proofs.laws.writes_flatly.Goals as goal

pub returns : goal.returns
returns c = flatlys.writes_flatly
