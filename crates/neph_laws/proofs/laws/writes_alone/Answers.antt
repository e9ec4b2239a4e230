use Rattle.neph_laws.proofs.Alone as alones
use Rattle.neph_laws.proofs.laws.writes_alone.Goals as goal

pub returns : goal.returns
returns c = alones.writes_alone
