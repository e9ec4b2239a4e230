use Rattle.neph_laws.proofs.Woven as wovens
use Rattle.neph_laws.proofs.laws.weaves_legally.Goals as goal

pub returns : goal.returns
returns c = wovens.weaves_legally
