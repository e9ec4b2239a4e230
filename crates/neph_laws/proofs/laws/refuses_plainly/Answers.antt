use Rattle.neph_laws.proofs.Refusals as refusalss
use Rattle.neph_laws.proofs.laws.refuses_plainly.Goals as goal

pub returns : goal.returns
returns c = refusalss.refuses_plainly
