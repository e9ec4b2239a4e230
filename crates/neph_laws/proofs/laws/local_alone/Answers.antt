use Rattle.neph_laws.proofs.Local as locals
use Rattle.neph_laws.proofs.laws.local_alone.Goals as goal

pub returns : goal.returns
returns c = locals.local_alone
