use Rattle.neph_laws.proofs.Local as locals
use Rattle.neph_laws.proofs.laws.shared_replays.Goals as goal

pub returns : goal.returns
returns c = locals.shared_replays
