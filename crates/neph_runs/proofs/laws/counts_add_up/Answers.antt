use Rattle.neph_runs.proofs.Lasting as lasting
use Rattle.neph_runs.proofs.laws.counts_add_up.Goals as goal

pub returns : goal.returns
returns c = lasting.counts_add_up
