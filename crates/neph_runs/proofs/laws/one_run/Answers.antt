use Rattle.neph_runs.proofs.OneRun as runs
use Rattle.neph_runs.proofs.laws.one_run.Goals as goal

pub returns : goal.returns
returns c = runs.one_run
