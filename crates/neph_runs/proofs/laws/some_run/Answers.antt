use Rattle.neph_runs.proofs.Runs as runs
use Rattle.neph_runs.proofs.laws.some_run.Goals as goal

pub returns : goal.returns
returns c = runs.some_run
