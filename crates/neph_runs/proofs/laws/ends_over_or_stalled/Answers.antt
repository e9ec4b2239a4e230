use Rattle.neph_runs.proofs.Runs as runs
use Rattle.neph_runs.proofs.laws.ends_over_or_stalled.Goals as goal

pub returns : goal.returns
returns c = runs.ends_over_or_stalled
