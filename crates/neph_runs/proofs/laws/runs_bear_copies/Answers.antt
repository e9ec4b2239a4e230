use Rattle.neph_runs.proofs.Copies as copies
use Rattle.neph_runs.proofs.laws.runs_bear_copies.Goals as goal

pub returns : goal.returns
returns c = copies.runs_bear_copies
