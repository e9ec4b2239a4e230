use Rattle.neph_runs.proofs.Legally as legally
use Rattle.neph_runs.proofs.laws.runs_legally.Goals as goal

pub returns : goal.returns
returns c = legally.runs_legally
