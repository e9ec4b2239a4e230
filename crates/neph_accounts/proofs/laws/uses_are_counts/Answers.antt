use Rattle.neph_accounts.proofs.Plainly as plainly
use Rattle.neph_accounts.proofs.laws.uses_are_counts.Goals as goal

pub returns : goal.returns
returns c = plainly.uses_are_counts
