use Rattle.neph_accounts.proofs.Plainly as plainly
use Rattle.neph_accounts.proofs.laws.starts_apart.Goals as goal

pub returns : goal.returns
returns c = plainly.starts_apart
