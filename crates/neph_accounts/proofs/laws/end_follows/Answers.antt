use Rattle.neph_accounts.proofs.Plainly as plainly
use Rattle.neph_accounts.proofs.laws.end_follows.Goals as goal

pub returns : goal.returns
returns c = plainly.end_follows
