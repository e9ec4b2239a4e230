use Rattle.neph_accounts.proofs.Plainly as plainly
use Rattle.neph_accounts.proofs.laws.commit_follows.Goals as goal

pub returns : goal.returns
returns c = plainly.commit_follows
