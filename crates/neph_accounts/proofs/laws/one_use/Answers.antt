use Rattle.neph_accounts.proofs.Plainly as plainly
use Rattle.neph_accounts.proofs.laws.one_use.Goals as goal

pub returns : goal.returns
returns c = plainly.one_use
