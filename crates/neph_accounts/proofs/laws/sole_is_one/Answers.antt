use Rattle.neph_accounts.proofs.Plainly as plainly
use Rattle.neph_accounts.proofs.laws.sole_is_one.Goals as goal

pub returns : goal.returns
returns c = plainly.sole_is_one
