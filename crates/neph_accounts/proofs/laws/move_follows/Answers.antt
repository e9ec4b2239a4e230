use Rattle.neph_accounts.proofs.Plainly as plainly
use Rattle.neph_accounts.proofs.laws.move_follows.Goals as goal

pub returns : goal.returns
returns c = plainly.move_follows
