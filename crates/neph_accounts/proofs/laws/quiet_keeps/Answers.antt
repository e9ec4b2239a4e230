use Rattle.neph_accounts.proofs.Plainly as plainly
use Rattle.neph_accounts.proofs.laws.quiet_keeps.Goals as goal

pub returns : goal.returns
returns c = plainly.quiet_keeps
