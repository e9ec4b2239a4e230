use Rattle.neph_accounts.proofs.Plainly as plainly
use Rattle.neph_accounts.proofs.laws.seats_are_all.Goals as goal

pub returns : goal.returns
returns c = plainly.seats_are_all
