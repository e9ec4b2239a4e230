use Rattle.neph_accounts.proofs.Plainly as plainly
use Rattle.neph_accounts.proofs.laws.free_is_kept.Goals as goal

pub returns : goal.returns
returns c = plainly.free_is_kept
