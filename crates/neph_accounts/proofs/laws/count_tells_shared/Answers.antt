use Rattle.neph_accounts.proofs.Plainly as plainly
use Rattle.neph_accounts.proofs.laws.count_tells_shared.Goals as goal

pub returns : goal.returns
returns c = plainly.count_tells_shared
