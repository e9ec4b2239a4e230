use Rattle.neph_accounts.proofs.Plainly as plainly
use Rattle.neph_accounts.proofs.laws.new_pool_is_free.Goals as goal

pub returns : goal.returns
returns c = plainly.new_pool_is_free
