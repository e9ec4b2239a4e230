use Rattle.neph_accounts.proofs.Plainly as plainly
use Rattle.neph_accounts.proofs.laws.counts_pages.Goals as goal

pub returns : goal.returns
returns c = plainly.counts_pages
