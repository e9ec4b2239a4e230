use Rattle.neph_accounts.proofs.Plainly as plainly
use Rattle.neph_accounts.proofs.laws.uses_all_frames.Goals as goal

pub returns : goal.returns
returns c = plainly.uses_all_frames
