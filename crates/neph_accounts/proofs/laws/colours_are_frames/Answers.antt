use Rattle.neph_accounts.proofs.Plainly as plainly
use Rattle.neph_accounts.proofs.laws.colours_are_frames.Goals as goal

pub returns : goal.returns
returns c = plainly.colours_are_frames
