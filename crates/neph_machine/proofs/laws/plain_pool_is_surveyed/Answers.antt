use Rattle.neph_machine.proofs.Surveying.{plain_surveyed}
use Rattle.neph_machine.proofs.laws.plain_pool_is_surveyed.Goals as goal

pub returns : goal.returns
returns c = plain_surveyed
