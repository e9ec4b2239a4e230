use Rattle.neph_p9msg.proofs.Whole.{not_begun}
use Rattle.neph_p9msg.proofs.laws.none_begins_another.Goals as goal

pub returns : goal.returns
returns c = not_begun
