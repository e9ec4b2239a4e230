use Rattle.neph_p9msg.proofs.Whole.{one_message}
use Rattle.neph_p9msg.proofs.laws.one_message_for_bytes.Goals as goal

pub returns : goal.returns
returns c = one_message
