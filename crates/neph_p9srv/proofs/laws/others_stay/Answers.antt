use Rattle.std.proofs.Common.{get_or-set_other}
use Rattle.neph_p9srv.proofs.laws.others_stay.Goals as goal

pub returns : goal.returns
returns c = λ s d e m apart. rw get_or-set_other
