use Rattle.std.proofs.Common.{refl}
use Rattle.neph_p9msg.proofs.laws.read_again.Goals as goal

pub returns : goal.returns
returns c = λ m found good is. (is m).1 (record { message = good; spelling = refl })
