use Rattle.neph_memory.proofs.Returning.{back}
use Rattle.neph_memory.proofs.exposing.comes_back.Goals as goal

pub returns : goal.returns
returns g c = back g.P.FramePool.world
