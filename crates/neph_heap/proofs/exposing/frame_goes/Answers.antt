use Rattle.neph_heap.proofs.Loose.{goes}
use Rattle.neph_heap.proofs.exposing.frame_goes.Goals as goal

pub returns : goal.returns
returns g c = goes g.P.FramePool.world
