use Rattle.neph_heap.proofs.Loose.{comes}
use Rattle.neph_heap.proofs.exposing.frame_comes.Goals as goal

pub returns : goal.returns
returns g c = comes g.P.FramePool.world
