use Rattle.neph_pool.proofs.Calls.{moves_trans}
use Rattle.neph_pool.proofs.tests.copied.Goals as goal

pub returns : goal.returns
returns g c = record {
  moves =
      let W = g.P.FramePool.world in
      let step = moves_trans W in
      step _ _ _ _ _ _ (step _ _ _ _ _ _ (step _ _ _ _ _ _ (step _ _ _ _ _ _ (step _ _ _ _ _ _ (step _ _ _ _ _ _ (step _ _ _ _ _ _ c.retake.ensures.moves c.retake-2.ensures.moves) c.read-blank.ensures.moves) c.write.ensures.moves) c.copy.ensures.moves) c.write-2.ensures.moves) c.read.ensures.moves) c.read-2.ensures.moves;
}
