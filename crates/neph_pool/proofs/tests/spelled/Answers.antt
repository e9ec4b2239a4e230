use Rattle.neph_pool.proofs.Calls.{moves_trans}
use Rattle.neph_pool.proofs.tests.spelled.Goals as goal

pub returns : goal.returns
returns g c = record {
  moves =
      let step = moves_trans g.P.FramePool.world in
      step _ _ _ _ _ _ (step _ _ _ _ _ _ (step _ _ _ _ _ _ c.retake.ensures.moves c.write_bytes.ensures.moves) c.read_bytes-piece.ensures.moves) c.read-word.ensures.moves;
}
