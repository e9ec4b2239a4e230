use Rattle.neph_pool.proofs.Calls.{moves_trans}
use Rattle.neph_memory.proofs.exposing.turn_one.Goals as goal

pub returns-clause-moves : goal.returns-clause-moves
returns-clause-moves g c = moves_trans _ _ _ _ _ _ _ c.walk-walk.ensures.moves c.set.ensures.moves
