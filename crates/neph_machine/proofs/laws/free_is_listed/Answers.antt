use Rattle.neph_machine.proofs.Reached.{reached}
use Rattle.neph_machine.specs.Reached.{state_after}
use Rattle.neph_machine.proofs.FrameLaws.{free_is}
use Rattle.neph_machine.proofs.laws.free_is_listed.Goals as goal

pub returns : goal.returns
returns g c = λ survey m before well stands.
    free_is g.P.FramePool.world m (state_after m.script before) survey (reached m.script well before) stands
