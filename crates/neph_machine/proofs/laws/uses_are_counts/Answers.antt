use Rattle.neph_machine.proofs.Reached.{reached}
use Rattle.neph_machine.specs.Reached.{state_after}
use Rattle.neph_machine.proofs.FrameUses.{frames_are}
use Rattle.neph_machine.proofs.laws.uses_are_counts.Goals as goal

pub returns : goal.returns
returns g c = λ survey m before well stands.
    frames_are g.P.FramePool.world m (state_after m.script before) (reached m.script well before) stands survey
