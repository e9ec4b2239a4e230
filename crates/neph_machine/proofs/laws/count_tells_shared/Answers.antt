use Rattle.neph_machine.proofs.Reached.{reached}
use Rattle.neph_machine.specs.Reached.{state_after}
use Rattle.neph_machine.proofs.FrameLaws.{shared_is}
use Rattle.neph_machine.proofs.laws.count_tells_shared.Goals as goal

pub returns : goal.returns
returns g c = λ survey m before well stands id l lt here pfn f at none.
    shared_is g.P.FramePool.world m (state_after m.script before) survey (reached m.script well before) stands id l lt here none pfn f at
