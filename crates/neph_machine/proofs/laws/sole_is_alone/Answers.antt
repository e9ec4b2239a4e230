use Rattle.neph_machine.proofs.Reached.{reached}
use Rattle.neph_machine.specs.Reached.{state_after}
use Rattle.neph_machine.proofs.FrameLaws.{sole_is}
use Rattle.neph_machine.proofs.laws.sole_is_alone.Goals as goal

pub returns : goal.returns
returns g c = λ survey m before well stands id l lt here pfn f at sole.
    sole_is g.P.FramePool.world m (state_after m.script before) survey (reached m.script well before) stands id l lt here pfn f at sole
