use Rattle.neph_turns.proofs.Work.{machine_left}
use Rattle.neph_core.proofs.Standing.{Rounded}
use Rattle.neph_core.proofs.rounds.play.Given as goal

abbrev pub invariant-rounds : goal.invariant-rounds
invariant-rounds l = Rounded l.fn.s l.machine

abbrev pub decreases-rounds : goal.decreases-rounds
decreases-rounds l = machine_left l.machine.frames
