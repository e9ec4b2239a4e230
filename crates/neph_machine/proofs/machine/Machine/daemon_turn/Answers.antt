use Rattle.std.proofs.Common.{sym}
use Rattle.neph_machine.specs.Reached.{state_after}
use Rattle.neph_machine.proofs.Joining.{joined_took}
use Rattle.neph_machine.proofs.machine.Machine.daemon_turn.Goals as goal

pub returns : goal.returns
returns g c = λ before stands. joined_took g.P.FramePool.world c.args.self.now c.finish-reply.new.self c.finish-reply.ensures.heap (state_after c.args.self.now.script before) stands (sym c.if-not-has_waiting.ensures.value) c.finish-reply.result c.finish-reply.ensures.row
