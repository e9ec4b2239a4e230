use Rattle.std.proofs.Common.{Some, sym, ap, ◌∙◌}
use Rattle.neph_guest.specs.declared.live.Stage.TheVariants.{Forking}
use Rattle.neph_model.specs.Turns.{turn}
use Rattle.neph_base.specs.declared.reply.Actor.TheVariants.{Dom}
use Rattle.neph_machine.specs.Reached.{state_after}
use Rattle.neph_machine.proofs.Joining.{rested_took}
use Rattle.neph_turns.proofs.Resting.{found, none_stands}
use Rattle.neph_turns.proofs.dispatch.domain_turn.Goals as goal

pub returns-in_default : goal.returns-in_default
returns-in_default g c before stands =
    let m = c.args.machine.now in
    let st = state_after m.script before in
    rested_took g.P.FramePool.world m st (turn m.script st (Dom c.args.id)) stands (none_stands g.P.FramePool.world m st stands c.args.id (sym c.stage_at.ensures ∙ c.in_default.is))

pub fork_turn-requires-clause-forking : goal.fork_turn-requires-clause-forking
fork_turn-requires-clause-forking g c =
    found c.args.machine.now c.args.id Forking (sym c.stage_at.ensures ∙ c.in-Some.is ∙ ap Some c.in-Forking.is)

pub line_turn-requires-clause-here : goal.line_turn-requires-clause-here
line_turn-requires-clause-here g c =
    let at = found c.args.machine.now c.args.id c.in-Some.stage (sym c.stage_at.ensures ∙ c.in-Some.is) in
    record { live = at.live; here = at.here; calm = λ e. c.in_default-stage.not-Forking (sym at.at ∙ e) }
