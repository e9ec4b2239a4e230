use Rattle.std.proofs.Common.{sym, ap, ◌∙◌}
use Rattle.neph_base.specs.declared.reply.Actor.TheVariants.{Dom}
use Rattle.neph_model.specs.Turns.{turn}
use Rattle.neph_model.specs.Step.{is_paused}
use Rattle.neph_heap.specs.Pages.{pages_in}
use Rattle.neph_machine.specs.Reached.{state_after}
use Rattle.neph_machine.proofs.Joining.{rested_took}
use Rattle.neph_machine.proofs.Reached.{reached}
use Rattle.neph_turns.proofs.Needs.{exit_at}
use Rattle.neph_turns.proofs.Resting.{paused_rests}
use Rattle.neph_turns.proofs.dispatch.bare_turn.Goals as goal

pub returns-then-is_paused : goal.returns-then-is_paused
returns-then-is_paused g c before stands =
    let W = g.P.FramePool.world in
    let old = c.args.machine.now in
    let st = state_after old.script before in
    let h = c.requires.here in
    let pages = pages_in (W.entries old.pool old.hv.heap.seat) old.hv.heap.stock.exposed in
    rested_took W old st (turn old.script st (Dom c.args.id)) stands
    (paused_rests W old st stands c.args.id h.live h.here h.calm (ap (is_paused c.args.id) stands.shared ∙ sym (c.is_paused.ensures pages) ∙ c.if-is_paused.true))

pub exit_turn-requires-clause-here : goal.exit_turn-requires-clause-here
exit_turn-requires-clause-here g c =
    let W = g.P.FramePool.world in
    let old = c.args.machine.now in
    let n = c.requires.running in
    let h = c.requires.here in
    exit_at W old (state_after old.script n.0) (reached old.script c.requires.formed n.0) n.1 c.args.id h.live h.here
    c.requires.absent h.calm (λ pages. sym (c.is_paused.ensures pages) ∙ c.if-is_paused.false)
