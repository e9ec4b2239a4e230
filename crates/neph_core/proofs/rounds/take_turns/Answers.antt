use Rattle.std.proofs.Common.{sym, subst, ◌∙◌, arith}
use Rattle.neph_model.specs.WellFormed.{IsWellFormed}
use Rattle.neph_core.proofs.Courses.{next_actor}
use Rattle.neph_core.proofs.Standing.{goes_from, goes_on, stops_over, stops_all}
use Rattle.neph_core.proofs.rounds.take_turns.Goals as goal

pub loop-actor-init : goal.loop-actor-init
loop-actor-init c = λ before stands. goes_from c.args.machine.now before c.args.actors.now stands

pub turn-requires-clause-formed : goal.turn-requires-clause-formed
turn-requires-clause-formed c =
    let n = c.requires.running in
    subst IsWellFormed (sym (c.loop-actor.invariant n.0 n.1).so_far.script) c.requires.formed

pub turn-requires-clause-running : goal.turn-requires-clause-running
turn-requires-clause-running c =
    let n = c.requires.running in
    let g = c.loop-actor.invariant n.0 n.1 in
    (g.after, g.stands)

pub loop-actor-preserved : goal.loop-actor-preserved
loop-actor-preserved c = λ before stands.
    let g = c.loop-actor.invariant before stands in
    goes_on c.args.machine.now before c.args.actors.now c.loop-actor.machine c.loop-actor.moved c.turn.new.self c.in_ok-moved.field-0 _ _ _
    (next_actor c.args.actors.now c.loop-actor.actor-index _ c.loop-actor-test.true c.actor-item.is) g (sym (c.is_over.ensures g.after g.stands) ∙ c.if-is_over.false) (c.in_ok-moved.ensures g.after g.stands)

pub returns-then-is_over : goal.returns-then-is_over
returns-then-is_over c = λ before stands.
    let g = c.loop-actor.invariant before stands in
    stops_over c.args.machine.now before c.args.actors.now c.loop-actor.machine c.loop-actor.moved _ g (sym (c.is_over.ensures g.after g.stands) ∙ c.if-is_over.true)

pub returns : goal.returns
returns c = λ before stands.
    let g = c.loop-actor.invariant before stands in
    stops_all c.args.machine.now before c.args.actors.now c.loop-actor.machine c.loop-actor.moved c.loop-actor.actor-index g (omega (arith, c.loop-actor-test.false, c.loop-actor.auto.actor-index-end))
