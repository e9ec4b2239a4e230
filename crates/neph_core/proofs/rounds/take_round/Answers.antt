use Rattle.std.proofs.Common.{◌<◌, sym, subst, ◌∙◌, arith}
use Rattle.neph_model.specs.WellFormed.{IsWellFormed}
use Rattle.neph_machine.specs.Reached.{state_after}
use Rattle.neph_core.proofs.Standing.{round_begins, next_domain, daemon_last, none_waits, over_last}
use Rattle.neph_core.proofs.rounds.take_round.Goals as goal

pub domains-init : goal.domains-init
domains-init c = round_begins c.args.machine.now

pub turn-requires-clause-formed : goal.turn-requires-clause-formed
turn-requires-clause-formed c =
    let n = c.requires.running in
    subst IsWellFormed (sym (c.domains.invariant.gone n.0 n.1).so_far.script) c.requires.formed

pub turn-requires-clause-running : goal.turn-requires-clause-running
turn-requires-clause-running c =
    let n = c.requires.running in
    let g = c.domains.invariant.gone n.0 n.1 in
    (g.after, g.stands)

pub domains-preserved : goal.domains-preserved
domains-preserved c = record {
  low = omega (arith, c.get-from.ensures.range);
  gone = λ before stands.
      let g = c.domains.invariant.gone before stands in
      let lt : c.in-Some.id < 64 = omega (arith, c.get-from.ensures.value, c.get-from.ensures.range) in
      next_domain c.args.machine.now c.domains.machine c.domains.moved c.domains.from c.domains.invariant before stands c.turn.new.self c.in_ok-moved.field-0 c.in-Some.id c.get-from.result
      c.get-from.ensures.value lt (c.in-Some.ensures (state_after c.domains.machine.frames.script g.after) g.stands.frames) (c.in_ok-moved.ensures g.after g.stands);
}

pub domains-smaller : goal.domains-smaller
domains-smaller c =
    let n = c.requires.running in
    let g = c.domains.invariant.gone n.0 n.1 in
    let low = (c.in-Some.ensures (state_after c.domains.machine.frames.script g.after) g.stands.frames).at in
    omega (arith, low, c.get-from.ensures.value, c.get-from.ensures.range)

pub turn-requires-then-not-is_over-clause-formed : goal.turn-requires-then-not-is_over-clause-formed
turn-requires-then-not-is_over-clause-formed c =
    let n = c.requires.running in
    subst IsWellFormed (sym (c.domains.invariant.gone n.0 n.1).so_far.script) c.requires.formed

pub turn-requires-then-not-is_over-clause-running : goal.turn-requires-then-not-is_over-clause-running
turn-requires-then-not-is_over-clause-running c =
    let n = c.requires.running in
    let g = c.domains.invariant.gone n.0 n.1 in
    (g.after, g.stands)

pub returns-in_ok-moved-2 : goal.returns-in_ok-moved-2
returns-in_ok-moved-2 c = λ before stands.
    let g = c.domains.invariant.gone before stands in
    daemon_last c.args.machine.now c.domains.machine c.domains.moved c.domains.from c.domains.invariant before stands c.turn-then-not-is_over.new.self c.in_ok-moved-2.field-0
    (c.in_default.ensures (state_after c.domains.machine.frames.script g.after) g.stands.frames) (sym (c.is_over.ensures g.after g.stands) ∙ c.if-not-is_over.true) (c.in_ok-moved-2.ensures g.after g.stands)

pub returns-else-not-is_over : goal.returns-else-not-is_over
returns-else-not-is_over c = λ before stands.
    let g = c.domains.invariant.gone before stands in
    over_last c.args.machine.now c.domains.machine c.domains.moved c.domains.from c.domains.invariant before stands (sym (c.is_over.ensures g.after g.stands) ∙ c.if-not-is_over.false)

pub returns-then-not-has_waiting : goal.returns-then-not-has_waiting
returns-then-not-has_waiting c = λ before stands.
    let g = c.domains.invariant.gone before stands in
    none_waits c.args.machine.now c.domains.machine c.domains.moved c.domains.from c.domains.invariant before stands c.has_waiting.result c.has_waiting.ensures.value c.if-not-has_waiting.true
    (c.in_default.ensures (state_after c.domains.machine.frames.script g.after) g.stands.frames)
