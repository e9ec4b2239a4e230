use Rattle.std.proofs.Common.{sym, ◌∙◌, []}
use Rattle.neph_core.proofs.Standing.{first_round, next_round, less_is_left, ends_stalled, ends_done}
use Rattle.neph_core.proofs.rounds.play.Goals as goal

pub rounds-init : goal.rounds-init
rounds-init c =
    let start = c.in_ok-machine.ensures in
    first_round c.args.s c.in_ok-machine.machine c.take_turns.new.machine c.in_ok-_moved._moved start (rw (c.items.ensures, c.in_ok-first.ensures) at (c.in_ok-_moved.ensures [] start.stands))

pub returns-then-not-branch : goal.returns-then-not-branch
returns-then-not-branch c =
    let h = c.rounds.invariant in
    let live = sym (c.is_over.ensures h.before h.stands) ∙ c.rounds-test.true in
    let did = c.in_ok-take_round.ensures h.before h.stands in
    ends_stalled c.args.s c.requires c.rounds.machine c.take_round.new.machine c.in_ok-take_round.field-0 h live did c.if-not-branch.true

pub rounds-smaller : goal.rounds-smaller
rounds-smaller c =
    let h = c.rounds.invariant in
    let live = sym (c.is_over.ensures h.before h.stands) ∙ c.rounds-test.true in
    let did = c.in_ok-take_round.ensures h.before h.stands in
    less_is_left c.args.s c.requires c.rounds.machine c.take_round.new.machine c.in_ok-take_round.field-0 h live did c.if-not-branch.false

pub rounds-preserved : goal.rounds-preserved
rounds-preserved c =
    let h = c.rounds.invariant in
    let live = sym (c.is_over.ensures h.before h.stands) ∙ c.rounds-test.true in
    let did = c.in_ok-take_round.ensures h.before h.stands in
    next_round c.args.s c.requires c.rounds.machine c.take_round.new.machine c.in_ok-take_round.field-0 h live did c.if-not-branch.false

pub returns : goal.returns
returns c =
    let h = c.rounds.invariant in
    ends_done c.args.s c.rounds.machine h (sym (c.is_over.ensures h.before h.stands) ∙ c.rounds-test.false)
