use Rattle.std.proofs.Common.{sym, subst}
use Rattle.neph_model.specs.WellFormed.{IsWellFormed}
use Rattle.neph_top.proofs.Answered.{ends_tallied}
use Rattle.neph_top.proofs.call.text_of.Goals as goal

pub end-requires-clause-formed : goal.end-requires-clause-formed
end-requires-clause-formed c = subst IsWellFormed (sym c.in_ok-machine.ensures.plays.script) c.requires

pub end-requires-clause-running : goal.end-requires-clause-running
end-requires-clause-running c = (c.in_ok-machine.ensures.before, c.in_ok-machine.ensures.stands)

pub returns : goal.returns
returns c =
    let played = c.in_ok-machine.field-0 in
    ends_tallied c.args.script played.machine played.stalled c.end.result c.args.tally.now c.end.new.tally c.requires c.in_ok-machine.ensures c.end.ensures.text c.end.ensures.tally
