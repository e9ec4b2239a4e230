use Rattle.std.proofs.Common.{◌-◌}
use Rattle.neph_core.proofs.Standing.{InRound}
use Rattle.neph_core.proofs.rounds.take_round.Given as goal

abbrev pub invariant-domains : goal.invariant-domains
invariant-domains l = InRound l.fn.machine l.machine l.moved l.from

abbrev pub decreases-domains : goal.decreases-domains
decreases-domains l = 64 - l.from
