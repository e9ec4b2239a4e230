use Rattle.std.proofs.Common.{List, drop}
use Rattle.neph_base.specs.declared.reply.Actor.{Actor}
use Rattle.neph_core.specs.Course.{Stands}
use Rattle.neph_core.proofs.Standing.{GoneOn}
use Rattle.neph_core.proofs.rounds.take_turns.Given as goal

abbrev pub invariant-loop-actor : goal.invariant-loop-actor
invariant-loop-actor l = (before : List Actor) → Stands l.fn.machine before → GoneOn l.fn.machine before l.actors l.machine l.moved (drop l.actor-index l.actors)
