use Rattle.neph_evt.proofs.Keeping.{CopiedBelow}
use Rattle.neph_evt.proofs.links.copy.Given as goal

abbrev pub invariant-loop-number : goal.invariant-loop-number
invariant-loop-number l = CopiedBelow l.parent l.child l.number l.initial.table l.table
