use Rattle.neph_tree.proofs.HomeLemmas.{AreCleared}
use Rattle.neph_tree.proofs.homes.clear_within.Given as goal

abbrev pub invariant-loop-d : goal.invariant-loop-d
invariant-loop-d l = AreCleared l.initial.counts l.counts l.top l.d
