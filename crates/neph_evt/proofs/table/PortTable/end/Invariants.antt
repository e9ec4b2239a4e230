use Rattle.neph_evt.proofs.Ends.{EndedBelow}
use Rattle.neph_evt.proofs.table.PortTable.end.Given as goal

abbrev pub invariant-loop-at : goal.invariant-loop-at
invariant-loop-at l = EndedBelow l.dom l.at l.initial.self-inside.places.items l.self-inside.places.items
