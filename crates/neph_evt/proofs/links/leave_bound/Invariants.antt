use Rattle.neph_evt.specs.Closing.{port_after_close}
use Rattle.neph_evt.proofs.Columns.{ColumnBelow}
use Rattle.neph_evt.proofs.links.leave_bound.Given as goal

abbrev pub invariant-loop-at : goal.invariant-loop-at
invariant-loop-at l = ColumnBelow (λ at. port_after_close l.dom l.number) l.number l.at l.initial.table l.table
