use Rattle.neph_evt.specs.Sending.{port_after_send}
use Rattle.neph_evt.proofs.Columns.{ColumnBelow}
use Rattle.neph_evt.proofs.links.raise_bound.Given as goal

abbrev pub invariant-loop-at : goal.invariant-loop-at
invariant-loop-at l = ColumnBelow (port_after_send l.dom l.number) l.number l.at l.initial.table l.table
