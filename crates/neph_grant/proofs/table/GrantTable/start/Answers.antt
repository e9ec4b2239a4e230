use Rattle.std.proofs.Common.{◌∙◌}
use Rattle.std.specs.Ordering.{nat_cmp}
use Rattle.std.specs.Cmp.{nat_cmp_total}
use Rattle.std.specs.FinMap.{get-empty, get-insert}
use Rattle.neph_grant.proofs.table.GrantTable.start.Goals as goal

pub put-requires-clause-free : goal.put-requires-clause-free
put-requires-clause-free c = rw c.new-table.ensures (get-empty nat_cmp 0)

pub put-requires-2-clause-free : goal.put-requires-2-clause-free
put-requires-2-clause-free c = rw (c.put.ensures, c.new-table.ensures) (get-insert nat_cmp_total _ 0 _ 1 ∙ get-empty nat_cmp 1)

pub put-requires-3-clause-free : goal.put-requires-3-clause-free
put-requires-3-clause-free c = rw (c.put-2.ensures, c.put.ensures, c.new-table.ensures) (get-insert nat_cmp_total _ 1 _ 2 ∙ get-insert nat_cmp_total _ 0 _ 2 ∙ get-empty nat_cmp 2)
