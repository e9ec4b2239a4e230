use Rattle.neph_grant.proofs.CountLemmas.{blank_counted}
use Rattle.neph_grant.proofs.SlotLemmas.{slots-none}
use Rattle.neph_grant.proofs.table.GrantTable.new.Goals as goal

pub invariant_of-result : goal.invariant_of-result
invariant_of-result c = blank_counted

pub returns : goal.returns
returns c = slots-none 64
