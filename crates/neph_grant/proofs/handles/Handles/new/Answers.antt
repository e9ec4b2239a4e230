use Rattle.neph_grant.proofs.SlotLemmas.{slots-none}
use Rattle.neph_grant.proofs.handles.Handles.new.Goals as goal

pub returns : goal.returns
returns c = slots-none 64
