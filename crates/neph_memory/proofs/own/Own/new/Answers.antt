use Rattle.std.proofs.Common.{◌∙◌}
use Rattle.neph_memory.proofs.Places.{unmarked_more}
use Rattle.neph_memory.proofs.own.Own.new.Goals as goal

pub loop-p-preserved : goal.loop-p-preserved
loop-p-preserved c = c.in_ok-push.ensures.items ∙ unmarked_more _ _ c.loop-p.invariant
