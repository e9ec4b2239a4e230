use Rattle.neph_rows.proofs.LiveIds.{AreLiveBelow}
use Rattle.neph_rows.proofs.live_ids.live_ids.Given as goal

abbrev pub invariant-loop-id : goal.invariant-loop-id
invariant-loop-id l = AreLiveBelow l.ids l.lives l.id
