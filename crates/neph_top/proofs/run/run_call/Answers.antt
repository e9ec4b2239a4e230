use Rattle.neph_top.proofs.Numbered.{answers_run}
use Rattle.neph_top.proofs.run.run_call.Goals as goal

pub returns : goal.returns
returns g c = rw c.number.ensures (answers_run _ c.call-status.result c.call-status.ensures)
