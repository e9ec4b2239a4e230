use Rattle.neph_pool.proofs.Start.{started}
use Rattle.neph_pool.proofs.plain_pool.PlainPool.new.Goals as goal

pub returns : goal.returns
returns c = rw c.from.ensures (started c.args.frames c.args.cap _ c.requires.frames.1 c.in_ok-new.ensures)
