use Rattle.std.proofs.Common.{arith}
use Rattle.neph_pool.proofs.Telling.{told}
use Rattle.neph_pool.proofs.plain_pool.PlainPoolFramePool.tell.Goals as goal

pub returns-clause-room : goal.returns-clause-room
returns-clause-room c = omega (arith, told c.args.self.now c.args.s.now c.requires.seat c.requires.name)
