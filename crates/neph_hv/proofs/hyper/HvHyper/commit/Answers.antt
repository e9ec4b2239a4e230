use Rattle.neph_hv.proofs.Answering.{commit_answered}
use Rattle.neph_hv.proofs.hyper.HvHyper.commit.Goals as goal

pub returns-clause-child : goal.returns-clause-child
returns-clause-child g c =
    let e = c.commit.ensures in
    commit_answered g.P.FramePool.world c.args.pool.now c.args.self.now c.args.d.now c.commit.new.pool c.commit.new.self c.commit.new.d c.args.k c.commit.result
    e.child e.born e.id e.row
