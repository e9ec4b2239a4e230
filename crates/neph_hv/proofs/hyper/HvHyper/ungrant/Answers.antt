use Rattle.neph_hv.proofs.Granting.{ungranted_answered}
use Rattle.neph_hv.proofs.hyper.HvHyper.ungrant.Goals as goal

pub returns-clause-answer : goal.returns-clause-answer
returns-clause-answer g c =
    ungranted_answered g.P.FramePool.world c.args.pool.now c.args.self.now c.args.d.now c.ungrant.new.pool c.ungrant.new.self c.ungrant.new.d c.args.reference c.ungrant.result c.ungrant.ensures.done
