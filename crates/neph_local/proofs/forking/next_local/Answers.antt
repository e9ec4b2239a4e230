use Rattle.neph_local.proofs.Sprouted.{none_after}
use Rattle.neph_local.proofs.forking.next_local.Goals as goal

pub returns-clause-none : goal.returns-clause-none
returns-clause-none c = λ h. none_after c.args.map.now.pages c.args.from c.loop-n.n c.len-pages.result c.loop-n.invariant c.loop-n-test.false c.len-pages.ensures.count
