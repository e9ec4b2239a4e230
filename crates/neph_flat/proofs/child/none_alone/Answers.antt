use Rattle.neph_flat.proofs.StartLists.{false_more}
use Rattle.neph_flat.proofs.child.none_alone.Goals as goal

pub loop-page-preserved : goal.loop-page-preserved
loop-page-preserved c = false_more c.args.alone.now c.loop-page.list.items c.push.new.self.items c.loop-page._page-index c.loop-page-test.true c.in_ok-push.ensures.items c.loop-page.invariant
