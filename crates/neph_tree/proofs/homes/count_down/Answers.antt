use Rattle.neph_tree.proofs.HomeLemmas.{down_at}
use Rattle.neph_tree.proofs.homes.count_down.Goals as goal

pub returns-in-Some : goal.returns-in-Some
returns-in-Some c = λ d inside. down_at c.args.counts.now c.in-Some.d c.args.gone c.args.top.now c.told-counts c.in-Some.ensures.some.0 c.in-Some.ensures.some.1 d
