use Rattle.neph_tree.proofs.HomeLemmas.{up_at}
use Rattle.neph_tree.proofs.homes.count_up.Goals as goal

pub returns-in-Some : goal.returns-in-Some
returns-in-Some c = λ d inside. up_at c.args.counts.now c.in-Some.d c.args.path.now c.told-counts c.in-Some.ensures.some.0 c.in-Some.ensures.some.1 d
