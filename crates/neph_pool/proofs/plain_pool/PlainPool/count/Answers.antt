use Rattle.neph_pool.proofs.Seats.{all_counted}
use Rattle.neph_pool.proofs.plain_pool.PlainPool.count.Goals as goal

pub returns-clause-sums : goal.returns-clause-sums
returns-clause-sums c = λ seats all. all_counted c.args.self.now seats all
