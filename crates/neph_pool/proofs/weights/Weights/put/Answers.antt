use Rattle.std.proofs.Common.{arith}
use Rattle.neph_pool.proofs.Holding.{light_sum}
use Rattle.neph_pool.proofs.weights.Weights.put.Goals as goal

pub overflow_add-self : goal.overflow_add-self
overflow_add-self c = let w = c.args.self.now in omega (arith, light_sum w.by_row w.light, w.whole, w.counted)
