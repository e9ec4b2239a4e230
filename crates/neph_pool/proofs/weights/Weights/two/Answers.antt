use Rattle.std.proofs.Common.{sym, arith}
use Rattle.neph_pool.proofs.Holding.{two_light, two_sum, two_whole}
use Rattle.neph_pool.proofs.weights.Weights.two.Goals as goal

pub invariant_of-result : goal.invariant_of-result
invariant_of-result c = record { whole = two_whole c.args.row; light = two_light c.args.row; counted = sym (two_sum c.args.row c.requires); some = omega arith }
