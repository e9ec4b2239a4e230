use Rattle.std.proofs.Common.{arith}
use Rattle.neph_rows.proofs.SlotFacts.{few_begun}
use Rattle.neph_rows.proofs.registry.Registry.begun_count.Goals as goal

pub overflow_cast-result : goal.overflow_cast-result
overflow_cast-result c =
    omega (arith, few_begun c.self.inside c.get.result c.args.id c.index.result.now c.self.invariant (omega (arith, c.get.ensures.value, c.get.ensures.range)) c.get.ensures.value c.index.ensures, c.len.ensures)

pub returns-clause-few : goal.returns-clause-few
returns-clause-few c =
    omega (arith, few_begun c.self.inside c.get.result c.args.id c.index.result.now c.self.invariant (omega (arith, c.get.ensures.value, c.get.ensures.range)) c.get.ensures.value c.index.ensures, c.len.ensures)
