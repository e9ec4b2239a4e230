use Rattle.std.proofs.Common.{◌∙◌, sym}
use Rattle.neph_pool.proofs.Holding.{only_others}
use Rattle.neph_pool.proofs.owners.Owners.look.Goals as goal

pub returns-then-count-eq1-clause-others : goal.returns-then-count-eq1-clause-others
returns-then-count-eq1-clause-others c = λ r n. only_others c.args.self.now c.args.row r (sym c.total-count.ensures ∙ c.if-count-eq1.true) c.requires.once n
