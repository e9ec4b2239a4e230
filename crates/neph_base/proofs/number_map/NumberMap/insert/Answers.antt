use Rattle.std.proofs.Common.{sym, ap, ◌∙◌}
use Rattle.std.specs.FinMap as map
use Rattle.neph_base.proofs.MapLemmas.{get_at, one_put, at_err}
use Rattle.neph_base.proofs.number_map.NumberMap.insert.Goals as goal

pub returns-clause-ok : goal.returns-clause-ok
returns-clause-ok g c =
    one_put c.self.inside.entries.entries c.insert.new.self.entries c.args.at c.args.to c.in_ok-insert.ensures.updates.0 ∙ ap (λ m. map.insert m c.args.at c.args.to) c.self.view_is

pub returns-in_err-insert-clause-absent : goal.returns-in_err-insert-clause-absent
returns-in_err-insert-clause-absent g c =
    at_err c.from_residual.result (ap (λ m. map.get m c.args.at) (sym c.self.view_is) ∙ get_at c.self.inside.entries.entries c.args.at ∙ c.in_err-insert.ensures.absent)
