use Rattle.std.proofs.Common.{sym, ap, ◌∙◌}
use Rattle.std.specs.FinMap as map
use Rattle.neph_base.proofs.MapLemmas.{one_cut, get_at}
use Rattle.neph_base.proofs.number_map.NumberMap.remove.Goals as goal

pub returns-clause-removed : goal.returns-clause-removed
returns-clause-removed g c =
    one_cut c.self.inside.entries.entries c.remove.new.self.entries c.args.at c.remove.ensures.updates.0 ∙ ap (λ m. map.remove m c.args.at) c.self.view_is

pub returns-clause-value : goal.returns-clause-value
returns-clause-value g c =
    c.remove.ensures.value ∙ sym (get_at c.self.inside.entries.entries c.args.at) ∙ ap (λ m. map.get m c.args.at) c.self.view_is
