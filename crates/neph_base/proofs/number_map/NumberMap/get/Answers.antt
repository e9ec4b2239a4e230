use Rattle.std.proofs.Common.{sym, ap, ◌∙◌}
use Rattle.std.specs.FinMap as map
use Rattle.neph_base.proofs.MapLemmas.{get_at}
use Rattle.neph_base.proofs.number_map.NumberMap.get.Goals as goal

pub returns : goal.returns
returns g c =
    c.get.ensures.value ∙ sym (get_at c.self.inside.entries.entries c.args.at) ∙ ap (λ m. map.get m c.args.at) c.self.view_is
