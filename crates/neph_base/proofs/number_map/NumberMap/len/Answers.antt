use Rattle.std.proofs.Common.{sym, ap, ◌∙◌}
use Rattle.std.specs.FinMap as map
use Rattle.neph_base.proofs.MapLemmas.{len_at}
use Rattle.neph_base.proofs.number_map.NumberMap.len.Goals as goal

pub returns : goal.returns
returns g c = c.len.ensures.len ∙ sym (len_at c.self.inside.entries.entries c.len.ensures.ordered) ∙ ap map.len c.self.view_is
