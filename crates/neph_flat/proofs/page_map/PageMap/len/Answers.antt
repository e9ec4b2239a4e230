use Rattle.std.proofs.Common.{sym, ap, ◌∙◌}
use Rattle.std.specs.FinMap as map
use Rattle.neph_base.proofs.MapLemmas.{len_at}
use Rattle.neph_flat.proofs.page_map.PageMap.len.Goals as goal

pub returns : goal.returns
returns c = c.len.ensures.len ∙ sym (len_at c.self.inside.pages.entries c.len.ensures.ordered) ∙ ap map.len c.self.view_is
