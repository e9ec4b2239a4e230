use Rattle.std.proofs.Common.{sym, ap, ◌∙◌}
use Rattle.std.specs.FinMap as map
use Rattle.neph_base.proofs.MapLemmas.{get_at}
use Rattle.neph_flat.proofs.page_map.PageMap.get.Goals as goal

pub returns : goal.returns
returns c =
    c.get.ensures.value ∙ sym (get_at c.self.inside.pages.entries c.args.pfn) ∙ ap (λ m. map.get m c.args.pfn) c.self.view_is
