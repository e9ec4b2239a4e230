use Rattle.std.proofs.Common.{◌==◌, ap, ◌∙◌, not, rules}
use Rattle.std.proofs.lemmas.Fn.{filter_same}
use Rattle.neph_heap.specs.declared.exposed_frame.ExposedFrame.{ExposedFrame}
use Rattle.neph_heap.specs.Lists.{pages_but}
use Rattle.neph_heap.proofs.page_list.PageList.remove.Goals as goal

pub returns : goal.returns
returns c = filter_same _ (λ (x : ExposedFrame). not (x.pfn == c.args.pfn)) _ (λ x b f' k. search rules) _ _ c.retain.ensures.filtered ∙ ap (pages_but c.args.pfn) c.self.view_is
