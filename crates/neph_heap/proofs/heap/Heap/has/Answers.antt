use Rattle.std.proofs.Common.{ap, sym, ◌∙◌}
use Rattle.std.specs.Prelude.{is_some}
use Rattle.neph_heap.proofs.Maps.{shown_is}
use Rattle.neph_heap.proofs.heap.Heap.has.Goals as goal

pub returns : goal.returns
returns g c = λ es. c.is_some.ensures ∙ ap is_some c.frame.ensures.frame ∙ sym (shown_is es c.args.self.now.stock.exposed c.args.id c.args.pfn)
