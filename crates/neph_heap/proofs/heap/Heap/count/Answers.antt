use Rattle.std.proofs.Common.{ap, sym, ◌∙◌, length, arith}
use Rattle.std.specs.FinMap as fm
use Rattle.neph_heap.specs.Lists.{exposed_of}
use Rattle.neph_heap.proofs.Maps.{pages_at}
use Rattle.neph_heap.proofs.Filled.{page_count}
use Rattle.neph_heap.proofs.heap.Heap.count.Goals as goal

pub returns-clause-value : goal.returns-clause-value
returns-clause-value g c = λ es.
    let l = c.args.self.now.stock in
    ap length c.exposed.ensures.pages ∙ sym (page_count es (exposed_of c.args.id l) c.requires.once) ∙ ap fm.len (sym (pages_at es l.exposed c.args.id))

pub returns-clause-few : goal.returns-clause-few
returns-clause-few g c = let e = ap length c.exposed.ensures.pages in let f = c.requires.few in omega arith
