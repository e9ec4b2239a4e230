use Rattle.neph_flat.proofs.PageLemmas.{placed_set, few_same, few_at}
use Rattle.neph_flat.proofs.flat_pages.FlatPagesExposedPages.write.Goals as goal

pub invariant_of-self : goal.invariant_of-self
invariant_of-self c =
    placed_set _ _ _ c.self.invariant (few_same c.index_mut.result.now c.write.new.self (few_at _ _ c.index_mut.result.now c.self.invariant c.get.ensures.range c.index_mut.ensures.value) c.write.ensures.len)
