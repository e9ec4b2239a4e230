use Rattle.neph_flat.proofs.PageLemmas.{placed_set, few_less, few_at}
use Rattle.neph_flat.proofs.flat_pages.FlatPages.take.Goals as goal

pub invariant_of-self : goal.invariant_of-self
invariant_of-self c =
    placed_set _ _ _ c.self.invariant (few_less c.index_mut.result.now c.take.new.self c.get-2.result (few_at _ _ c.index_mut.result.now c.self.invariant c.get.ensures.range c.index_mut.ensures.value) c.take.ensures.rest)
