use Rattle.neph_flat.proofs.PageLemmas.{placed_set, few_same, few_at}
use Rattle.neph_flat.proofs.flat_pages.FlatPagesExposedPages.bear.Goals as goal

pub invariant_of-self : goal.invariant_of-self
invariant_of-self c =
    placed_set _ _ _ c.self.invariant (few_same c.index.result.now c.in_ok-born.born (few_at _ _ c.index.result.now c.self.invariant c.get.ensures.range c.index.ensures) c.in_ok-born.ensures.len)
