use Rattle.std.proofs.Common.{ℕ, List, arith, ap, ◌∙◌}
use Rattle.std.specs.Ordering.{nat_cmp}
use Rattle.std.specs.FinMap as map
use Rattle.neph_flat.proofs.PageLemmas.{placed_set}
use Rattle.neph_flat.proofs.flat_pages.FlatPagesExposedPages.end.Goals as goal

pub invariant_of-self : goal.invariant_of-self
invariant_of-self c = placed_set _ _ _ c.self.invariant (omega (arith, ap map.len c.new.ensures ∙ map.len-empty nat_cmp (List ℕ)))
