use Rattle.std.proofs.Common.{ap, ◌∙◌}
use Rattle.neph_pool.specs.Entries.{hold_at}
use Rattle.neph_pool.specs.Rows.{blank_entry}
use Rattle.neph_pool.proofs.Parts.{hold_at-replicate}
use Rattle.neph_heap.proofs.tests.page_is_exposed_and_taken_off.Goals as goal

pub start-requires-clause-zero : goal.start-requires-clause-zero
unfolding blank_entry
start-requires-clause-zero g c = λ f lt. ap (λ es. hold_at es f) c.in_ok-pool.ensures.entries ∙ hold_at-replicate 16 f blank_entry lt
