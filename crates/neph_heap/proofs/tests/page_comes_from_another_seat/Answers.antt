use Rattle.std.proofs.Common.{◌<◌, [], length, ap, ◌∙◌, arith}
use Rattle.neph_pool.specs.Entries.{hold_at}
use Rattle.neph_pool.specs.Rows.{blank_entry}
use Rattle.neph_pool.proofs.Parts.{hold_at-replicate}
use Rattle.neph_heap.proofs.Counting.{times_at}
use Rattle.neph_heap.proofs.Heaps.{apart_both}
use Rattle.neph_heap.proofs.Steps.{has_sole}
use Rattle.neph_heap.proofs.tests.page_comes_from_another_seat.Goals as goal

pub start-requires-clause-zero : goal.start-requires-clause-zero
unfolding blank_entry
start-requires-clause-zero g c = λ f lt. ap (λ es. hold_at es f) c.in_ok-pool.ensures.entries ∙ hold_at-replicate 16 f blank_entry lt

pub lent_page-requires-clause-apart : goal.lent_page-requires-clause-apart
lent_page-requires-clause-apart g c = λ d x y. apart_both _ _ _ c.unwrap-id.result c.in_ok-seat.ensures.names c.in_ok-seat.ensures.made.names d y x

pub lent_page-requires-clause-sole : goal.lent_page-requires-clause-sole
lent_page-requires-clause-sole g c =
    let xs = c.in_ok-seat.frames.items in
    let fit : 0 < length xs = omega (arith, c.in_ok-seat.ensures.count) in
    has_sole _ [] xs [] c.in_ok-seat.ensures.made.has c.index.result.now (times_at xs 0 c.index.result.now fit c.index.ensures)
