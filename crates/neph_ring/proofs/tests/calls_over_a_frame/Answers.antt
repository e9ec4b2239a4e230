use Rattle.std.proofs.Common.{◌<◌, ◌∙◌, ap, arith, List}
use Rattle.std.specs.declared.option.Option.{Option}
use Rattle.neph_pool.specs.declared.entry.Entry.{Entry}
use Rattle.neph_pool.specs.Entries.{hold_at}
use Rattle.neph_pool.specs.Rows.{blank_entry}
use Rattle.neph_pool.proofs.Parts.{hold_at-replicate}
use Rattle.neph_ring.proofs.tests.calls_over_a_frame.Goals as goal

pub in_frame-requires-clause-frame : goal.in_frame-requires-clause-frame
unfolding blank_entry
in_frame-requires-clause-frame g c =
    let start = c.in_ok-pool.ensures in
    let small : c.in_ok-f.f < 2 = omega (arith, c.get.ensures.value) in
    ap (λ (es : List (Option Entry)). hold_at es c.in_ok-f.f) start.entries ∙ hold_at-replicate 2 c.in_ok-f.f blank_entry small
