use Rattle.std.proofs.Common.{◌<◌, List, ap, ◌∙◌, arith}
use Rattle.std.specs.declared.option.Option.{Option}
use Rattle.neph_pool.specs.declared.entry.Entry.{Entry}
use Rattle.neph_pool.specs.Entries.{hold_at}
use Rattle.neph_pool.specs.Rows.{blank_entry}
use Rattle.neph_pool.proofs.Parts.{hold_at-replicate}
use Rattle.neph_pool.proofs.tests.shares_are_tallied.Goals as goal

pub share_out-requires-clause-frame : goal.share_out-requires-clause-frame
unfolding blank_entry
share_out-requires-clause-frame g c =
    let small : c.in_ok-f.f < 1 = omega (arith, c.get.ensures.value) in
    ap (λ (es : List (Option Entry)). hold_at es c.in_ok-f.f) c.in_ok-pool.ensures.entries ∙ hold_at-replicate 1 c.in_ok-f.f blank_entry small
