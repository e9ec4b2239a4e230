use Rattle.std.proofs.Common.{List, ap, ◌∙◌}
use Rattle.std.specs.declared.option.Option.{Option}
use Rattle.neph_pool.specs.declared.entry.Entry.{Entry}
use Rattle.neph_pool.specs.Entries.{hold_at}
use Rattle.neph_pool.specs.Rows.{blank_entry}
use Rattle.neph_pool.proofs.Parts.{hold_at-replicate}
use Rattle.neph_machine.proofs.Surveying.{plain_surveyed}
use Rattle.neph_core.proofs.machine.Machine.new.Goals as goal

pub boot-requires-clause-surveyed : goal.boot-requires-clause-surveyed
boot-requires-clause-surveyed c = plain_surveyed

pub boot-requires-clause-zero : goal.boot-requires-clause-zero
unfolding blank_entry
boot-requires-clause-zero c = λ f lt.
    ap (λ (es : List (Option Entry)). hold_at es f) c.in_ok-pool.ensures.entries ∙ hold_at-replicate c.args.s.frames f blank_entry lt
