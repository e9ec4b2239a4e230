use Rattle.std.proofs.Common.{List, ap, ◌∙◌}
use Rattle.std.specs.declared.option.Option.{Option}
use Rattle.neph_pool.specs.declared.entry.Entry.{Entry}
use Rattle.neph_pool.specs.Entries.{hold_at}
use Rattle.neph_pool.specs.Rows.{blank_entry}
use Rattle.neph_pool.proofs.Parts.{hold_at-replicate}
use Rattle.neph_pool.proofs.tests.copied_over.Goals as goal

pub copied-requires-clause-from : goal.copied-requires-clause-from
unfolding blank_entry
copied-requires-clause-from c =
    ap (λ (es : List (Option Entry)). hold_at es c.args.f) c.in_ok-pool.ensures.entries ∙ hold_at-replicate c.args.frames c.args.f blank_entry c.requires.from

pub copied-requires-clause-to : goal.copied-requires-clause-to
unfolding blank_entry
copied-requires-clause-to c =
    ap (λ (es : List (Option Entry)). hold_at es c.args.to) c.in_ok-pool.ensures.entries ∙ hold_at-replicate c.args.frames c.args.to blank_entry c.requires.to
