use Rattle.std.proofs.Common.{sym, ap, ◌∙◌}
use Rattle.neph_base.specs.declared.reply.Entry.{Entry}
use Rattle.neph_model.specs.Step.{is_due}
use Rattle.neph_flat.specs.Halves.{seen}
use Rattle.neph_flat.proofs.halves.Halves.is_due.Goals as goal

pub returns-in-Line-clause-due : goal.returns-in-Line-clause-due
returns-in-Line-clause-due c = λ s. c.is_line_due.ensures.due s ∙ ap (λ (e : Entry). is_due s (seen c.args.self.now) e) (sym c.in-Line.is)

pub returns-in-Commit-clause-due : goal.returns-in-Commit-clause-due
returns-in-Commit-clause-due c = λ s. c.is_commit_due.ensures.due s ∙ ap (λ (e : Entry). is_due s (seen c.args.self.now) e) (sym c.in-Commit.is)
