use Rattle.std.proofs.Common.{sym, ap, ◌∙◌}
use Rattle.neph_grant.specs.Table.{end_answer}
use Rattle.neph_rows.specs.declared.sharing.SharedTables.{SharedTables}
use Rattle.neph_rows.specs.Shares.{Shares, shares_of}
use Rattle.neph_rows.proofs.NoShares.{none_ended}
use Rattle.neph_rows.proofs.sharing.Sharing.end.Goals.{in-Some, in-None}
use Rattle.neph_rows.proofs.sharing.Sharing.end.Goals as goal

pub returns-clause-answer : goal.returns-clause-answer
returns-clause-answer c = elim c.match-self.branch [
  | in-Some w ↦ w.result-is ∙ w.end.ensures.answer ∙ ap (λ (t : SharedTables). end_answer t.grants c.args.r c.args.mapped) w.deref_mut.ensures.value
      ∙ ap (λ (x : Shares). end_answer x.grants c.args.r c.args.mapped) (ap shares_of (sym w.in-Some.is) ∙ c.self.view_is)
  | in-None w ↦ w.result-is ∙ none_ended c.self.inside.tables c.args.self.now c.args.r c.args.mapped c.self.view_is w.in-None.is
]
