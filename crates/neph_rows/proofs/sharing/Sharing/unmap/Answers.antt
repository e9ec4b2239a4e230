use Rattle.std.proofs.Common.{sym, ap, ◌∙◌}
use Rattle.std.specs.Prelude.{is_some}
use Rattle.std.specs.FinMap as map
use Rattle.neph_rows.specs.declared.sharing.SharedTables.{SharedTables}
use Rattle.neph_rows.specs.Shares.{Shares, shares_of}
use Rattle.neph_rows.proofs.NoShares.{none_held}
use Rattle.neph_rows.proofs.sharing.Sharing.unmap.Goals.{in-Some, in-None}
use Rattle.neph_rows.proofs.sharing.Sharing.unmap.Goals as goal

pub returns-clause-value : goal.returns-clause-value
returns-clause-value c = elim c.match-self.branch [
  | in-Some w ↦ w.result-is ∙ w.remove.ensures.value ∙ ap (λ (t : SharedTables). is_some (map.get t.handles c.args.h)) w.deref_mut.ensures.value ∙ ap (λ (x : Shares). is_some (map.get x.handles c.args.h)) (ap shares_of (sym w.in-Some.is) ∙ c.self.view_is)
  | in-None w ↦ w.result-is ∙ none_held c.self.inside.tables c.args.self.now c.args.h c.self.view_is w.in-None.is
]
