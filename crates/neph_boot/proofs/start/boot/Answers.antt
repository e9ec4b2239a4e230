use Rattle.std.proofs.Common.{sym, ap, subst, ◌∙◌}
use Rattle.neph_model.specs.declared.script.Script.{Script}
use Rattle.neph_model.specs.Books.{start_state}
use Rattle.neph_model.specs.Start.{start_machine}
use Rattle.neph_model.specs.WellFormed.{IsWellFormed}
use Rattle.neph_rows.specs.Records.{records_in}
use Rattle.neph_machine.specs.StandsFor.{StandsFor}
use Rattle.neph_boot.proofs.StartStands.{start_stands}
use Rattle.neph_boot.proofs.start.boot.Goals as goal

pub returns-clause-stands : goal.returns-clause-stands
returns-clause-stands g c =
    let W = g.P.FramePool.world in
    let m = c.open_lines.new.m in
    let kept = c.in_ok-open_lines.ensures.kept in
    let same = kept.script ∙ c.in_ok-m.ensures.script in
    let well = subst IsWellFormed (sym same) c.requires.formed in
    let registry = kept.registry ∙ c.in_ok-m.ensures.registry ∙ ap (λ (s : Script). records_in (start_machine s).shared) (sym same) in
    subst (λ (s : Script). StandsFor W m (start_state s)) same
    (start_stands W m well c.in_ok-open_lines.ensures.opening registry c.requires.surveyed)
