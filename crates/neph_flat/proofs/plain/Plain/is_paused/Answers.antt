use Rattle.std.proofs.Common.{ap, ◌∙◌}
use Rattle.neph_model.specs.Step.{is_paused}
use Rattle.neph_flat.specs.Flat.{Flat}
use Rattle.neph_flat.proofs.plain.Plain.is_paused.Goals as goal

pub returns : goal.returns
returns c = c.is_paused.ensures c.self.inside.halves.pages ∙ ap (λ (x : Flat). is_paused c.args.id x.machine.shared) c.self.view_is
