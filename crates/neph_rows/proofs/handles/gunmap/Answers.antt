use Rattle.std.proofs.Common.{List, ap, ◌∙◌}
use Rattle.neph_model.specs.declared.life.Guest.{Guest}
use Rattle.neph_rows.specs.Kept.{records_of}
use Rattle.neph_rows.specs.Records.{Records, without_shares}
use Rattle.neph_rows.proofs.RecordRows.{made}
use Rattle.neph_rows.proofs.handles.gunmap.Goals as goal

pub returns-clause-same : goal.returns-clause-same
returns-clause-same c =
    ap (λ (gs : List Guest). made c.r.inside.lives.items gs c.r.inside.next c.r.inside.waiting.items) c.unmap.ensures.bare ∙ ap without_shares c.r.view_is
