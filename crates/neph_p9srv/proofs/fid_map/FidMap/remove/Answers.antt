use Rattle.std.proofs.Common.{ap, ◌∙◌}
use Rattle.std.specs.FinMap as fin
use Rattle.neph_base.proofs.MapLemmas.{one_cut}
use Rattle.neph_p9srv.proofs.fid_map.FidMap.remove.Goals as goal

pub returns : goal.returns
returns c =
    one_cut c.self.inside.entries.entries c.remove.new.self.entries c.args.fid c.remove.ensures.updates.0 ∙ ap (λ m. fin.remove m c.args.fid) c.self.view_is
