use Rattle.std.proofs.Common.{ap, ◌∙◌}
use Rattle.std.specs.FinMap as fin
use Rattle.neph_base.proofs.MapLemmas.{one_put}
use Rattle.neph_p9srv.proofs.fid_map.FidMap.insert.Goals as goal

pub returns-clause-ok : goal.returns-clause-ok
returns-clause-ok c =
    one_put c.self.inside.entries.entries c.insert.new.self.entries c.args.fid c.args.to c.in_ok-insert.ensures.updates.0 ∙ ap (λ m. fin.insert m c.args.fid c.args.to) c.self.view_is
