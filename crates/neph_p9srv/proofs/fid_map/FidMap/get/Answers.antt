use Rattle.std.proofs.Common.{sym, ap, ◌∙◌}
use Rattle.std.specs.FinMap as fin
use Rattle.neph_base.proofs.MapLemmas.{get_at}
use Rattle.neph_p9srv.proofs.fid_map.FidMap.get.Goals as goal

pub returns : goal.returns
returns c = c.copied.ensures ∙ c.get.ensures.value ∙ sym (get_at c.self.inside.entries.entries c.args.fid) ∙ ap (λ m. fin.get m c.args.fid) c.self.view_is
