use Rattle.std.proofs.Common.{sym, ap, ◌∙◌}
use Rattle.std.specs.FinMap as fin
use Rattle.neph_p9srv.proofs.FidLemmas.{entries_len}
use Rattle.neph_p9srv.proofs.fid_map.FidMap.len.Goals as goal

pub returns : goal.returns
returns c = c.len.ensures.len ∙ sym (entries_len c.self.inside.entries.entries c.len.ensures.ordered) ∙ ap fin.len c.self.view_is
