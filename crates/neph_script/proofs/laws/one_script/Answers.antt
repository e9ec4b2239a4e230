use Rattle.std.proofs.Common.{sym, ◌∙◌}
use Rattle.neph_script.proofs.Inverse.{same_read}
use Rattle.neph_script.proofs.SpellsLaws.{spelled_only}
use Rattle.neph_script.proofs.laws.one_script.Goals as goal

pub returns : goal.returns
returns c bytes s t p q = same_read s t (sym (spelled_only bytes s p) ∙ spelled_only bytes t q)
