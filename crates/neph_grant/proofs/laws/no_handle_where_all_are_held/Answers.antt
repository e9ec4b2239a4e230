use Rattle.std.proofs.Common.{is_none}
use Rattle.std.specs.FinMap as map
use Rattle.neph_grant.specs.declared.handles.TheConstants.{HANDLES}
use Rattle.neph_grant.proofs.BelowLemmas.{least_below_none}
use Rattle.neph_grant.proofs.SlotLemmas.{is_filled}
use Rattle.neph_grant.proofs.laws.no_handle_where_all_are_held.Goals as goal

pub returns : goal.returns
returns c m e h below = is_filled (map.get m h) (least_below_none HANDLES (λ k. is_none (map.get m k)) e h below)
