use Rattle.std.proofs.Common.{is_none}
use Rattle.std.specs.FinMap as map
use Rattle.neph_grant.specs.declared.handles.TheConstants.{HANDLES}
use Rattle.neph_grant.proofs.BelowLemmas.{least_below_some}
use Rattle.neph_grant.proofs.SlotLemmas.{is_empty, is_filled}
use Rattle.neph_grant.proofs.laws.free_handle_is_least.Goals as goal

pub returns : goal.returns
returns c m h e =
    let l = least_below_some HANDLES (λ k. is_none (map.get m k)) h e in
    (is_empty (map.get m h) l.0, λ k below. is_filled (map.get m k) (l.1 k below))
