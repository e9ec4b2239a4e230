use Rattle.std.proofs.Common.{sym, ap, ◌∙◌}
use Rattle.neph_pool.specs.Owners.{total_of}
use Rattle.neph_pool.proofs.Sharers.{kept_here, own_here, many_here}
use Rattle.neph_pool.proofs.holders.Holders.total.Goals as goal

pub returns-in-Kept : goal.returns-in-Kept
returns-in-Kept c = sym (ap total_of (kept_here c.args.self.now c.args.f c.index.result.now c.requires c.index.ensures _ c.in-Kept.is))

pub returns-in-Own : goal.returns-in-Own
returns-in-Own c = sym (ap total_of (own_here c.args.self.now c.args.f c.index.result.now c.requires c.index.ensures _ c.in-Own.is))

pub returns-in-Shared : goal.returns-in-Shared
returns-in-Shared c =
    c.total.ensures ∙ sym (ap total_of (many_here c.args.self.now c.args.f c.index.result.now c.requires c.index.ensures c.index-in-Shared.result.now c.index-in-Shared-2.result.now c.in-Shared.is c.index-in-Shared.ensures c.index-in-Shared-2.ensures))
