use Rattle.std.proofs.Common.{ℕ, sym, ap, ◌∙◌}
use Rattle.std.specs.Prelude.{nat_lt}
use Rattle.neph_pool.specs.declared.owners.Owners.{Owners}
use Rattle.neph_pool.specs.Entries.{is_here}
use Rattle.neph_pool.specs.Owners.{held_by}
use Rattle.neph_pool.proofs.Holding.{here_spare, here_own, here_many}
use Rattle.neph_pool.proofs.Sharers.{kept_here, own_here, many_here}
use Rattle.neph_pool.proofs.holders.Holders.holds.Goals as goal

pub returns-in-Kept : goal.returns-in-Kept
returns-in-Kept c = here_spare c.in-Kept.own c.args.row ∙ sym (ap (λ (o : Owners). is_here (held_by c.args.row o)) (kept_here c.args.self.now c.args.f c.index.result.now c.requires.frame c.index.ensures _ c.in-Kept.is))

pub returns-in-Own : goal.returns-in-Own
returns-in-Own c = here_own c.in-Own.own c.args.row ∙ sym (ap (λ (o : Owners). is_here (held_by c.args.row o)) (own_here c.args.self.now c.args.f c.index.result.now c.requires.frame c.index.ensures _ c.in-Own.is))

pub returns-in-Shared : goal.returns-in-Shared
returns-in-Shared c =
    ap (λ (n : ℕ). nat_lt 0 n) c.at.ensures ∙ here_many _
    ∙ sym (ap (λ (o : Owners). is_here (held_by c.args.row o)) (many_here c.args.self.now c.args.f c.index.result.now c.requires.frame c.index.ensures c.index-in-Shared.result.now c.index-in-Shared-2.result.now c.in-Shared.is c.index-in-Shared.ensures c.index-in-Shared-2.ensures))
